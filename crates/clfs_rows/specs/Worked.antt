-- The log of the worked rows, and dialogues with it: lines of a script, each beside the reply to it.
use Rattle.std.specs.Prelude.{◌≡◌, ℕ, ◌*◌, List, [], ◌∷◌, ◌++◌, codes, replicate}
use Rattle.std.specs.List.{flat_map}
use Rattle.clfs_model.specs.declared.state.State.{State}
use Rattle.clfs_model.specs.State.{log_of}
use Rattle.clfs_model.specs.Run.{replies_of, state_after}
use Rattle.clfs_model.specs.Script.{script_requests}
use Rattle.clfs_model.specs.Text.{output_of}

-- the log of the rows: blocks of two sectors at most, two containers of eight sectors, four write buffers
abbrev pub worked : State
worked = log_of 2 8 2 4

-- the text of the replies to the text of a script, where nothing happens and memory suffices
abbrev pub answers_to : State → List ℕ → List ℕ
answers_to log script = output_of (script_requests script) (replies_of log (script_requests script))

-- a line of a script and the reply to it, both without their line feeds
pub record Exchange : Type 0 where
  pub line : List ℕ
  pub reply : List ℕ

infix 70 ◌⟹◌
-- this line is answered so
abbrev pub ◌⟹◌ : List ℕ → List ℕ → Exchange
line ⟹ reply = record { line = line; reply = reply }

-- the script: all lines, each with its line feed
abbrev pub script_of : List Exchange → List ℕ
script_of exchanges = flat_map (λ (exchange : Exchange). exchange.line ++ codes "\n") exchanges

-- the replies to its lines, each with its line feed
abbrev pub replies_text : List Exchange → List ℕ
replies_text exchanges = flat_map (λ (exchange : Exchange). exchange.reply ++ codes "\n") exchanges

-- The log answers the lines so, one after the other.
abbrev pub IsDialogue : State → List Exchange → Type 0
IsDialogue log exchanges = answers_to log (script_of exchanges) ≡ replies_text exchanges

-- with what most rows begin: a stream, and an area of client 1 on it
abbrev pub opening : List Exchange
opening = codes "1 open a" ⟹ codes "1 stream 1" ∷ codes "1 area 1 960 4" ⟹ codes "1 area 1" ∷ []

-- so many bytes of data, all zero, as two digits each
abbrev pub zeros : ℕ → List ℕ
zeros count = replicate (2 * count) 48

-- a client's append of so many zero bytes with these links and these options
abbrev pub line_of_append : List ℕ → ℕ → List ℕ → List ℕ → List ℕ
line_of_append client count links options =
    client ++ (codes " append 1 " ++ (zeros count ++ (codes " " ++ (links ++ options))))

-- client 1's append of so many zero bytes without links, and with these options
abbrev pub append_of_zeros : ℕ → List ℕ → List ℕ
append_of_zeros count options = line_of_append (codes "1") count (codes "0:0:0 0:0:0") options

-- the log of the rows with its stream and its area
abbrev pub opened_log : State
opened_log = state_after worked (script_requests (script_of opening))

-- the same with one record, which is flushed
abbrev pub flushed_log : State
flushed_log = state_after opened_log (script_requests (codes "1 append 1 aa 0:0:0 0:0:0 flush\n"))
