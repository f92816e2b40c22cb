-- What the lines of a race ask for, client by client, and the text of its replies.
use Rattle.std.specs.Prelude.{ℕ, ◌==◌, if◌then◌else◌, List, [], ◌∷◌, map}
use Rattle.std.specs.List.{flat_map, range_with_len}
use Rattle.clfs_lsn.specs.Limits.{most_clients}
use Rattle.clfs_model.specs.declared.call.Call.{Call}
use Rattle.clfs_model.specs.declared.journal.Entry.{Entry}
use Rattle.clfs_model.specs.declared.refusal.Refusal.TheVariants as refusals
use Rattle.clfs_model.specs.declared.reply.Reply.TheVariants as replies
use Rattle.clfs_model.specs.Journals.{ClientScript}
use Rattle.clfs_model.specs.Run.{Request, asks, reopens, bad_line}
use Rattle.clfs_model.specs.Script.{calls_alone, requests_of_lines}
use Rattle.clfs_model.specs.Text.{reply_line}

-- what the lines of a race ask for: no client may open the log again
abbrev pub race_requests : List (List ℕ) → List Request
race_requests lines = requests_of_lines calls_alone lines

-- the calls that a client asks for, in order
abbrev pub calls_asked : ℕ → List Request → List Call
calls_asked client [] = []
calls_asked client (asks other call ∷ requests) = if other == client then call ∷ calls_asked client requests else calls_asked client requests
calls_asked client (reopens other ∷ requests) = calls_asked client requests
calls_asked client (bad_line at ∷ requests) = calls_asked client requests

-- the script of each client that there can be
abbrev pub scripts_of : List Request → List ClientScript
scripts_of requests = map (λ client. record { client = client; calls = calls_asked client requests }) (range_with_len 1 most_clients)

-- where the lines go wrong that ask for nothing
abbrev pub bad_places : List Request → List ℕ
bad_places [] = []
bad_places (asks client call ∷ requests) = bad_places requests
bad_places (reopens client ∷ requests) = bad_places requests
bad_places (bad_line at ∷ requests) = at ∷ bad_places requests

-- the reply to a line that goes wrong there
abbrev pub bad_line_text : ℕ → List ℕ
bad_line_text at = reply_line 0 (replies.Refused (refusals.BadLine at))

-- the replies to the lines that ask for nothing
abbrev pub bad_text : List Request → List ℕ
bad_text requests = flat_map bad_line_text (bad_places requests)

-- the reply of an entry
abbrev pub entry_text : Entry → List ℕ
entry_text entry = reply_line entry.client entry.reply

-- the replies of a journal, in its order
abbrev pub journal_text : List Entry → List ℕ
journal_text journal = flat_map entry_text journal
