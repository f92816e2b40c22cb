-- Tables for worked rows: logs, the tables that are loaded from them, and dialogues with those. Where it isn't said otherwise, nothing happens to
-- the disk and memory suffices.
use Rattle.std.specs.Prelude.{◌≡◌, ℕ, ◌-◌, true, List, [], ◌∷◌, ◌++◌, length, map, replicate, codes, Option, Some, None, Result, Ok, Err}
use Rattle.std.specs.List.{flat_map}
use Rattle.std.specs.Option.{option_map, option_and_then, option_map_or}
use Rattle.clfs_lsn.specs.Words.{data_text}
use Rattle.clfs_model.specs.declared.state.State.{State}
use Rattle.clfs_model.specs.Flush.{cut}
use Rattle.clfs_model.specs.Lines.{lines_of}
use Rattle.clfs_model.specs.Run.{replies_of, state_after}
use Rattle.clfs_model.specs.Script.{script_requests}
use Rattle.clfs_model.specs.State.{log_of, fresh}
use Rattle.clfs_model.specs.Step.{with_broken}
use Rattle.clfs_model.specs.Text.{output_of}
use Rattle.clfs_cells.specs.declared.asked.TxnCall.{TxnCall}
use Rattle.clfs_cells.specs.declared.row.Action.{Action}
use Rattle.clfs_cells.specs.declared.told.TxnLoadRefusal.{TxnLoadRefusal}
use Rattle.clfs_cells.specs.declared.told.TxnReply.{TxnReply}
use Rattle.clfs_cells.specs.Calls.{Answered, txn_plan}
use Rattle.clfs_cells.specs.Layout.{txn_bytes, txn_record, checkpoint_bytes}
use Rattle.clfs_cells.specs.Lines.{calls_of_lines, txn_reply_line, bad_line_reply}
use Rattle.clfs_cells.specs.Loading.{Loaded, load_plan}
use Rattle.clfs_cells.specs.Loaded.{load_refusal, last_of}
use Rattle.clfs_cells.specs.Plans.{Ended, fine_end, end_without_memory}
use Rattle.clfs_cells.specs.Stored.{Store, Transaction}
use Rattle.clfs_cells.specs.Table.{table, table_with}

-- the log of most rows: blocks of one sector, four containers of sixteen sectors, four write buffers
abbrev pub worked_log : State
worked_log = log_of 1 16 4 4

-- a log with little room: two containers of four sectors
abbrev pub small_log : State
small_log = log_of 1 4 2 4

-- a log of one container, which takes no records
abbrev pub log_of_one : State
log_of_one = log_of 1 16 1 4

-- a dedicated log
abbrev pub dedicated_log : State
dedicated_log = fresh (record { block_sectors = 1; container_sectors = 16 }) true 4 4

-- a log after the text of a script
abbrev pub made_by : State → List ℕ → State
made_by log script = state_after log (script_requests script)

-- ---- loading

-- how loading a log for client 1 ends
unfoldable pub fine_load : State → Option (Ended Loaded)
fine_load log = fine_end 1 log (load_plan (length log.records) 1)

-- the store that was loaded
abbrev pub stored_in : State → Loaded → Option Store
stored_in log (Ok memory) = Some (record { log = log; memory = memory })
stored_in log (Err refusal) = None

-- the store that is loaded from a log
abbrev pub loaded : State → Option Store
loaded log = option_and_then (λ (ended : Ended Loaded). stored_in ended.log ended.value) (fine_load log)

-- why no store was loaded
abbrev pub refused_in : Loaded → Option TxnLoadRefusal
refused_in (Ok memory) = None
refused_in (Err refusal) = Some refusal

-- Loading from the log is refused so, and leaves no area.
abbrev pub IsNotLoaded : State → TxnLoadRefusal → Type 0
IsNotLoaded log refusal =
    (option_and_then (λ (ended : Ended Loaded). refused_in ended.value) (fine_load log) ≡ Some refusal)
    × (option_map (λ (ended : Ended Loaded). ended.log.areas) (fine_load log) ≡ Some [])
    × (load_refusal log 1 ≡ Some refusal)

-- A store is loaded from the log, and this is the number of its last transaction: what it has is what is said of the log.
abbrev pub LastIs : State → ℕ → Type 0
LastIs log last =
    (option_map (λ (s : Store). s.memory.last) (loaded log) ≡ Some last)
    × (option_map (λ (s : Store). s.memory.cells) (loaded log) ≡ Some (table log))
    × (last_of log ≡ last)
    × (load_refusal log 1 ≡ None)

-- ---- calls

-- what a call answers, and the store that it leaves
unfoldable pub fine_call : Store → TxnCall → Option (Ended Answered)
fine_call s call = fine_end s.memory.client s.log (txn_plan s.log s.memory call)

-- the same where memory runs out in the call of the log that so many others go before
unfoldable pub call_without_memory : ℕ → Store → TxnCall → Option (Ended Answered)
call_without_memory before s call = end_without_memory before s.memory.client s.log (txn_plan s.log s.memory call)

-- a store, and the replies that it gave
pub record Talk : Type 0 where
  pub output : List ℕ
  pub store : Store

-- the talk after a call
abbrev pub talked : List ℕ → Ended Answered → Talk
talked output ended = record {
  output = output ++ txn_reply_line ended.value.reply;
  store = record { log = ended.log; memory = ended.value.memory };
}

-- one line answered
abbrev pub line_answered : Talk → Result TxnCall ℕ → Option Talk
line_answered talk (Ok call) = option_map (talked talk.output) (fine_call talk.store call)
line_answered talk (Err at) = Some (record talk { output = talk.output ++ txn_reply_line (bad_line_reply at) })

-- lines answered one after the other
abbrev pub lines_answered : Option Talk → List (Result TxnCall ℕ) → Option Talk
lines_answered talk [] = talk
lines_answered talk (line ∷ lines) = lines_answered (option_and_then (λ talk. line_answered talk line) talk) lines

-- a line and the reply to it, both without their line feeds
pub record Exchange : Type 0 where
  pub line : List ℕ
  pub reply : List ℕ

infix 70 ◌⟹◌
-- this line is answered so
abbrev pub ◌⟹◌ : List ℕ → List ℕ → Exchange
line ⟹ reply = record { line = line; reply = reply }

-- the lines, each with its line feed
abbrev pub script_of : List Exchange → List ℕ
script_of exchanges = flat_map (λ (exchange : Exchange). exchange.line ++ 10 ∷ []) exchanges

-- the replies, each with its line feed
abbrev pub replies_text : List Exchange → List ℕ
replies_text exchanges = flat_map (λ (exchange : Exchange). exchange.reply ++ 10 ∷ []) exchanges

-- the talk with a store over lines
abbrev pub talk_from : Option Store → List Exchange → Option Talk
talk_from store exchanges =
    lines_answered (option_map (λ store. record { output = []; store = store }) store) (calls_of_lines (lines_of (script_of exchanges)))

-- A store answers the lines so, one after the other.
abbrev pub Answers : Option Store → List Exchange → Type 0
Answers store exchanges = option_map (λ (talk : Talk). talk.output) (talk_from store exchanges) ≡ Some (replies_text exchanges)

-- the store after lines
abbrev pub store_after : State → List Exchange → Option Store
store_after log exchanges = option_map (λ (talk : Talk). talk.store) (talk_from (loaded log) exchanges)

-- The store that is loaded from the log answers the lines so.
abbrev pub IsDialogue : State → List Exchange → Type 0
IsDialogue log exchanges = Answers (loaded log) exchanges

-- the log that a talk leaves where it ends without a flush, as it is opened again
abbrev pub next_day : State → List Exchange → State
next_day log exchanges = option_map_or (λ (store : Store). cut store.log) (store_after log exchanges) log

-- a store whose log met a fault
abbrev pub broken_store : Option Store → Option Store
broken_store store = option_map (λ (s : Store). record s { log = with_broken s.log }) store

-- the store after a call for which memory ran out, in the call of the log that so many others go before
abbrev pub store_without_memory : ℕ → Option Store → TxnCall → Option Store
store_without_memory before store call =
    option_and_then (λ (s : Store). option_map (λ (ended : Ended Answered). (talked [] ended).store) (call_without_memory before s call)) store

-- what such a call answers
abbrev pub reply_without_memory : ℕ → Option Store → TxnCall → Option TxnReply
reply_without_memory before store call =
    option_and_then (λ (s : Store). option_map (λ (ended : Ended Answered). ended.value.reply) (call_without_memory before s call)) store

-- the cells of a store
abbrev pub cells_in : Option Store → Option (List ℕ)
cells_in store = option_map (λ (s : Store). s.memory.cells) store

-- the table of a store's log, changed by what its open transactions did
abbrev pub table_and_open : Option Store → Option (List ℕ)
table_and_open store =
    option_map (λ (s : Store). table_with s.log s.memory.stream (map (λ (t : Transaction). t.number) s.memory.transactions)) store

-- these cells, and zeros
abbrev pub cells_of : List ℕ → List ℕ
cells_of cells = cells ++ replicate (32 - length cells) 0

-- ---- logs for tables, and what is in the logs of tables

-- The log answers the lines of a script so.
abbrev pub IsSeen : State → List Exchange → Type 0
IsSeen log exchanges =
    output_of (script_requests (script_of exchanges)) (replies_of log (script_requests (script_of exchanges))) ≡ replies_text exchanges

-- an append of data to the first stream, with or without a flush after it
abbrev pub append_line : List ℕ → List ℕ → List ℕ
append_line bytes options = codes "2 append 1 " ++ (data_text bytes ++ (codes " 0:0:0 0:0:0" ++ (options ++ 10 ∷ [])))

-- a transaction's record
abbrev pub record_line : ℕ → Action → List ℕ
record_line txn action = append_line (txn_bytes (txn_record txn action)) (codes " flush")

-- a restart area
abbrev pub restart_line : List ℕ → List ℕ
restart_line bytes = codes "2 restart 1 " ++ (data_text bytes ++ codes " -\n")

-- a restart area of a table, with one value in all cells and this last number
abbrev pub checkpoint_line : ℕ → ℕ → List ℕ
checkpoint_line value last = restart_line (checkpoint_bytes (record { cells = replicate 32 value; last = last }))

-- what a log holds that somebody else wrote to the stream of tables
abbrev pub foreign_log : List ℕ → State
foreign_log script = cut (made_by worked_log (codes "2 open txn\n2 area 1 300 4\n" ++ script))

-- ---- talks that several rows begin with

-- a transaction that takes a set back and is committed, and one that is rolled back
abbrev pub first_day : List Exchange
first_day =
    codes "begin 2" ⟹ codes "txn 1"
    ∷ codes "set 1 0 5" ⟹ codes "ok"
    ∷ codes "set 1 0 7" ⟹ codes "ok"
    ∷ codes "back 1 1" ⟹ codes "ok"
    ∷ codes "get 0" ⟹ codes "value 5"
    ∷ codes "commit 1" ⟹ codes "ok"
    ∷ codes "begin 1" ⟹ codes "txn 2"
    ∷ codes "set 2 0 9" ⟹ codes "ok"
    ∷ codes "get 0" ⟹ codes "value 9"
    ∷ codes "rollback 2" ⟹ codes "ok"
    ∷ codes "get 0" ⟹ codes "value 5"
    ∷ []

-- one transaction committed while another one is open that has set a cell
abbrev pub one_of_two : List Exchange
one_of_two =
    codes "begin 1" ⟹ codes "txn 1"
    ∷ codes "begin 1" ⟹ codes "txn 2"
    ∷ codes "set 1 0 5" ⟹ codes "ok"
    ∷ codes "set 2 1 3" ⟹ codes "ok"
    ∷ codes "commit 1" ⟹ codes "ok"
    ∷ []

-- sets of three cells, none of which is committed
abbrev pub three_sets : List Exchange
three_sets =
    codes "begin 3" ⟹ codes "txn 1"
    ∷ codes "set 1 0 5" ⟹ codes "ok"
    ∷ codes "set 1 0 6" ⟹ codes "ok"
    ∷ codes "set 1 0 7" ⟹ codes "ok"
    ∷ []
