-- What a crash leaves of a table while a call of its store is under way.
--
-- The disk has the flushed part of the log, and what the log's call that is under way may have added to it. A record that isn't on the disk yet counts for
-- nothing in the table: it is of a transaction that has no commit. So a crash leaves the table from before the call, or, in a commit, that with its
-- transaction.
use Rattle.std.specs.Prelude.{◌≡◌, ◌≤◌, ◌⊎◌, ℕ, Bool, true, false, ◌||◌, ◌==◌, List, filter, Some, Ok, Err}
use Rattle.std.specs.List.{AllByRecursion}
use Rattle.clfs_lsn.specs.declared.entry.LogEntry.{LogEntry}
use Rattle.clfs_model.specs.declared.call.Call.{Call}
use Rattle.clfs_model.specs.declared.reply.Happened.{Happened}
use Rattle.clfs_model.specs.declared.reply.Reply.{Reply}
use Rattle.clfs_model.specs.declared.state.State.{State}
use Rattle.clfs_model.specs.Flush.{flushed}
use Rattle.clfs_model.specs.Refusals.{stream_number}
use Rattle.clfs_model.specs.Run.{asks}
use Rattle.clfs_model.specs.Step.{Step}
use Rattle.clfs_model.specs.Survivors.{Survives}
use Rattle.clfs_cells.specs.declared.asked.TxnCall.{TxnCall}
use Rattle.clfs_cells.specs.declared.asked.TxnCall.TheVariants as asked
use Rattle.clfs_cells.specs.declared.row.TxnRecord.{TxnRecord}
use Rattle.clfs_cells.specs.declared.told.TxnReply.{TxnReply}
use Rattle.clfs_cells.specs.declared.told.TxnReply.TheVariants as replies
use Rattle.clfs_cells.specs.Layout.{txn_record_of}
use Rattle.clfs_cells.specs.Loading.{Loaded}
use Rattle.clfs_cells.specs.Plans.{Plan, ends, calls, never}
use Rattle.clfs_cells.specs.Stored.{Store}
use Rattle.clfs_cells.specs.Table.{changed, entries_after, first_cells, is_committed, records_after, table, table_name}

-- ---- what isn't on the disk yet

-- a record counts for nothing beside these: it is of no transaction that has a commit among them
abbrev pub CountsForNothing : List TxnRecord → LogEntry → Type 0
CountsForNothing records entry = (r : TxnRecord) → txn_record_of entry.bytes ≡ Some r → is_committed records r.txn ≡ false

-- no record of a table at or above an LSN counts
abbrev pub IsSafeFrom : ℕ → State → ℕ → Type 0
IsSafeFrom bound log stream =
    AllByRecursion (λ (entry : LogEntry). bound ≤ entry.lsn → CountsForNothing (records_after log stream) entry) (entries_after log stream)

-- What isn't on the disk yet counts for nothing.
abbrev pub IsSafe : State → ℕ → Type 0
IsSafe log stream = IsSafeFrom (flushed log) log stream

-- So it is in a log's table, if the log has its stream.
abbrev pub IsSafeLog : State → Type 0
IsSafeLog log = (stream : ℕ) → stream_number log table_name ≡ Some stream → IsSafe log stream

-- ---- the tables of a call

-- the table, changed by what one more transaction did, in its order
abbrev pub table_joined : State → ℕ → ℕ → List ℕ
table_joined log stream number =
    changed (first_cells log stream) (filter (λ (r : TxnRecord). is_committed (records_after log stream) r.txn || (number == r.txn)) (records_after log stream))

-- the table once a call is answered: after a commit that with its transaction, after another call that from before
abbrev pub table_once : Store → TxnCall → List ℕ
table_once s (asked.Commit number) = table_joined s.log s.memory.stream number
table_once s call = table s.log

-- ---- along a call

-- Along a plan that a client carries out: before each call of the log P holds of the call and of the log, unless that is broken; and at the end E of the value
-- and of the log.
abbrev pub Along : {A : Type 0} → (Call → State → Type 0) → (A → State → Type 0) → Bool → ℕ → State → Plan A → Type 0
Along P E told client log (ends value) = E value log
Along P E told client log (calls call rest) =
    (log.broken ≡ false → P call log)
    × ((happened : Happened) (reply : Reply) (mid : State) → Step told log client call happened reply mid → Along P E told client mid (rest reply))
Along P E told client log never = Unit {0}

-- A crash in a call of the log leaves one of two tables.
abbrev pub LeavesEither : List ℕ → List ℕ → ℕ → Call → State → Type 0
LeavesEither before after client call log = (x : State) → Survives (asks client call) log x → (table x ≡ before) ⊎ (table x ≡ after)

-- So does a crash in each call of a plan, whatever the log answers.
abbrev pub LeavesTables : {A : Type 0} → List ℕ → List ℕ → Bool → ℕ → State → Plan A → Type 0
LeavesTables before after told client log plan = Along (LeavesEither before after client) (λ _ _. Unit {0}) told client log plan

-- a reply that isn't a refusal
abbrev pub is_answer : TxnReply → Bool
is_answer (replies.Refused refusal) = false
is_answer _ = true

-- How a call ends whose log isn't broken: what isn't on the disk yet counts for nothing, and the log has one of two tables, the second if the call was answered.
pub record EndsSafe (before after : List ℕ) (stream : ℕ) (reply : TxnReply) (log : State) : Type 0 where
  pub safe : IsSafe log stream
  pub either : (table log ≡ before) ⊎ (table log ≡ after)
  pub answered : is_answer reply ≡ true → table log ≡ after

-- A store that was loaded has a log that is broken, or of which what isn't on the disk yet counts for nothing.
abbrev pub LoadsSafe : Loaded → State → Type 0
LoadsSafe (Ok memory) log = (log.broken ≡ true) ⊎ IsSafe log memory.stream
LoadsSafe (Err cause) log = Unit {0}
