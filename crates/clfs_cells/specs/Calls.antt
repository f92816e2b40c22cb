-- The calls of a store: which calls of the log each of them makes, when it is refused, and what it leaves.
--
-- A transaction's beginning reserves room for all its records: its sets, their taking back, and its end. Each of them takes of it. Taking back
-- reads along the undo-next links of the log, from the newest set that stands: the log says which set comes next, and the store remembers that
-- set's cell and values. A commit answers after its flush. A checkpoint moves the stream's base above all records before it.
use Rattle.std.specs.Prelude.{ℕ, zero, suc, ◌+◌, ◌-◌, Bool, true, false, ◌==◌, nat_lt, nat_le, if◌then◌else◌, [], length, find, replicate, slice_index}
use Rattle.std.specs.Option.{option_map_or}
use Rattle.clfs_lsn.specs.Lsn.{null_lsn}
use Rattle.clfs_lsn.specs.declared.cursor.Mode.TheVariants.{UndoNext}
use Rattle.clfs_lsn.specs.declared.entry.LogEntry.{LogEntry}
use Rattle.clfs_model.specs.declared.call.Call.{Call}
use Rattle.clfs_model.specs.declared.call.Call.TheVariants as log_calls
use Rattle.clfs_model.specs.declared.info.LogInfo.{LogInfo}
use Rattle.clfs_model.specs.declared.refusal.Refusal.{Refusal}
use Rattle.clfs_model.specs.declared.refusal.Refusal.TheVariants as log_refusals
use Rattle.clfs_model.specs.declared.state.State.{State}
use Rattle.clfs_cells.specs.declared.asked.TxnCall.{TxnCall}
use Rattle.clfs_cells.specs.declared.asked.TxnCall.TheVariants as asked
use Rattle.clfs_cells.specs.declared.row.Action.{Action}
use Rattle.clfs_cells.specs.declared.row.Action.TheVariants.{Set, Compensation, Commit, RolledBack}
use Rattle.clfs_cells.specs.declared.row.Change.{Change}
use Rattle.clfs_cells.specs.declared.told.TxnRefusal.{TxnRefusal}
use Rattle.clfs_cells.specs.declared.told.TxnRefusal.TheVariants as refusals
use Rattle.clfs_cells.specs.declared.told.TxnReply.{TxnReply}
use Rattle.clfs_cells.specs.declared.told.TxnReply.TheVariants as told_replies
use Rattle.clfs_cells.specs.Layout.{txn_record, txn_bytes, checkpoint_bytes}
use Rattle.clfs_cells.specs.Plans.{Plan, ends, calls, never, CarriesOut, on_placed, on_held, on_found, on_next, on_info}
use Rattle.clfs_cells.specs.declared.begun.Made.{Made}
use Rattle.clfs_cells.specs.Stored.{is_at, Transaction, Memory, Store, standing, newest_standing, most_records, records_made, transaction, holder, with_begun, with_set, with_undone, without_transaction}

-- the most open transactions
abbrev pub most_transactions : ℕ
most_transactions = 8

-- the greatest number of a transaction
abbrev pub greatest_number : ℕ
greatest_number = 4294967295

-- the bytes of a record's data
abbrev pub record_length : ℕ
record_length = 24

-- what a call answers, and what the store keeps then
pub record Answered : Type 0 where
  pub reply : TxnReply
  pub memory : Memory

-- the call is answered so
abbrev pub answers : TxnReply → Memory → Plan Answered
answers reply memory = ends (record { reply = reply; memory = memory })

-- the call is refused
abbrev pub refuses : Memory → TxnRefusal → Plan Answered
refuses memory refusal = answers (told_replies.Refused refusal) memory

-- the log refused a call of it
abbrev pub stops : Memory → Refusal → Plan Answered
stops memory refusal = refuses memory (refusals.Log refusal)

-- refused where the test holds
abbrev pub unless : Bool → TxnRefusal → Memory → Plan Answered → Plan Answered
unless test refusal memory others = if test then refuses memory refusal else others

-- what the open transaction of this number does
abbrev pub over_transaction : Memory → ℕ → (Transaction → Plan Answered) → Plan Answered
over_transaction memory number go = option_map_or go (transaction memory number) (refuses memory refusals.NoSuchTxn)

-- A transaction's record takes of what the area holds, and follows its newest record.
abbrev pub append_call : Memory → Transaction → Action → ℕ → Bool → Call
append_call memory t action undo_next flush = log_calls.Append memory.area (record {
  bytes = txn_bytes (txn_record t.number action);
  previous = t.last;
  undo_next = undo_next;
  seal = false;
  flush = flush;
}) true []

-- A transaction begins with room for all its records.
abbrev pub begin_plan : Memory → ℕ → Plan Answered
begin_plan memory changes =
    unless (nat_le most_transactions (length memory.transactions)) (refusals.TxnLimit (length memory.transactions)) memory
    (unless (memory.last == greatest_number) refusals.IdsSpent memory
    (calls (log_calls.Reserve memory.area (replicate (most_records changes) record_length))
    (on_held (stops memory) (answers (told_replies.Begun (memory.last + 1)) (with_begun changes memory)))))

-- the change that gives a cell a value
abbrev pub change_to : Memory → ℕ → ℕ → Change
change_to memory cell value = record { cell = cell; old = slice_index memory.cells cell; new = value }

-- A set's undo-next link is the newest set that stands.
abbrev pub set_cell : Memory → Transaction → Change → Plan Answered
set_cell memory t change =
    calls (append_call memory t (Set change) (newest_standing t) false)
    (on_placed (stops memory) (λ lsn. answers told_replies.Done (with_set t change lsn memory)))

-- A transaction sets a cell that no other one holds, and no more of them than it was begun for.
abbrev pub set_plan : Memory → ℕ → ℕ → ℕ → Plan Answered
set_plan memory number cell value = over_transaction memory number (λ t.
    option_map_or (λ (other : Transaction). refuses memory (refusals.CellHeld other.number)) (holder memory number cell)
    (unless (nat_le t.changes (length t.made)) (refusals.ChangesSpent t.changes) memory (set_cell memory t (change_to memory cell value))))

-- a set's compensation: from the value that was set to the one before
abbrev pub compensation : Made → Action
compensation made = Compensation (record { cell = made.change.cell; old = made.change.new; new = made.change.old })

-- the set that has its record at this LSN, of the open transaction of this number
abbrev pub over_set : Memory → ℕ → ℕ → (Transaction → Made → Plan Answered) → Plan Answered
over_set memory number lsn go = option_map_or
    (λ (t : Transaction). option_map_or (go t) (find (is_at lsn) t.made) never) (transaction memory number) never

-- a cursor ends, whatever becomes of the log
abbrev pub with_read_ended : Memory → ℕ → Plan Answered → Plan Answered
with_read_ended memory cursor rest = calls (log_calls.EndRead memory.area cursor) (λ _. rest)

-- One set is taken back by its compensation, which goes on with undoing where the set does.
abbrev pub undo_set : Memory → ℕ → ℕ → ℕ → (Memory → Plan Answered) → Plan Answered
undo_set memory number cursor lsn rest = over_set memory number lsn (λ t made.
    calls (append_call memory t (compensation made) made.undo_next false)
    (on_placed (λ refusal. with_read_ended memory cursor (stops memory refusal)) (λ at. rest (with_undone t made at memory))))

-- The set at this LSN is taken back, where the cursor is, and then so many more, one after the other as the cursor comes to them.
abbrev pub undo_from : ℕ → Memory → ℕ → ℕ → ℕ → (Memory → Plan Answered) → Plan Answered
undo_from zero memory number cursor lsn rest = undo_set memory number cursor lsn (λ now. with_read_ended now cursor (rest now))
undo_from (suc more) memory number cursor lsn rest = undo_set memory number cursor lsn (λ now.
    calls (log_calls.ReadNext now.area cursor)
    (on_next (λ refusal. with_read_ended now cursor (stops now refusal)) (λ (entry : LogEntry). undo_from more now number cursor entry.lsn rest)))

-- so many sets of a transaction are taken back, the newest first
abbrev pub undo_sets : ℕ → Memory → Transaction → (Memory → Plan Answered) → Plan Answered
undo_sets zero memory t rest = rest memory
undo_sets (suc more) memory t rest =
    calls (log_calls.Read memory.area (newest_standing t) UndoNext)
    (on_found (stops memory) (λ cursor (entry : LogEntry). undo_from more memory t.number cursor entry.lsn rest))

-- Sets are taken back until so many stand.
abbrev pub back_plan : Memory → ℕ → ℕ → Plan Answered
back_plan memory number kept = over_transaction memory number (λ t.
    unless (nat_lt (length (standing t)) kept) (refusals.KeptTooMany (length (standing t))) memory
    (undo_sets (length (standing t) - kept) memory t (λ now. answers told_replies.Done now)))

-- A transaction ends with a record, and gives up the room that it held besides.
abbrev pub end_plan : Memory → Transaction → Action → Bool → Plan Answered
end_plan memory t action flush =
    let after = without_transaction t.number memory in
    calls (append_call memory t action null_lsn flush)
    (on_placed (stops memory) (λ _. calls (log_calls.Release memory.area (most_records t.changes - records_made t - 1))
    (on_held (stops after) (answers told_replies.Done after))))

-- The commit's record is flushed before the call is answered.
abbrev pub commit_plan : Memory → ℕ → Plan Answered
commit_plan memory number = over_transaction memory number (λ t. end_plan memory t Commit true)

-- All sets are taken back, and then the transaction ends.
abbrev pub rollback_plan : Memory → ℕ → Plan Answered
rollback_plan memory number = over_transaction memory number (λ t.
    undo_sets (length (standing t)) memory t (λ now. over_transaction now number (λ t. end_plan now t RolledBack false)))

-- A restart area with all cells, while no transaction is open. The new base is one above the last live record.
abbrev pub checkpoint_plan : Memory → Plan Answered
checkpoint_plan memory =
    unless (nat_lt 0 (length memory.transactions)) (refusals.TxnsOpen (length memory.transactions)) memory
    (calls (log_calls.Info memory.stream) (on_info (stops memory) (λ (info : LogInfo).
    calls (log_calls.WriteRestart memory.area (checkpoint_bytes (record { cells = memory.cells; last = memory.last })) (info.last + 1) false)
    (on_placed (stops memory) (λ _. answers told_replies.Done memory)))))

-- A broken log refuses each call that would ask it, before all else.
abbrev pub unbroken : State → Memory → Plan Answered → Plan Answered
unbroken log memory others = unless log.broken (refusals.Log log_refusals.Broken) memory others

-- what a call does
abbrev pub txn_plan : State → Memory → TxnCall → Plan Answered
txn_plan log memory (asked.Begin changes) = unbroken log memory (begin_plan memory changes)
txn_plan log memory (asked.Set number cell value) = unbroken log memory (set_plan memory number cell value)
txn_plan log memory (asked.Back number kept) = unbroken log memory (back_plan memory number kept)
txn_plan log memory (asked.Commit number) = unbroken log memory (commit_plan memory number)
txn_plan log memory (asked.Rollback number) = unbroken log memory (rollback_plan memory number)
txn_plan log memory (asked.Get cell) = answers (told_replies.Value (slice_index memory.cells cell)) memory
txn_plan log memory asked.Checkpoint = unbroken log memory (checkpoint_plan memory)

-- One call of a store: what it may answer, and the store that it leaves. Over a disk that tells what it holds, what is read is exact.
unfoldable pub TxnStep : Bool → Store → TxnCall → TxnReply → Store → Type 0
TxnStep told s call reply t =
    CarriesOut told s.memory.client s.log (txn_plan s.log s.memory call) (record { reply = reply; memory = t.memory }) t.log
