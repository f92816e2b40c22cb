-- Why a call of a store is refused, and which reason comes first.
--
-- A broken log is told before all else, then the table's own reasons, then the log's: too few containers, or no room. Within a transaction the log has none of
-- these. What comes from outside takes the place of an answer: a fault of the disk and damage only that of a call that no reason refuses, and out of memory
-- also that of a reason of the log.
use Rattle.std.specs.Prelude.{◌≡◌, ℕ, Bool, true, false, ◌&&◌, ◌==◌, nat_lt, nat_le, if◌then◌else◌, length, Option, Some, None}
use Rattle.std.specs.Option.{option_map, option_map_or, option_or}
use Rattle.clfs_lsn.specs.Size.{own}
use Rattle.clfs_model.specs.declared.refusal.Refusal.{Refusal}
use Rattle.clfs_model.specs.declared.refusal.Refusal.TheVariants as log_refusals
use Rattle.clfs_model.specs.declared.state.State.{State}
use Rattle.clfs_model.specs.Refusals.{full, unless_two_containers}
use Rattle.clfs_cells.specs.declared.asked.TxnCall.{TxnCall}
use Rattle.clfs_cells.specs.declared.asked.TxnCall.TheVariants as asked
use Rattle.clfs_cells.specs.declared.told.TxnRefusal.{TxnRefusal}
use Rattle.clfs_cells.specs.declared.told.TxnRefusal.TheVariants as refusals
use Rattle.clfs_cells.specs.declared.told.TxnReply.{TxnReply}
use Rattle.clfs_cells.specs.declared.told.TxnReply.TheVariants as replies
use Rattle.clfs_cells.specs.Calls.{greatest_number, most_transactions}
use Rattle.clfs_cells.specs.Loading.{area_largest}
use Rattle.clfs_cells.specs.Stored.{Memory, Store, Transaction, holder, most_records, standing, transaction}
use Rattle.clfs_cells_laws.specs.Breaking.{reads_back}

-- ---- the table's own reasons

-- the reason if the test holds, else what the others give
abbrev pub reason_if : Bool → TxnRefusal → Option TxnRefusal → Option TxnRefusal
reason_if test reason others = if test then Some reason else others

-- a reason that the open transaction of this number gives, or that there is none
abbrev pub reason_within : Memory → ℕ → (Transaction → Option TxnRefusal) → Option TxnRefusal
reason_within memory number reason = option_map_or reason (transaction memory number) (Some refusals.NoSuchTxn)

-- as many transactions are open as can be, or the last number was given
abbrev pub begin_reason : Memory → Option TxnRefusal
begin_reason memory =
    reason_if (nat_le most_transactions (length memory.transactions)) (refusals.TxnLimit (length memory.transactions))
    (reason_if (memory.last == greatest_number) refusals.IdsSpent None)

-- another transaction holds the cell, or this one has made all its sets
abbrev pub set_reason : Memory → ℕ → ℕ → Transaction → Option TxnRefusal
set_reason memory number cell t =
    option_map_or (λ (other : Transaction). Some (refusals.CellHeld other.number)) (holder memory number cell)
    (reason_if (nat_le t.changes (length t.made)) (refusals.ChangesSpent t.changes) None)

-- fewer sets stand than are to be kept
abbrev pub back_reason : ℕ → Transaction → Option TxnRefusal
back_reason kept t = reason_if (nat_lt (length (standing t)) kept) (refusals.KeptTooMany (length (standing t))) None

-- why the table itself refuses a call
abbrev pub table_reason : Memory → TxnCall → Option TxnRefusal
table_reason memory (asked.Begin changes) = begin_reason memory
table_reason memory (asked.Set number cell value) = reason_within memory number (set_reason memory number cell)
table_reason memory (asked.Back number kept) = reason_within memory number (back_reason kept)
table_reason memory (asked.Commit number) = reason_within memory number (λ t. None)
table_reason memory (asked.Rollback number) = reason_within memory number (λ t. None)
table_reason memory (asked.Get cell) = None
table_reason memory asked.Checkpoint = reason_if (nat_lt 0 (length memory.transactions)) (refusals.TxnsOpen (length memory.transactions)) None

-- ---- the log's

-- A log has too few containers for any record, or no room for so many sectors.
abbrev pub room_refusal : State → ℕ → Option Refusal
room_refusal log sectors = unless_two_containers log (full log sectors)

-- Why the log refuses a call that it may refuse for room: a transaction that begins takes a sector for each of its records, and a checkpoint those of its
-- restart area.
abbrev pub log_refusal : State → TxnCall → Option Refusal
log_refusal log (asked.Begin changes) = room_refusal log (most_records changes)
log_refusal log asked.Checkpoint = room_refusal log (own area_largest)
log_refusal log _ = None

-- ---- the first of all

-- the calls that ask the log for something: all but the one for a cell's value
abbrev pub asks_log : TxnCall → Bool
asks_log (asked.Get cell) = false
asks_log call = true

-- why a call is refused if memory suffices and the disk doesn't fail
abbrev pub first_reason : Store → TxnCall → Option TxnRefusal
first_reason s call =
    reason_if (s.log.broken && asks_log call) (refusals.Log log_refusals.Broken)
    (option_or (table_reason s.memory call) (option_map refusals.Log (log_refusal s.log call)))

-- A call is answered so for its reasons: refused for the first of them, or answered if there is none. A fault and damage are told only if there is none, and damage
-- only by a call that takes sets back; that memory ran out, only if the log isn't broken and the table has no reason of its own.
abbrev pub IsForReason : Store → TxnCall → TxnReply → Type 0
IsForReason s call (replies.Refused (refusals.Log log_refusals.NoMemory)) = (s.log.broken ≡ false) × (table_reason s.memory call ≡ None)
IsForReason s call (replies.Refused (refusals.Log log_refusals.DiskFault)) = first_reason s call ≡ None
IsForReason s call (replies.Refused (refusals.Log (log_refusals.Damaged container offset at))) = (first_reason s call ≡ None) × (reads_back call ≡ true)
IsForReason s call (replies.Refused reason) = first_reason s call ≡ Some reason
IsForReason s call _ = first_reason s call ≡ None
