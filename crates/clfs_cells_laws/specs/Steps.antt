-- What the calls of a store leave, as facts of the store before and after.
use Rattle.std.specs.Prelude.{◌≡◌, ℕ, ◌-◌, ◌<◌, ◌^◌, Bool, true, false, length, drop, Some, None, slice_index}
use Rattle.clfs_model.specs.declared.refusal.Refusal.{Refusal}
use Rattle.clfs_model.specs.declared.refusal.Refusal.TheVariants as log_refusals
use Rattle.clfs_cells.specs.declared.asked.TxnCall.{TxnCall}
use Rattle.clfs_cells.specs.declared.asked.TxnCall.TheVariants as asked
use Rattle.clfs_cells.specs.declared.told.TxnRefusal.{TxnRefusal}
use Rattle.clfs_cells.specs.declared.told.TxnRefusal.TheVariants as refusals
use Rattle.clfs_cells.specs.Layout.{cell_count}
use Rattle.clfs_cells.specs.Stored.{Memory, Transaction, holds, is_numbered, standing, transaction, without_first}
use Rattle.clfs_cells_laws.specs.Stores.{value_before, value_by}

-- refusals of a log that come from outside it: memory ran out, the disk failed, or the log had met a fault of the disk or damage before
abbrev pub from_outside : Refusal → Bool
from_outside log_refusals.NoMemory = true
from_outside log_refusals.DiskFault = true
from_outside (log_refusals.Damaged container offset at) = true
from_outside log_refusals.Broken = true
from_outside _ = false

-- these, or there is no room, or there are too few containers for any
abbrev pub for_room_or_outside : Refusal → Bool
for_room_or_outside (log_refusals.Full free reserved need) = true
for_room_or_outside (log_refusals.NotEnoughContainers have) = true
for_room_or_outside refusal = from_outside refusal

-- the calls of an open transaction
abbrev pub is_within : TxnCall → Bool
is_within (asked.Set number cell value) = true
is_within (asked.Back number kept) = true
is_within (asked.Commit number) = true
is_within (asked.Rollback number) = true
is_within _ = false

-- a call's condition: a cell that there is, and a value of 8 bytes
abbrev pub HasArguments : TxnCall → Type 0
HasArguments (asked.Set number cell value) = (cell < cell_count) × (value < 2 ^ 64)
HasArguments _ = Unit {0}

-- A cell has the value, and all others have theirs.
pub record IsSetTo (cell value : ℕ) (before after : Memory) : Type 0 where
  pub set : slice_index after.cells cell ≡ value
  pub others : (other : ℕ) → (other ≡ cell → ⊥) → slice_index after.cells other ≡ slice_index before.cells other

-- So many sets of a transaction stand, the oldest of those that stood. Each cell of which it made a set has the value of the last set of it that stands, or that
-- from before its first set of it if none does; the others have theirs.
pub record IsTakenBack (number kept : ℕ) (before after : Memory) : Type 0 where
  pub was : Transaction
  pub there : transaction before number ≡ Some was
  pub is : Transaction
  pub still : transaction after number ≡ Some is
  pub count : length (standing is) ≡ kept
  pub oldest : standing is ≡ drop (length (standing was) - kept) (standing was)
  pub values : (cell : ℕ) → holds cell was ≡ true → slice_index after.cells cell ≡ value_by (value_before was.made cell) cell (standing is)
  pub others : (cell : ℕ) → holds cell was ≡ false → slice_index after.cells cell ≡ slice_index before.cells cell

-- A transaction is no longer open. Each cell of which it made a set has the value from before its first set of it; the others have theirs.
pub record IsRolledBack (number : ℕ) (before after : Memory) : Type 0 where
  pub was : Transaction
  pub there : transaction before number ≡ Some was
  pub gone : transaction after number ≡ None
  pub values : (cell : ℕ) → holds cell was ≡ true → slice_index after.cells cell ≡ value_before was.made cell
  pub others : (cell : ℕ) → holds cell was ≡ false → slice_index after.cells cell ≡ slice_index before.cells cell

-- A transaction is no longer open, and all cells have their values.
pub record IsCommitted (number : ℕ) (before after : Memory) : Type 0 where
  pub was : Transaction
  pub there : transaction before number ≡ Some was
  pub gone : transaction after number ≡ None
  pub cells : after.cells ≡ before.cells
  pub without : after.transactions ≡ without_first (is_numbered number) before.transactions

-- the log refused a call of the store's
abbrev pub is_of_log : TxnRefusal → Bool
is_of_log (refusals.Log refusal) = true
is_of_log _ = false
