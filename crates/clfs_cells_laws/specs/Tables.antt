-- What the cells of a store are by its log: the table, changed by what its open transactions did. The other facts are of the records from which both are read.
use Rattle.std.specs.Prelude.{Some, find, ◌≡◌, ℕ, ◌^◌, ◌<◌, ◌≤◌, Bool, true, false, ◌==◌, List, [], ◌∷◌, filter, map, slice_index}
use Rattle.std.specs.Option.{option_map_or}
use Rattle.std.specs.List.{AllByRecursion, list_any}
use Rattle.clfs_model.specs.declared.state.State.{State}
use Rattle.clfs_cells.specs.declared.begun.Made.{Made}
use Rattle.clfs_cells.specs.declared.row.Action.{Action}
use Rattle.clfs_cells.specs.declared.row.Action.TheVariants.{Set, Compensation, Commit, RolledBack}
use Rattle.clfs_cells.specs.declared.row.TxnRecord.{TxnRecord}
use Rattle.clfs_cells.specs.Layout.{IsChange}
use Rattle.clfs_cells.specs.Stored.{Memory, Store, Transaction, holds, transaction}
use Rattle.clfs_cells.specs.Table.{changed, committed, first_cells, records_after, table}
use Rattle.clfs_cells_laws.specs.Sets.{value_before}

-- the numbers of transactions
abbrev pub numbers_of : List Transaction → List ℕ
numbers_of transactions = map (λ (t : Transaction). t.number) transactions

-- a number is among these
abbrev pub is_among : List ℕ → ℕ → Bool
is_among numbers number = list_any (λ txn. txn == number) numbers

-- an action changes the cell
abbrev pub changes : ℕ → Action → Bool
changes cell (Set change) = change.cell == cell
changes cell (Compensation change) = change.cell == cell
changes cell Commit = false
changes cell RolledBack = false

-- what these transactions did, in its order
abbrev pub done_by : List ℕ → List TxnRecord → List TxnRecord
done_by numbers records = filter (λ (r : TxnRecord). is_among numbers r.txn) records

-- an open transaction's action changes a cell of which it made a set
abbrev pub IsOwn : Transaction → Action → Type 0
IsOwn t (Set change) = holds change.cell t ≡ true
IsOwn t (Compensation change) = holds change.cell t ≡ true
IsOwn t Commit = ⊥
IsOwn t RolledBack = ⊥

-- so do all records of it among these
abbrev pub AreOwn : Transaction → List TxnRecord → Type 0
AreOwn t records = AllByRecursion (λ (r : TxnRecord). r.txn ≡ t.number → IsOwn t r.action) records

-- Once one of these transactions changed a cell, no other one did.
abbrev pub AreExclusive : List ℕ → List TxnRecord → Type 0
AreExclusive numbers [] = Unit {0}
AreExclusive numbers (r ∷ later) =
    (is_among numbers r.txn ≡ true → (cell : ℕ) → changes cell r.action ≡ true
    → AllByRecursion (λ (other : TxnRecord). changes cell other.action ≡ true → other.txn ≡ r.txn) later)
    × AreExclusive numbers later

-- An open transaction in its table: the table has in its cells what was there before it, and all that it wrote fits a record.
pub record IsInTable (cells : List ℕ) (records : List TxnRecord) (t : Transaction) : Type 0 where
  pub some : 1 ≤ t.number
  pub before : (cell : ℕ) → holds cell t ≡ true → slice_index cells cell ≡ value_before t.made cell
  pub own : AreOwn t records
  pub fits : AllByRecursion (λ (made : Made). IsChange made.change) t.made

-- What is kept of a table whose restart area has these cells, with these records above it.
pub record Keeps (first : List ℕ) (records : List TxnRecord) (memory : Memory) : Type 0 where
  pub cells : memory.cells ≡ changed (changed first (committed records)) (done_by (numbers_of memory.transactions) records)
  pub open_ones : AllByRecursion (IsInTable (changed first (committed records)) records) memory.transactions
  pub exclusive : AreExclusive (numbers_of memory.transactions) records
  pub below : AllByRecursion (λ (r : TxnRecord). r.txn ≤ memory.last) records
  pub last : memory.last < 2 ^ 32
  pub values : (cell : ℕ) → slice_index memory.cells cell < 2 ^ 64

-- A store's cells are the table of its log, changed by what its open transactions did.
abbrev pub IsTabled : State → Memory → Type 0
IsTabled log memory = Keeps (first_cells log memory.stream) (records_after log memory.stream) memory

-- what the types of its fields say of what is kept
pub record HasNumbers (memory : Memory) : Type 0 where
  pub last : memory.last < 2 ^ 32
  pub values : (cell : ℕ) → slice_index memory.cells cell < 2 ^ 64

-- the value that a store knows to be the table's: that from before the open transaction that holds the cell, or the present one where none does
abbrev pub settled : Memory → ℕ → ℕ
settled memory cell = option_map_or (λ (t : Transaction). value_before t.made cell) (find (holds cell) memory.transactions) (slice_index memory.cells cell)

-- A commit gives the table the present values of the cells of which its transaction made a set, and leaves the others.
pub record JoinsTable (number : ℕ) (s t : Store) : Type 0 where
  pub was : Transaction
  pub there : transaction s.memory number ≡ Some was
  pub set : (cell : ℕ) → holds cell was ≡ true → slice_index (table t.log) cell ≡ slice_index s.memory.cells cell
  pub others : (cell : ℕ) → holds cell was ≡ false → slice_index (table t.log) cell ≡ slice_index (table s.log) cell
