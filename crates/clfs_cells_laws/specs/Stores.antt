-- What is always true of a store whose log isn't broken.
--
-- The open transactions share no cell. The sets of one that stand lie one on the other: undoing goes from each to the one below it, and each found in its cell what
-- those below it leave there. So taking sets back from the top gives each cell the value that it had. The log has all these sets, live, and the store's area
-- holds a sector for each record that an open transaction may still append, so none of these is refused.
use Rattle.std.specs.Prelude.{◌≡◌, ◌≢◌, ◌⊎◌, ℕ, ◌+◌, ◌-◌, ◌<◌, ◌≤◌, Bool, true, false, List, [], ◌∷◌, length, Some, slice_index}
use Rattle.std.specs.List.{AllByRecursion}
use Rattle.clfs_lsn.specs.Lsn.{null_lsn}
use Rattle.clfs_lsn.specs.declared.cursor.Cursor.{Cursor}
use Rattle.clfs_lsn.specs.declared.entry.LogEntry.{LogEntry}
use Rattle.clfs_model.specs.declared.state.Area.{Area}
use Rattle.clfs_model.specs.declared.state.State.{State}
use Rattle.clfs_model.specs.Live.{live}
use Rattle.clfs_model.specs.Reading.{entry_at}
use Rattle.clfs_model.specs.Refusals.{stream_number}
use Rattle.clfs_model.specs.State.{area_of, base_of}
use Rattle.clfs_model.specs.Valid.{IsValid}
use Rattle.clfs_cells.specs.declared.begun.Made.{Made}
use Rattle.clfs_cells.specs.Layout.{cell_count}
use Rattle.clfs_cells.specs.Loading.{area_largest, area_reads}
use Rattle.clfs_cells.specs.Stored.{Memory, Transaction, holds, most_records, records_made, standing}
use Rattle.clfs_cells.specs.Table.{table_name}
pub use Rattle.clfs_cells_laws.specs.Sets.{AreStacked, Rise, is_of_cell, newest_of, value_before, value_by}
use Rattle.clfs_cells_laws.specs.Tables.{IsTabled}

-- ---- a transaction in its log

-- a live record of the stream is at this LSN
pub record IsLiveRecord (log : State) (stream lsn : ℕ) : Type 0 where
  pub entry : LogEntry
  pub there : entry_at log lsn ≡ Some entry
  pub own : entry.stream ≡ stream
  pub live : base_of log stream ≤ lsn

-- a set has its record in the log, live and with its undo-next link, and is of a cell that there is
pub record IsInLog (log : State) (stream : ℕ) (made : Made) : Type 0 where
  pub at : IsLiveRecord log stream made.lsn
  pub linked : at.entry.undo_next ≡ made.undo_next
  pub cell : made.change.cell < cell_count

-- An open transaction. Each cell of which it made a set has the value of the newest of these that stands, or that from before the first of them.
pub record IsOpen (log : State) (memory : Memory) (t : Transaction) : Type 0 where
  pub numbered : t.number ≤ memory.last
  pub few : length t.made ≤ t.changes
  pub newest : (t.last ≡ null_lsn) ⊎ IsLiveRecord log memory.stream t.last
  pub logged : AllByRecursion (IsInLog log memory.stream) t.made
  pub rise : Rise t.made
  pub stacked : AreStacked (value_before t.made) (standing t)
  pub values : (cell : ℕ) → holds cell t ≡ true → slice_index memory.cells cell ≡ value_by (value_before t.made cell) cell (standing t)

-- two transactions of different numbers, which made sets of no common cell
pub record AreApart (t u : Transaction) : Type 0 where
  pub numbers : t.number ≡ u.number → ⊥
  pub cells : (cell : ℕ) → holds cell t ≡ true → holds cell u ≡ true → ⊥

-- so are any two of these
abbrev pub AllApart : List Transaction → Type 0
AllApart [] = Unit {0}
AllApart (t ∷ others) = AllByRecursion (AreApart t) others × AllApart others

-- ---- a store

-- the records that a transaction may still append
abbrev pub records_left : Transaction → ℕ
records_left t = most_records t.changes - records_made t

-- the sectors that the records take which open transactions may still append, each in a block of its own
abbrev pub sectors_held : List Transaction → ℕ
sectors_held [] = 0
sectors_held (t ∷ others) = records_left t + sectors_held others

-- the area of a store, with these cursors
abbrev pub store_area : Memory → List Cursor → Area
store_area memory cursors = record {
  client = memory.client;
  number = memory.area;
  stream = memory.stream;
  largest = area_largest;
  reads = area_reads;
  held = sectors_held memory.transactions;
  cursors = cursors;
}

-- A log that isn't broken and has a live record of the stream, and what a store keeps beside it, whose area has these cursors. With `tabled` its cells are what the log says: so they are if the
-- disk told what it held when the table was loaded.
pub record IsStoreWith (tabled : Bool) (cursors : List Cursor) (log : State) (memory : Memory) : Type 0 where
  pub valid : IsValid log
  pub whole : log.broken ≡ false
  pub stream : stream_number log table_name ≡ Some memory.stream
  pub some : live log memory.stream ≢ []
  pub area : area_of log memory.client memory.area ≡ Some (store_area memory cursors)
  pub cells : length memory.cells ≡ cell_count
  pub apart : AllApart memory.transactions
  pub open_ones : AllByRecursion (IsOpen log memory) memory.transactions
  pub table : tabled ≡ true → IsTabled log memory

-- a store between two calls
abbrev pub IsStore : Bool → State → Memory → Type 0
IsStore tabled = IsStoreWith tabled []

-- A log that has met a fault of the disk or damage and answers nothing else, and what a store keeps beside it: with `tabled` its cells are still what the log says.
pub record IsBrokenStore (tabled : Bool) (log : State) (memory : Memory) : Type 0 where
  pub broken : log.broken ≡ true
  pub table : tabled ≡ true → IsTabled log memory

-- a store between two calls, whose log may be broken
abbrev pub IsKeptStore : Bool → State → Memory → Type 0
IsKeptStore tabled log memory = IsBrokenStore tabled log memory ⊎ IsStore tabled log memory
