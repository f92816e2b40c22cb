-- How cursors go over records and restart areas.
use Rattle.std.specs.Prelude.{ℕ, zero, suc, ◌==◌, nat_lt, List, [], ◌∷◌, ◌++◌, length, filter, find, reverse, Option, Some, None, slice_get}
use Rattle.std.specs.Option.{option_and_then}
use Rattle.clfs_lsn.specs.Heads.{is_restart}
use Rattle.clfs_lsn.specs.Cursors.{cursor_in, record_cursor_in, restart_cursor_in, cursors_moved, cursors_without}
use Rattle.clfs_lsn.specs.declared.entry.LogEntry.{LogEntry}
use Rattle.clfs_lsn.specs.declared.cursor.Mode.{Mode}
use Rattle.clfs_lsn.specs.declared.cursor.Mode.TheVariants.{Previous, UndoNext, Forward}
use Rattle.clfs_lsn.specs.declared.cursor.Cursor.{Cursor}
use Rattle.clfs_lsn.specs.declared.cursor.CursorKind.{CursorKind}
use Rattle.clfs_lsn.specs.declared.cursor.CursorKind.TheVariants.{Records, RestartAreas}
use Rattle.clfs_model.specs.declared.state.State.{State}
use Rattle.clfs_model.specs.declared.state.Area.{Area}
use Rattle.clfs_model.specs.Live.{live, live_at}

-- the record at an LSN, live or not
abbrev pub entry_at : State → ℕ → Option LogEntry
entry_at s lsn = find (λ (entry : LogEntry). entry.lsn == lsn) s.records

-- the record where reading goes next from the one at `last`: the live record that its link names, or the live one with the
-- least LSN above it
abbrev pub next : State → ℕ → Mode → ℕ → Option LogEntry
next s stream Previous last = option_and_then (λ (entry : LogEntry). live_at s stream entry.previous) (entry_at s last)
next s stream UndoNext last = option_and_then (λ (entry : LogEntry). live_at s stream entry.undo_next) (entry_at s last)
next s stream Forward last = find (λ (entry : LogEntry). nat_lt last entry.lsn) (live s stream)

-- so many records at most, from this one on, each the next of the one before
abbrev pub chain_from : State → ℕ → Mode → ℕ → Option LogEntry → List LogEntry
chain_from s stream mode zero found = []
chain_from s stream mode (suc more) None = []
chain_from s stream mode (suc more) (Some entry) = entry ∷ chain_from s stream mode more (next s stream mode entry.lsn)

-- the records that reading gives from an LSN on; links go down and forward goes up, so no record comes twice
abbrev pub chain : State → ℕ → ℕ → Mode → List LogEntry
chain s stream lsn mode = chain_from s stream mode (length s.records) (live_at s stream lsn)

-- the live restart areas of a stream, the newest first
abbrev pub restart_areas : State → ℕ → List LogEntry
restart_areas s stream = reverse (filter (λ (entry : LogEntry). is_restart entry.kind) (live s stream))

-- the newest live restart area of a stream
abbrev pub newest_restart : State → ℕ → Option LogEntry
newest_restart s stream = slice_get (restart_areas s stream) 0

-- the newest live restart area of a stream below an LSN
abbrev pub restart_below : State → ℕ → ℕ → Option LogEntry
restart_below s stream lsn = find (λ (entry : LogEntry). nat_lt entry.lsn lsn) (restart_areas s stream)

-- an area's cursor of this number
abbrev pub cursor_of : Area → ℕ → Option Cursor
cursor_of area number = cursor_in area.cursors number

-- an area's cursor of this number that goes over records
abbrev pub record_cursor : Area → ℕ → Option Cursor
record_cursor area number = record_cursor_in area.cursors number

-- an area's cursor of this number that goes over restart areas
abbrev pub restart_cursor : Area → ℕ → Option Cursor
restart_cursor area number = restart_cursor_in area.cursors number

-- where a cursor of an area comes to next
abbrev pub next_of_cursor : State → Area → Cursor → Option LogEntry
next_of_cursor s area cursor = next_of_kind cursor.kind
  where
    next_of_kind : CursorKind → Option LogEntry
    next_of_kind (Records mode) = next s area.stream mode cursor.last
    next_of_kind RestartAreas = restart_below s area.stream cursor.last

-- an area with one cursor more
abbrev pub with_cursor : Cursor → Area → Area
with_cursor cursor area = record area { cursors = area.cursors ++ cursor ∷ [] }

-- an area whose cursor of this number has moved to a record
abbrev pub with_cursor_at : ℕ → ℕ → Area → Area
with_cursor_at number lsn area = record area { cursors = cursors_moved number lsn area.cursors }

-- an area without its cursor of this number
abbrev pub without_cursor : ℕ → Area → Area
without_cursor number area = record area { cursors = cursors_without number area.cursors }
