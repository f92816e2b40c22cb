-- Cursors in the list of an area's cursors.
use Rattle.std.specs.Prelude.{ℕ, Bool, true, false, not, ◌&&◌, ◌==◌, if◌then◌else◌, List, length, map, filter, find, Option}
use Rattle.std.specs.List.{list_any}
use Rattle.clfs_lsn.specs.Numbers.{least_unused}
use Rattle.clfs_lsn.specs.declared.cursor.Cursor.{Cursor}
use Rattle.clfs_lsn.specs.declared.cursor.CursorKind.{CursorKind}
use Rattle.clfs_lsn.specs.declared.cursor.CursorKind.TheVariants.{Records, RestartAreas}

-- whether a cursor goes over restart areas
abbrev pub is_over_restarts : CursorKind → Bool
is_over_restarts (Records mode) = false
is_over_restarts RestartAreas = true

-- the cursor of this number
abbrev pub cursor_in : List Cursor → ℕ → Option Cursor
cursor_in cursors number = find (λ (cursor : Cursor). cursor.number == number) cursors

-- the cursor of this number that goes over records
abbrev pub record_cursor_in : List Cursor → ℕ → Option Cursor
record_cursor_in cursors number = find (λ (cursor : Cursor). (cursor.number == number) && not (is_over_restarts cursor.kind)) cursors

-- the cursor of this number that goes over restart areas
abbrev pub restart_cursor_in : List Cursor → ℕ → Option Cursor
restart_cursor_in cursors number = find (λ (cursor : Cursor). (cursor.number == number) && is_over_restarts cursor.kind) cursors

-- whether a cursor has this number
abbrev pub is_cursor_number : List Cursor → ℕ → Bool
is_cursor_number cursors number = list_any (λ (cursor : Cursor). cursor.number == number) cursors

-- the number of a new cursor
abbrev pub unused_cursor : List Cursor → ℕ
unused_cursor cursors = least_unused (length cursors) (is_cursor_number cursors)

-- the cursors once the one of this number has moved to a record
abbrev pub cursors_moved : ℕ → ℕ → List Cursor → List Cursor
cursors_moved number lsn cursors = map (λ (cursor : Cursor). if cursor.number == number then record cursor { last = lsn } else cursor) cursors

-- the cursors without the one of this number
abbrev pub cursors_without : ℕ → List Cursor → List Cursor
cursors_without number cursors = filter (λ (cursor : Cursor). not (cursor.number == number)) cursors
