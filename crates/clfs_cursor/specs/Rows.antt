-- What a contract sees of the cursors of all areas.
use Rattle.std.specs.Prelude.{ℕ, ◌<◌, ◌≤◌, ◌==◌, List, [], length, slice_index_or, slice_set, sum_by, count_by}
use Rattle.clfs_lsn.specs.declared.cursor.Cursor.{Cursor}

-- the cursors of an area in the order in which they were started, and how many it may have
pub record AreaCursors : Type 0 where
  pub cursors : List Cursor
  pub reads : ℕ

-- the areas in the order in which they were added, and for how many cursors in all there is memory
pub record Table : Type 0 where
  pub areas : List AreaCursors
  pub capacity : ℕ

-- an area that may have no cursor
abbrev pub no_cursors : AreaCursors
no_cursors = record { cursors = []; reads = 0 }

-- the area at a place, from 0 on
abbrev pub area_at : ℕ → List AreaCursors → AreaCursors
area_at place areas = slice_index_or areas place no_cursors

-- the areas, of which the one at a place has these cursors
abbrev pub with_cursors : ℕ → List Cursor → List AreaCursors → List AreaCursors
with_cursors place cursors areas = slice_set areas place (record (area_at place areas) { cursors = cursors })

-- no number stands twice
abbrev pub HaveDifferentNumbers : List Cursor → Type 0
HaveDifferentNumbers cursors = (number : ℕ) → count_by (λ (cursor : Cursor). cursor.number == number) cursors ≤ 1

-- how many cursors all areas have
abbrev pub cursor_count : List AreaCursors → ℕ
cursor_count areas = sum_by (λ (area : AreaCursors). length area.cursors) areas

-- a cursor can be started without memory
abbrev pub HasRoom : Table → Type 0
HasRoom table = cursor_count table.areas < table.capacity
