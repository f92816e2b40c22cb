-- What the parts of the table of cursors stand for, and what is true of them.
use Rattle.std.specs.Prelude.{◌≡◌, ℕ, ◌≤◌, Bool, ◌==◌, if◌then◌else◌, List, map, length, sum_by, count_by, Option, Some, None, is_some, vec_capacity}
use Rattle.slab.specs.Slab.{Slab, get, slab_len}
use Rattle.clfs_lsn.specs.declared.cursor.Cursor.{Cursor}
use Rattle.clfs_lsn.specs.declared.cursor.CursorKind.{CursorKind}
use Rattle.clfs_lsn.specs.declared.cursor.CursorKind.TheVariants.{RestartAreas}
use Rattle.clfs_cursor.specs.Rows.{AreaCursors}
use Rattle.clfs_cursor.specs.Keys.{Keys, AreDifferent}
use Rattle.clfs_cursor.specs.declared.keys.Numbered.{Numbered}
use Rattle.clfs_cursor.specs.declared.keys.AreaKeys.TheInside.{Inside}
use Rattle.clfs_cursor.specs.declared.standing.Standing.{Standing}

-- what is true of the keys of an area
pub record AreKept (area : Inside) : Type 0 where
  -- each cursor that the area may have finds room without memory
  pub room : area.reads ≤ vec_capacity area.keys
  -- a number names one cursor, so what ends or moves is that one
  pub different : AreDifferent area.keys.items

-- what a cursor goes over; one that isn't in the slab could be anything
abbrev pub kind_of : Option Standing → CursorKind
kind_of (Some standing) = standing.kind
kind_of None = RestartAreas

-- the record that it gave last
abbrev pub last_of : Option Standing → ℕ
last_of (Some standing) = standing.last
last_of None = 0

-- the cursor that the slab has at a key, with its number
abbrev pub cursor_by : Slab Standing → Numbered → Cursor
cursor_by slots numbered = record {
  number = numbered.number;
  kind = kind_of (get slots numbered.key);
  last = last_of (get slots numbered.key);
}

-- the cursors of an area
abbrev pub area_by : Slab Standing → Keys → AreaCursors
area_by slots keys = record { cursors = map (cursor_by slots) keys.numbered; reads = keys.reads }

-- whether it has this key
abbrev pub has_key : ℕ → Numbered → Bool
has_key key numbered = numbered.key == key

-- how often a key stands in an area
abbrev pub uses_in : ℕ → Keys → ℕ
uses_in key area = count_by (has_key key) area.numbered

-- how often a key stands in all areas
abbrev pub uses : ℕ → List Keys → ℕ
uses key areas = sum_by (uses_in key) areas

-- how many keys stand in all areas
abbrev pub key_count : List Keys → ℕ
key_count areas = sum_by (λ (area : Keys). length area.numbered) areas

-- what is true of the slab and the areas
pub record AreOwned (slots : Slab Standing) (areas : List Keys) : Type 0 where
  -- each cursor in the slab stands in one area, once, so what changes there changes no other area; a key that isn't in the slab stands
  -- nowhere, so no cursor is lost, and none stays when its area goes
  pub once : (key : ℕ) → uses key areas ≡ (if is_some (get slots key) then 1 else 0)
  -- the slab has room for just as many more as are missing to its capacity
  pub as_many : slab_len slots ≡ key_count areas
