-- The numbers of an area's cursors with their keys.
use Rattle.std.specs.Prelude.{ℕ, ◌≤◌, Bool, ◌==◌, List, count_by}
use Rattle.std.specs.List.{list_any}
use Rattle.clfs_cursor.specs.declared.keys.Numbered.{Numbered}

-- the cursors in the order in which they were started, and how many the area may have
pub record Keys : Type 0 where
  pub numbered : List Numbered
  pub reads : ℕ

-- whether it is the cursor of this number
abbrev pub has_number : ℕ → Numbered → Bool
has_number number numbered = numbered.number == number

-- whether a cursor has this number
abbrev pub is_numbered : List Numbered → ℕ → Bool
is_numbered keys number = list_any (has_number number) keys

-- no number stands twice
abbrev pub AreDifferent : List Numbered → Type 0
AreDifferent keys = (number : ℕ) → count_by (has_number number) keys ≤ 1
