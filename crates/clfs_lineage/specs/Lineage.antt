-- When an archive can be a later one of the same log as another.
use Rattle.std.specs.Prelude.{ℕ, Bool, ◌&&◌, nat_le, true, false, List, [], ◌∷◌, map}
use Rattle.std.specs.Str.{bytes_eq}
use Rattle.clfs_base.specs.declared.image.Row.{Row}
use Rattle.clfs_lineage.specs.declared.origin.Origin.{Origin}

-- the names of streams
abbrev pub names_of : List Row → List (List ℕ)
names_of rows = map (λ row. row.name) rows

-- names are the first of others
abbrev pub are_first : List (List ℕ) → List (List ℕ) → Bool
are_first [] others = true
are_first (name ∷ names) [] = false
are_first (name ∷ names) (other ∷ others) = bytes_eq name other && are_first names others

-- The streams of the earlier one are the first of the later one's, and neither the first container that is listed nor the end of what is on the disk has
-- fallen.
abbrev pub may_come_after : Origin → Origin → Bool
may_come_after later earlier =
    nat_le earlier.first later.first && nat_le earlier.end later.end && are_first (names_of earlier.streams) (names_of later.streams)
