-- A disk that a type's name follows.
use Rattle.std.specs.Prelude.{◌≡◌, Option, Some}
use Rattle.clfs_disk.specs.State.{DiskState, Later}

-- A disk came of the one that a name stands for by calls alone, if the name stands for one.
abbrev pub Follows : {D : Type 0} → (D → DiskState) → Option D → D → Type 0
Follows {D} state begun disk = (first : D) → begun ≡ Some first → Later (state first) (state disk)
