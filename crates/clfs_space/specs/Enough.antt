-- From which number of containers on a log has the wanted free sectors.
use Rattle.std.specs.Prelude.{ℕ, ◌≤◌, ◌<◌}
use Rattle.clfs_lsn.specs.declared.place.Place.{Place}
use Rattle.clfs_lsn.specs.declared.shape.Shape.{Shape}
use Rattle.clfs_lsn.specs.Space.{active_containers, free_sectors}

-- n containers, those in use among them, give the wanted sectors; so do more of them, and fewer don't
pub record IsThreshold (shape : Shape) (place : Place) (hold wanted n : ℕ) : Type 0 where
  pub used : active_containers place hold ≤ n
  pub enough : (m : ℕ) → n ≤ m → wanted ≤ free_sectors shape place hold m
  pub short : (m : ℕ) → active_containers place hold ≤ m → m < n → free_sectors shape place hold m < wanted

-- no number of containers gives the wanted sectors
abbrev pub IsOutOfReach : Shape → Place → ℕ → ℕ → Type 0
IsOutOfReach shape place hold wanted = (m : ℕ) → free_sectors shape place hold m < wanted
