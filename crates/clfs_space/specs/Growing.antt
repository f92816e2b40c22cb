-- What growth and the least number of containers are.
use Rattle.std.specs.Prelude.{◌≡◌, ℕ, ◌+◌, ◌*◌, ◌≤◌, ◌<◌}
use Rattle.clfs_lsn.specs.declared.place.Place.{Place}
use Rattle.clfs_lsn.specs.declared.shape.Shape.{Shape}
use Rattle.clfs_lsn.specs.Space.{active_containers, free_sectors}

-- n is some whole steps away, at most the maximum and enough, and every smaller step isn't enough
pub record IsLeastStep (shape : Shape) (place : Place) (hold containers rate maximum wanted n : ℕ) : Type 0 where
  pub whole_steps : (k : ℕ) × (1 ≤ k) × (n ≡ containers + k * rate)
  pub at_most : n ≤ maximum
  pub enough : wanted ≤ free_sectors shape place hold n
  pub least : (k : ℕ) → 1 ≤ k → containers + k * rate < n → free_sectors shape place hold (containers + k * rate) < wanted

-- no number of whole steps up to the maximum is enough
abbrev pub HasNoStep : Shape → Place → ℕ → ℕ → ℕ → ℕ → ℕ → Type 0
HasNoStep shape place hold containers rate maximum wanted =
    (k : ℕ) → 1 ≤ k → containers + k * rate ≤ maximum → free_sectors shape place hold (containers + k * rate) < wanted

-- n has the containers in use and at most those that there are, it is enough, and no smaller number with those in use is
pub record IsFewest (shape : Shape) (place : Place) (hold containers reserved n : ℕ) : Type 0 where
  pub used : active_containers place hold ≤ n
  pub at_most : n ≤ containers
  pub enough : reserved ≤ free_sectors shape place hold n
  pub least : (m : ℕ) → active_containers place hold ≤ m → m < n → free_sectors shape place hold m < reserved
