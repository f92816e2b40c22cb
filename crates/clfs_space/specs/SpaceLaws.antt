-- The laws of space that the laws of the log rest on, as facts for whoever calls the function that has them.
use Rattle.std.specs.Prelude.{◌≡◌, ℕ, ◌-◌, ◌≤◌, Some}
use Rattle.clfs_lsn.specs.declared.place.Place.{Place}
use Rattle.clfs_lsn.specs.declared.shape.Shape.{Shape}
use Rattle.clfs_lsn.specs.Size.{own}
use Rattle.clfs_lsn.specs.Place.{place_after}
use Rattle.clfs_lsn.specs.Space.{active_containers, free_sectors, growth, least_containers}
use Rattle.clfs_space.specs.Appending.{HasRoom}
use Rattle.clfs_space.specs.Growing.{IsLeastStep, IsFewest}

-- An append lowers the free sectors by its record's own at most; growth is the least step that is enough; and the least number of
-- containers is the fewest that are enough.
pub record HasSpaceLaws : Type 0 where
  pub append : (shape : Shape) (place : Place) (hold containers n : ℕ) → HasRoom shape place hold containers n
      → free_sectors shape place hold containers - own n ≤ free_sectors shape (place_after shape place n).1 hold containers
  pub growth : (shape : Shape) (place : Place) (hold containers rate maximum wanted n : ℕ)
      → growth shape place hold containers rate maximum wanted ≡ Some n → IsLeastStep shape place hold containers rate maximum wanted n
  pub fewest : (shape : Shape) (place : Place) (hold containers reserved : ℕ)
      → active_containers place hold ≤ containers → reserved ≤ free_sectors shape place hold containers
      → IsFewest shape place hold containers reserved (least_containers shape place hold containers reserved)
