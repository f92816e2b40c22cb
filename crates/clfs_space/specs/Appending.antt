-- When a log has room for one more record.
use Rattle.std.specs.Prelude.{ℕ, ◌≤◌}
use Rattle.clfs_lsn.specs.declared.place.Place.{Place}
use Rattle.clfs_lsn.specs.declared.shape.Shape.{Shape}
use Rattle.clfs_lsn.specs.Size.{IsShape, own, longest}
use Rattle.clfs_lsn.specs.Place.{IsWithin}
use Rattle.clfs_lsn.specs.Space.{active_containers, free_sectors}

-- a log whose free sectors are at least those of a block with one record of n bytes, and a record that is none too long
pub record HasRoom (shape : Shape) (place : Place) (hold containers n : ℕ) : Type 0 where
  pub is_shape : IsShape shape
  pub is_within : IsWithin shape place
  pub length : n ≤ longest shape
  pub active : active_containers place hold ≤ containers
  pub free : own n ≤ free_sectors shape place hold containers
