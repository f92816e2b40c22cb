-- What a `Steady` shows.
use Rattle.std.specs.Prelude.{true, false}
use Rattle.clfs_disk.specs.State.{DiskState}
use Rattle.clfs_disk.specs.Table.{files_of}
use Rattle.clfs_disk.specs.declared.steady.Steady.{Steady}

-- All that the disk shows: it tells its files and no images, and it is steady.
abbrev pub steady_shown : Steady → DiskState
steady_shown disk = record {
  files = files_of disk.files.items;
  clock = 0;
  image_at = λ moment image. Unit {0};
  calls = disk.calls;
  faults = disk.faults;
  nature = record { tells_contents = true; tells_images = false; steady = true };
}
