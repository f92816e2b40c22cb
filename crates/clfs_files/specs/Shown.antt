-- What a folder shows of itself as a disk.
use Rattle.std.specs.Prelude.{false, []}
use Rattle.clfs_disk.specs.State.{DiskState}
use Rattle.clfs_files.specs.declared.folder.Folder.{Folder}

-- Its counts of calls and of faults. What the system's files hold, and what a crash leaves of them, is not told.
abbrev pub shown : Folder → DiskState
shown folder = record {
  files = λ file. [];
  clock = 0;
  image_at = λ moment image. Unit {0};
  calls = folder.calls;
  faults = folder.faults;
  nature = record { tells_contents = false; tells_images = false; steady = false };
}
