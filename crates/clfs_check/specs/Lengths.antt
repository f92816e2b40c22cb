-- What reads of a disk leave.
use Rattle.std.specs.Prelude.{◌≡◌, Result, OnErr, IsOk}
use Rattle.clfs_disk.specs.Files.{Unchanged}
use Rattle.clfs_disk.specs.State.{DiskState, IsSteady, Passes, Rises}
use Rattle.clfs_disk.specs.declared.disk.Failed.{Failed}

-- The disk was only read. No file and no image changed, and it fails only where the disk fails in it, which a steady one doesn't.
pub record OnlyReads {A : Type 0} (result : Result A Failed) (old new : DiskState) : Type 0 where
  pub same : Unchanged old.files new.files
  pub time : Passes Unchanged old new
  pub cause : OnErr result (Rises old.faults new.faults)
  pub steady : IsSteady old → IsOk result × (new.faults ≡ old.faults)
