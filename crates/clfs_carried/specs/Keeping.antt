-- That a disk shows what it showed.
use Rattle.std.specs.Prelude.{◌≡◌}
use Rattle.clfs_disk.specs.Files.{Unchanged}
use Rattle.clfs_disk.specs.State.{DiskState, IsSettled, Passes}

-- The files are as they were, no moment passed, what a crash leaves is the same, and no call was counted.
pub record Keeps (old new : DiskState) : Type 0 where
  pub same : Unchanged old.files new.files
  pub time : Passes Unchanged old new
  pub clock : new.clock ≡ old.clock
  pub settled : IsSettled old → IsSettled new
  pub calls : new.calls ≡ old.calls
  pub faults : new.faults ≡ old.faults
