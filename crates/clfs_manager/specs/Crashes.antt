-- What a crash leaves while a call is under way.
use Rattle.std.specs.Prelude.{◌≡◌, ◌⊎◌, Bool, true, false}
use Rattle.clfs_disk.specs.Files.{Files}
use Rattle.clfs_disk.specs.State.{DiskState, IsHonest, IsSettled, Leaves}
use Rattle.clfs_model.specs.declared.state.State.{State}
use Rattle.clfs_model.specs.Flush.{IsSame}
use Rattle.clfs_model.specs.Run.{Request}
use Rattle.clfs_model.specs.Survivors.{Survives}
use Rattle.clfs_physical.specs.Stored.{Newest, Blocks, Stores}
use Rattle.clfs_recover.specs.Files.{StandsFor, AreWholeFiles}
use Rattle.clfs_manager.specs.OnDisk.{IsStored}

-- Files hold what survives a request that was under way from a state: they stand for a state that is the same to every reply as a survivor. With
-- `whole` they are at full length.
pub record HoldSurvivor (whole : Bool) (asked : Request) (s : State) (files : Files) : Type 0 where
  pub survivor : State
  pub survives : Survives asked s survivor
  pub opened : State
  pub stands : StandsFor files opened
  pub same : IsSame survivor opened
  pub full : whole ≡ true → AreWholeFiles files

-- While a request is under way from a state a crash at any moment leaves files that hold a survivor of it, at full length where the files were, over
-- a disk that keeps what it synced.
abbrev pub CrashLeavesSurvivor : Request → State → DiskState → DiskState → Type 0
CrashLeavesSurvivor asked s old new =
    IsHonest old → (whole : Bool) → (whole ≡ true → AreWholeFiles old.files) → Leaves (HoldSurvivor whole asked s) old new

-- the same for a log that isn't broken: one that is makes no call on the disk
abbrev pub CrashSurvives : Request → State → DiskState → DiskState → Type 0
CrashSurvives asked s old new = s.broken ≡ false → CrashLeavesSurvivor asked s old new

-- Files store a state, in the containers that some base copy lists.
pub record HaveStored (whole : Bool) (s : State) (files : Files) : Type 0 where
  pub newest : Newest
  pub blocks : Blocks
  pub stored : IsStored s newest blocks
  pub stores : Stores whole newest blocks files

-- Whatever a call answers that makes of what is on the disk of one state that of another, a crash at any moment of it leaves the one or the other.
abbrev pub StoredMeanwhile : DiskState → DiskState → State → State → Newest → Type 0
StoredMeanwhile old new s t before = (blocks : Blocks) → IsStored s before blocks → IsSettled old → (whole : Bool) → Stores whole before blocks old.files
    → Leaves (λ image. HaveStored whole s image ⊎ HaveStored whole t image) old new
