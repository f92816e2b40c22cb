-- How calls that write leave a log and its disk.
use Rattle.std.specs.Prelude.{◌≡◌, ◌⊎◌, ℕ, ◌*◌, ◌<◌, ◌≤◌, false, length, Result, Ok, OnOk}
use Rattle.clfs_lsn.specs.Format.{sector_bytes}
use Rattle.clfs_areas.specs.Table.{AreaTable}
use Rattle.clfs_base.specs.declared.image.BaseImage.{BaseImage}
use Rattle.clfs_base.specs.Layout.{version_two}
use Rattle.clfs_base.specs.Slots.{newest_of}
use Rattle.clfs_disk.specs.Files.{Files}
use Rattle.clfs_disk.specs.State.{DiskState, TellsContents, IsHonest, IsSettled, IsSteady, Later, Rises}
use Rattle.clfs_physical.specs.Stored.{Blocks, Stores}
use Rattle.clfs_recover.specs.Files.{AreWholeFiles}
use Rattle.clfs_manager.specs.Memory.{IsSound}
use Rattle.clfs_manager.specs.OnDisk.{AreKept, IsOpen, IsStored}
use Rattle.clfs_manager.specs.declared.log.Log.{Log}

-- A log that isn't broken: memory has its state, and the disk the flushed part of it.
pub record IsIntact (disk : DiskState) (log : Log) : Type 0 where
  pub sound : IsSound log
  pub opened : IsOpen disk log.state.value log

-- A log that isn't broken and has these areas: memory has its state, and the disk the flushed part of it. Whether a log can be in that state isn't said.
pub record IsOpenWith (kept : AreaTable) (disk : DiskState) (log : Log) : Type 0 where
  pub opened : IsOpen disk log.state.value log
  pub unbroken : log.broken ≡ false
  pub areas : log.areas ≡ kept

-- A log that is intact once memory forgets what is needed no more.
pub record IsYetToForget (disk : DiskState) (log : Log) : Type 0 where
  pub sound : IsSound log
  pub blocks : Blocks
  pub stored : IsStored log.state.value log.physical blocks
  pub files : TellsContents disk → Stores false log.physical blocks disk.files
  pub kept : TellsContents disk → AreKept log.state.value log.buffers
  pub settled : IsHonest disk → IsSettled disk

-- How a call that may write leaves the disk, by what it is to answer a fault. It does so only where the disk failed in it, and never over a steady
-- disk whose files are at full length. Files that are at full length stay so.
pub record WritesDisk (fault : Type 0) (old new : DiskState) : Type 0 where
  pub time : Later old new
  pub cause : fault → Rises old.faults new.faults
  pub whole : (fault → ⊥) → TellsContents old → AreWholeFiles old.files → AreWholeFiles new.files
  pub steady : IsSteady old → TellsContents old → AreWholeFiles old.files → (fault → ⊥) × (new.faults ≡ old.faults)

-- an image of the second version of the copies
abbrev pub IsCurrent : BaseImage → Type 0
IsCurrent image = image.version ≡ version_two.version

-- The newest base copy that files have is of the second version, whatever the one of before it was.
pub record HaveCurrentCopy (files : Files) : Type 0 where
  pub slot : ℕ
  pub image : BaseImage
  pub newest : newest_of (files 0) ≡ Ok (slot, image)
  pub current : IsCurrent image

-- Once a call that writes a copy was answered, over a disk that tells what it holds, the newest copy is of the second version.
abbrev pub CopyIsCurrent : {A E : Type 0} → Result A E → DiskState → Type 0
CopyIsCurrent result disk = OnOk result (TellsContents disk → HaveCurrentCopy disk.files)

-- The newest base copy that files have is the one of before, or one of the second version.
abbrev pub CopyStaysOrIsCurrent : Files → Files → Type 0
CopyStaysOrIsCurrent old new = (newest_of (new 0) ≡ newest_of (old 0)) ⊎ HaveCurrentCopy new

-- Each file that the newest copy counts as made, and the one of before didn't, is at full length.
abbrev pub MadeFilesAreWhole : Files → Files → Type 0
MadeFilesAreWhole old new = (slot later : ℕ) (before after : BaseImage) → newest_of (old 0) ≡ Ok (slot, before) → newest_of (new 0) ≡ Ok (later, after)
    → (file : ℕ) → before.files_made < file → file ≤ after.files_made → sector_bytes * before.container_sectors ≤ length (new file)

-- What a call that may write a copy, or none, leaves of the newest one, and of the files that it made. Nothing is said of a call that is to answer a
-- fault, nor over a disk that doesn't tell what it holds.
pub record LeavesCopy (fault : Type 0) (old new : DiskState) : Type 0 where
  pub current : (fault → ⊥) → TellsContents old → CopyStaysOrIsCurrent old.files new.files
  pub made : (fault → ⊥) → TellsContents old → MadeFilesAreWhole old.files new.files
