-- A log between the small changes of a restart area, and what writing its blocks leaves on the disk.
use Rattle.std.specs.Prelude.{◌≡◌, ◌⊎◌, ℕ, ◌+◌, ◌++◌, false, Bool, List, map}
use Rattle.clfs_lsn.specs.Lsn.{lsn_number, container_of, offset_of}
use Rattle.clfs_lsn.specs.Place.{IsClosed}
use Rattle.clfs_lsn.specs.declared.entry.LogEntry.{LogEntry}
use Rattle.clfs_base.specs.declared.image.BaseImage.{BaseImage}
use Rattle.clfs_container.specs.OpenBlocks.{total}
use Rattle.clfs_disk.specs.State.{DiskState, TellsContents, IsSettled, Leaves}
use Rattle.clfs_laws.specs.Between.{IsLaid}
use Rattle.clfs_model.specs.declared.state.State.{State}
use Rattle.clfs_model.specs.Flush.{flush, flushed}
use Rattle.clfs_physical.specs.Stored.{Newest, Blocks, Stores}
use Rattle.clfs_recover.specs.Logs.{IsLogWith, HaveMore, file_at_end}
use Rattle.clfs_manager.specs.Flushing.{EndsBlock}
use Rattle.clfs_manager.specs.Memory.{Holds, unflushed}
use Rattle.clfs_manager.specs.OnDisk.{IsStored}
use Rattle.clfs_manager.specs.declared.log.Log.{Log}

-- A log that isn't broken, as memory has it: only the restart area that was put last may keep its state from being one that files can hold.
pub record IsLaidLog (log : Log) : Type 0 where
  pub laid : IsLaid log.state.value
  pub unbroken : log.broken ≡ false
  pub whole : log.state.value.broken ≡ false
  pub holds : Holds log.state.value log

-- Where a group begins: there what is on the disk ends.
pub record BeginsAt (s : State) (at : ℕ) : Type 0 where
  pub flushed_is : flushed s ≡ lsn_number s.place.container at 0
  pub container : container_of (flushed s) ≡ s.place.container
  pub offset : offset_of (flushed s) ≡ at

-- After the blocks of before, in the last container that the copy lists, there are blocks with the records that waited: from where what was on the
-- disk ended up to where the log goes on.
pub record HasGroup (s : State) (image : BaseImage) (before after : Blocks) (entries : List LogEntry) : Type 0 where
  pub more : List (List ℕ)
  pub have : HaveMore image more before after
  pub log : IsLogWith image (map after image.files) (entries ++ unflushed s)
  pub begins : BeginsAt s (total (before (file_at_end image)))
  pub end : total (before (file_at_end image)) + total more ≡ (flush s).place.offset

-- What was on the disk of a state is there with all that waited after it; where the disk tells what it holds, so do its files, and these are at full
-- length where they were.
abbrev pub WrittenAfter : DiskState → DiskState → State → Newest → Newest → Type 0
WrittenAfter old new s before after = (blocks : Blocks) → (stored : IsStored s before blocks)
    → (all : Blocks) × (HasGroup s before.image blocks all stored.entries
    × (TellsContents old → (whole : Bool) → Stores whole before blocks old.files → Stores whole after all new.files))

-- A log whose open block, where there was one, has just ended: what wasn't on the disk waits.
pub record IsEndedLog (log : Log) : Type 0 where
  pub before : Log
  pub laid : IsLaidLog before
  pub ended : EndsBlock before log
  pub closed : IsClosed log.queue.place

-- A group of what waits goes to the disk. Once it is written it stands after what was on the disk; a crash at any moment leaves what was there, or
-- all of the group after it.
abbrev pub SendsGroup : Type 0 → DiskState → DiskState → State → Newest → Type 0
SendsGroup written old new s newest = (blocks : Blocks) → (stored : IsStored s newest blocks)
    → (all : Blocks) × (HasGroup s newest.image blocks all stored.entries
    × ((written → TellsContents old → (whole : Bool) → Stores whole newest blocks old.files → Stores whole newest all new.files)
    × (IsSettled old → (whole : Bool) → Stores whole newest blocks old.files
    → Leaves (λ image. Stores whole newest blocks image ⊎ Stores whole newest all image) old new)))
