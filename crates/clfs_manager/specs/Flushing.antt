-- What ending the open block and writing what waits leave in memory and on the disk.
use Rattle.std.specs.Prelude.{◌≡◌, ◌+◌, ◌≤◌, true, Bool}
use Rattle.clfs_disk.specs.State.{DiskState, TellsContents}
use Rattle.clfs_model.specs.declared.state.State.{State}
use Rattle.clfs_model.specs.Flush.{block_start}
use Rattle.clfs_model.specs.Heads.{heads_of}
use Rattle.clfs_model.specs.Step.{with_broken}
use Rattle.clfs_archive.specs.Blocks.{AreFew, AreSealed}
use Rattle.clfs_physical.specs.Stored.{Newest, Blocks, Stores}
use Rattle.clfs_queue.specs.Queued.{seal}
use Rattle.clfs_manager.specs.OnDisk.{IsStored}
use Rattle.clfs_manager.specs.declared.log.Log.{Log}

-- Of a log the open block, where there was one, has ended: it waits in the queue, and its end is known, for which there was room. All else is as it
-- was.
pub record EndsBlock (old new : Log) : Type 0 where
  pub queue : new.queue ≡ seal old.queue
  pub sealed : AreSealed old.tables.low (block_start new.queue.place) new.archive.blocks (heads_of old.state.value)
  pub tail : new.archive.tail ≡ old.archive.tail
  pub few : AreFew old.tables.low old.archive.blocks → AreFew old.tables.low new.archive.blocks
  pub room : old.archive.room ≤ new.archive.room + 1
  pub tables : new.tables ≡ old.tables
  pub areas : new.areas ≡ old.areas
  pub policies : new.policies ≡ old.policies
  pub physical : new.physical ≡ old.physical
  pub buffers : new.buffers ≡ old.buffers
  pub state : new.state ≡ old.state
  pub broken : new.broken ≡ old.broken

-- Of a log the tables, the areas, what is set, the newest copy and the blocks that were read are as they were, and so is whether it is broken. There is
-- room for as many ends of blocks, but for one, and of these are few where they were.
pub record KeepsOthers (old new : Log) : Type 0 where
  pub few : AreFew old.tables.low old.archive.blocks → AreFew new.tables.low new.archive.blocks
  pub room : old.archive.room ≤ new.archive.room + 1
  pub tables : new.tables ≡ old.tables
  pub areas : new.areas ≡ old.areas
  pub policies : new.policies ≡ old.policies
  pub physical : new.physical ≡ old.physical
  pub buffers : new.buffers ≡ old.buffers
  pub broken : new.broken ≡ old.broken

-- The log is broken, and its state is that of before but for that.
pub record IsBroken (old new : Log) : Type 0 where
  pub broken : new.broken ≡ true
  pub state : new.state.value ≡ with_broken old.state.value

-- What was on the disk of one state is there of another, with other blocks perhaps; where the disk tells what it holds, so do its files, and these
-- are at full length where they were.
abbrev pub StoredAfter : DiskState → DiskState → State → State → Newest → Newest → Type 0
StoredAfter old new s t before after = (blocks : Blocks) → IsStored s before blocks
    → (more : Blocks) × (IsStored t after more
    × (TellsContents old → (whole : Bool) → Stores whole before blocks old.files → Stores whole after more new.files))
