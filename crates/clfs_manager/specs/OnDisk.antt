-- What the disk has of the state of a manager's log: its flushed part, in the containers that the newest base copy lists.
use Rattle.std.specs.Prelude.{◌≡◌, ◌<◌, ◌≤◌, false, List, map, slice_get, Some, Contains}
use Rattle.clfs_lsn.specs.Lsn.{container_of, sequence_of}
use Rattle.clfs_lsn.specs.declared.entry.LogEntry.{LogEntry}
use Rattle.clfs_disk.specs.State.{DiskState, TellsContents, IsHonest, IsSettled}
use Rattle.clfs_model.specs.declared.state.State.{State}
use Rattle.clfs_model.specs.Flush.{cut, flushed}
use Rattle.clfs_model.specs.Live.{hold}
use Rattle.clfs_model.specs.Storable.{IsStorable}
use Rattle.clfs_model.specs.Valid.{IsValid}
use Rattle.clfs_buffers.specs.Buffered.{Buffered, kept_at}
use Rattle.clfs_buffers.specs.Reading.{block_place, first_lsn}
use Rattle.clfs_buffers.specs.declared.place.BlockPlace.{BlockPlace}
use Rattle.clfs_physical.specs.Stored.{Newest, Blocks, Stores}
use Rattle.clfs_recover.specs.Logs.{IsLogWith, stored_state, records_from_container}
use Rattle.clfs_manager.specs.Memory.{HasForgotten, Holds}
use Rattle.clfs_manager.specs.declared.log.Log.{Log}

-- A base copy and the open blocks of the files that it lists are the flushed part of a state, but for records of containers that the copy
-- doesn't list, and these lie below the hold's.
pub record IsStored (s : State) (newest : Newest) (blocks : Blocks) : Type 0 where
  pub entries : List LogEntry
  pub log : IsLogWith newest.image (map blocks newest.image.files) entries
  pub records : entries ≡ records_from_container newest.image.first (cut s).records
  pub state : stored_state newest.image (map blocks newest.image.files) entries s.buffers ≡ record (cut s) { records = entries }
  pub needed : newest.image.first ≤ container_of (hold s)

-- The records that are kept of blocks are those of the state: a block that is kept was on the disk as a whole, and each record of it that the
-- state has stands at its position.
pub record AreKept (s : State) (kept : Buffered) : Type 0 where
  pub stable : (place : BlockPlace) (records : List LogEntry) → kept_at place kept ≡ Some records → first_lsn place < flushed s
  pub records : (place : BlockPlace) (records : List LogEntry) → kept_at place kept ≡ Some records → (entry : LogEntry) → Contains s.records entry
      → block_place entry.lsn ≡ place → slice_get records (sequence_of entry.lsn) ≡ Some entry

-- A log that isn't broken: memory has its state, and the disk its flushed part. Where the disk tells what it holds, so do its files and the blocks
-- that were read of them; where it keeps what it synced, nothing is pending. Memory has forgotten what is needed no more.
pub record IsOpen (disk : DiskState) (s : State) (log : Log) : Type 0 where
  pub memory : Holds s log
  pub blocks : Blocks
  pub stored : IsStored s log.physical blocks
  pub files : TellsContents disk → Stores false log.physical blocks disk.files
  pub kept : TellsContents disk → AreKept s log.buffers
  pub settled : IsHonest disk → IsSettled disk
  pub forgotten : HasForgotten s log

-- What is true of a manager: its state is one that a log can be in and that files can hold, and it is open unless it is broken.
pub record IsManaged (disk : DiskState) (log : Log) : Type 0 where
  pub valid : IsValid log.state.value
  pub storable : IsStorable log.state.value
  pub broken : log.state.value.broken ≡ log.broken
  pub whole : log.broken ≡ false → IsOpen disk log.state.value log
