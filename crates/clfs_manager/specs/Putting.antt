-- What the small changes of which an append is made leave in memory.
use Rattle.std.specs.Prelude.{◌≡◌, ℕ, ◌+◌, ◌-◌, ◌<◌, ◌≤◌, ◌^◌, ◌&&◌, nat_lt, Bool, List, [], length, slice_index, Result, Some, None, IfErr, IfOk, OnOk}
use Rattle.clfs_lsn.specs.Lsn.{null_lsn, container_of}
use Rattle.clfs_lsn.specs.Place.{IsClosed}
use Rattle.clfs_lsn.specs.declared.entry.LogEntry.{LogEntry}
use Rattle.clfs_areas.specs.Table.{area_at}
use Rattle.clfs_base.specs.declared.image.BaseImage.{BaseImage}
use Rattle.clfs_model.specs.declared.call.Call.{Call}
use Rattle.clfs_model.specs.declared.refusal.Refusal.{Refusal}
use Rattle.clfs_model.specs.declared.state.State.{State}
use Rattle.clfs_model.specs.Live.{hold}
use Rattle.clfs_model.specs.Refusals.{refusal}
use Rattle.clfs_model.specs.State.{area_of}
use Rattle.clfs_model.specs.Step.{fills_buffers}
use Rattle.clfs_model.specs.Storable.{IsStorable}
use Rattle.clfs_model.specs.Valid.{IsValid}
use Rattle.clfs_laws.specs.Between.{turned}
use Rattle.clfs_record.specs.Fields.{placed_record}
use Rattle.clfs_record.specs.declared.fields.Fields.{Fields}
use Rattle.clfs_recover.specs.Walk.{shape_of}
use Rattle.clfs_tables.specs.Tables.{HasSame}
use Rattle.clfs_manager.specs.declared.log.Log.{Log}

-- Of a log the areas are as they were, and there is room for as many records of each stream, and for as many ends of blocks, but for so many.
pub record KeepsRoom (used : ℕ) (old new : Log) : Type 0 where
  pub heads : (place : ℕ) → slice_index old.tables.room place ≤ slice_index new.tables.room place
  pub areas : new.areas ≡ old.areas
  pub ends : old.archive.room ≤ new.archive.room + used

-- For a record of this stream there is memory: for its head, and for the ends of two blocks.
pub record HasMemory (stream : ℕ) (log : Log) : Type 0 where
  pub heads : 1 ≤ slice_index log.tables.room (stream - 1)
  pub ends : 2 ≤ log.archive.room

-- The area at a place stays the same one, whatever it holds.
pub record KeepsArea (at : ℕ) (old new : Log) : Type 0 where
  pub place : at < length new.areas.areas
  pub client : (area_at at new.areas.areas).client ≡ (area_at at old.areas.areas).client
  pub number : (area_at at new.areas.areas).number ≡ (area_at at old.areas.areas).number

-- The place of a client's area of a number through which a call puts a record, or why the call is refused.
pub record FindsArea (log : Log) (client number : ℕ) (call : Call) (result : Result ℕ Refusal) : Type 0 where
  pub refused : IfErr result (λ first. refusal log.state.value client call ≡ Some first)
  pub allowed : IfOk result (λ _. refusal log.state.value client call ≡ None)
  pub within : IfOk result (λ place. place < length log.areas.areas)
  pub there : IfOk result (λ place. area_of log.state.value client number ≡ Some (area_at place log.areas.areas))
  pub two : OnOk result (2 ≤ log.state.value.containers)

-- Sealing writes: a block is open, and with it as many wait as there are write buffers.
abbrev pub sealing_writes : State → Bool
sealing_writes s = nat_lt 0 s.place.records && fills_buffers s

-- a record that has no LSN yet
abbrev pub unplaced : Fields → List ℕ → LogEntry
unplaced fields bytes = placed_record null_lsn fields bytes

-- A log that goes on in its next container, which has an id and is one of its containers that aren't in use: all is on the disk.
pub record MayTurnTo (s : State) : Type 0 where
  pub valid : IsValid (turned s)
  pub storable : IsStorable (turned s)
  pub waiting : s.waiting ≡ []
  pub closed : IsClosed s.place
  pub id : s.place.container + 1 < 2 ^ 32
  pub unused : s.place.container + 1 + 1 ≤ container_of (hold s) + s.containers
  pub hold : container_of (hold s) ≤ container_of (hold (turned s))

-- Of a log the tables of records and the queue alone have changed, in memory.
pub record IsPutInMemory (old new : Log) : Type 0 where
  pub low : new.tables.low ≡ old.tables.low
  pub areas : new.areas ≡ old.areas
  pub archive : new.archive ≡ old.archive
  pub policies : new.policies ≡ old.policies
  pub physical : new.physical ≡ old.physical
  pub buffers : new.buffers ≡ old.buffers
  pub broken : new.broken ≡ old.broken

-- Memory was taken, and nothing else has changed.
pub record HasSameLog (old new : Log) : Type 0 where
  pub tables : HasSame old.tables new.tables
  pub areas : new.areas ≡ old.areas
  pub tail : new.archive.tail ≡ old.archive.tail
  pub ends : new.archive.blocks ≡ old.archive.blocks
  pub room : old.archive.room ≤ new.archive.room
  pub policies : new.policies ≡ old.policies
  pub physical : new.physical ≡ old.physical
  pub queue : new.queue ≡ old.queue
  pub buffers : new.buffers ≡ old.buffers
  pub broken : new.broken ≡ old.broken
  pub state : new.state ≡ old.state

-- The newest copy once the next container is listed, and none below the hold's.
pub record TakesContainer (s : State) (image : BaseImage) : Type 0 where
  pub first : image.first ≡ container_of (hold s)
  pub listed : image.first + length image.files ≡ s.place.container + 1 + 1
  pub containers : image.containers ≡ s.containers
  pub shape : shape_of image ≡ s.shape
  pub dedicated : image.dedicated ≡ s.dedicated
  pub rows : length image.streams ≡ length s.streams
