-- What a manager has in memory of the state of its log.
use Rattle.std.specs.Prelude.{◌≡◌, ℕ, ◌+◌, ◌≤◌, false, nat_le, List, length, filter}
use Rattle.clfs_lsn.specs.Lsn.{lsn_number, container_of}
use Rattle.clfs_lsn.specs.declared.entry.Head.{Head}
use Rattle.clfs_lsn.specs.declared.entry.LogEntry.{LogEntry}
use Rattle.clfs_lsn.specs.Heads.{heads_from}
use Rattle.clfs_base.specs.declared.image.BaseImage.{BaseImage}
use Rattle.clfs_model.specs.declared.state.State.{State}
use Rattle.clfs_model.specs.Flush.{block_start, flushed}
use Rattle.clfs_model.specs.Heads.{heads_of}
use Rattle.clfs_model.specs.Live.{hold}
use Rattle.clfs_model.specs.Storable.{IsStorable}
use Rattle.clfs_model.specs.Valid.{IsValid}
use Rattle.clfs_policy.specs.declared.policies.Policies.{Policies}
use Rattle.clfs_recover.specs.Files.{policy_of}
use Rattle.clfs_recover.specs.Walk.{shape_of}
use Rattle.clfs_archive.specs.Blocks.{AreFew, AreSealed, sealed_lasts}
use Rattle.clfs_manager.specs.declared.log.Log.{Log}

-- the policies that are installed
abbrev pub policies_of : State → Policies
policies_of s = record { maximum = s.maximum; minimum = s.minimum; growth = s.growth; automatic = s.automatic }

-- the policies that a base copy has
abbrev pub policies_in : BaseImage → Policies
policies_in image = record {
  maximum = policy_of image.maximum;
  minimum = policy_of image.minimum;
  growth = policy_of image.growth;
  automatic = image.automatic;
}

-- the records that aren't on the disk yet
abbrev pub unflushed : State → List LogEntry
unflushed s = filter (λ (entry : LogEntry). nat_le (flushed s) entry.lsn) s.records

-- What the tables, the queue and the settings in memory have is the state's. Heads of records and ends of blocks may be left out in containers
-- below the hold's, where nothing is asked for any more. Where a block is open there is room for its end, so that sealing it takes no memory. The
-- newest base copy lists the containers up to the place's.
pub record Holds (s : State) (log : Log) : Type 0 where
  pub shape : log.queue.shape ≡ s.shape
  pub buffers : log.queue.buffers ≡ s.buffers
  pub place : log.queue.place ≡ s.place
  pub waiting : log.queue.waiting ≡ s.waiting
  pub records : log.queue.records ≡ unflushed s
  pub streams : log.tables.streams ≡ s.streams
  pub heads : log.tables.heads ≡ heads_of s
  pub low : log.tables.low ≤ lsn_number (container_of (hold s)) 0 0
  pub areas : log.areas.areas ≡ s.areas
  pub archive : log.archive.tail ≡ s.archive
  pub sealed : AreSealed log.tables.low (block_start s.place) log.archive.blocks (heads_of s)
  pub room : 1 ≤ s.place.records → 1 ≤ log.archive.room
  pub policies : log.policies ≡ policies_of s
  pub containers : log.physical.image.containers ≡ s.containers
  pub image_shape : shape_of log.physical.image ≡ s.shape
  pub dedicated : log.physical.image.dedicated ≡ s.dedicated
  pub rows : length log.physical.image.streams ≡ length s.streams
  pub listed : log.physical.image.first + length log.physical.image.files ≡ s.place.container + 1
  pub needed : log.physical.image.first ≤ container_of (hold s)

-- the LSN at which the hold's container begins
abbrev pub hold_start : State → ℕ
hold_start s = lsn_number (container_of (hold s)) 0 0

-- the last record of each sealed block in the hold's container and after it: archiving may still ask where these blocks end
abbrev pub lasts_needed : State → List Head
lasts_needed s = heads_from (hold_start s) (sealed_lasts (block_start s.place) (heads_of s))

-- In containers below the hold's nothing is kept in memory but what was left there: at most as many heads of records, and ends of blocks, as are kept
-- from there on.
pub record HasForgotten (s : State) (log : Log) : Type 0 where
  pub low : hold_start s ≤ log.tables.low
  pub ends : AreFew log.tables.low log.archive.blocks

-- A log that isn't broken, as memory has it: its state is one that a log can be in and that files can hold.
pub record IsSound (log : Log) : Type 0 where
  pub valid : IsValid log.state.value
  pub storable : IsStorable log.state.value
  pub unbroken : log.broken ≡ false
  pub whole : log.state.value.broken ≡ false
  pub holds : Holds log.state.value log

-- Of a log the areas alone have changed, in memory and in the state.
pub record ChangesAreas (old new : Log) : Type 0 where
  pub state : new.state.value ≡ record old.state.value { areas = new.state.value.areas }
  pub areas : new.areas.areas ≡ new.state.value.areas
  pub tables : new.tables ≡ old.tables
  pub archive : new.archive ≡ old.archive
  pub policies : new.policies ≡ old.policies
  pub physical : new.physical ≡ old.physical
  pub queue : new.queue ≡ old.queue
  pub buffers : new.buffers ≡ old.buffers
  pub broken : new.broken ≡ old.broken
