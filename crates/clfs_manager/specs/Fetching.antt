-- Getting a record of the log by its head: which record that is, what is read of it, and how a refusal leaves the log and the disk.
use Rattle.std.specs.Prelude.{◌≡◌, ℕ, ◌<◌, ◌≤◌, Bool, false, List, length, Contains, MatchBool, Option, Some, Result, Err, IsErrOf}
use Rattle.clfs_lsn.specs.Head.{head_of}
use Rattle.clfs_lsn.specs.Lsn.{container_of, offset_of}
use Rattle.clfs_lsn.specs.declared.entry.Head.{Head}
use Rattle.clfs_lsn.specs.declared.entry.LogEntry.{LogEntry}
use Rattle.clfs_disk.specs.Files.{Unchanged}
use Rattle.clfs_disk.specs.State.{DiskState, TellsContents, IsSteady, Passes, Rises}
use Rattle.clfs_model.specs.declared.refusal.Refusal.{Refusal}
use Rattle.clfs_model.specs.declared.refusal.Refusal.TheVariants as refusals
use Rattle.clfs_model.specs.declared.state.State.{State}
use Rattle.clfs_model.specs.declared.state.Area.{Area}
use Rattle.clfs_model.specs.State.{area_of}
use Rattle.clfs_model.specs.Live.{live, hold}
use Rattle.clfs_model.specs.Step.{IsRecordRead, with_broken}
use Rattle.clfs_buffers.specs.declared.refusal.ReadRefusal.{ReadRefusal}
use Rattle.clfs_buffers.specs.declared.refusal.ReadRefusal.TheVariants as reads
use Rattle.clfs_buffers.specs.Reading.{TellsByte}
use Rattle.clfs_areas.specs.Table.{area_at}
use Rattle.clfs_manager.specs.OnDisk.{IsOpen}
use Rattle.clfs_manager.specs.declared.log.Log.{Log}

-- A record that the log still needs: it is the state's, and lies in the hold's container or above it.
pub record IsNeeded (s : State) (entry : LogEntry) : Type 0 where
  pub there : Contains s.records entry
  pub from_hold : container_of (hold s) ≤ container_of entry.lsn

-- the head of a record that the log still needs
pub record IsNeededHead (s : State) (head : Head) : Type 0 where
  pub entry : LogEntry
  pub needed : IsNeeded s entry
  pub head_is : head_of entry ≡ head

-- A record as it is read: exact where the disk tells what it holds, and else where the record isn't on the disk yet; of any other its LSN.
abbrev pub IsReadAs : Bool → ℕ → LogEntry → LogEntry → Type 0
IsReadAs told stable entry read = MatchBool told (read ≡ entry) (IsRecordRead stable entry read)

-- Why a block wasn't read, as a call tells it: damage with the container and the offset of the LSN's block.
abbrev pub refused_as : ℕ → ReadRefusal → Refusal
refused_as lsn reads.DiskFault = refusals.DiskFault
refused_as lsn (reads.Damaged at) = refusals.Damaged (container_of lsn) (offset_of lsn) at
refused_as lsn reads.NoMemory = refusals.NoMemory

-- How a refusal to get a record leaves the state: a fault and damage break the log, out of memory changes nothing. No other comes.
abbrev pub LeavesState : Refusal → State → State → Type 0
LeavesState refusals.NoMemory s t = t ≡ s
LeavesState refusals.DiskFault s t = t ≡ with_broken s
LeavesState (refusals.Damaged container offset at) s t = t ≡ with_broken s
LeavesState _ s t = ⊥

-- A log is left as a call must leave it: broken just where its state is, and else open.
pub record IsLeft (disk : DiskState) (log : Log) : Type 0 where
  pub broken : log.state.value.broken ≡ log.broken
  pub whole : log.broken ≡ false → IsOpen disk log.state.value log

-- How a call that writes nothing leaves the disk. It tells a fault only where the disk failed in it, and damage never where the disk tells what
-- its files hold.
pub record OnlyReads {A : Type 0} (result : Result A Refusal) (old new : DiskState) : Type 0 where
  pub same : Unchanged old.files new.files
  pub time : Passes Unchanged old new
  pub damage : TellsContents old → (container offset at : ℕ) → result ≡ Err (refusals.Damaged container offset at) → ⊥
  pub cause : IsErrOf result refusals.DiskFault → Rises old.faults new.faults
  pub steady : IsSteady old → (IsErrOf result refusals.DiskFault → ⊥) × (new.faults ≡ old.faults)

-- A call's area is the one at a place among all, and there it comes to a live record with this head.
pub record Reaches (s : State) (areas : List Area) (client number place : ℕ) (head : Head) (record_in : Area → Option LogEntry) : Type 0 where
  pub within : place < length areas
  pub area : area_of s client number ≡ Some (area_at place areas)
  pub entry : LogEntry
  pub live : Contains (live s (area_at place areas).stream) entry
  pub reached : record_in (area_at place areas) ≡ Some entry
  pub head_is : head_of entry ≡ head

-- Damage is told of the block of the record at an LSN, by its container and offset, and at a byte that reading gives by bytes that were read.
abbrev pub TellsOf : State → ℕ → Refusal → Type 0
TellsOf s lsn (refusals.Damaged container offset at) = (container ≡ container_of lsn) × (offset ≡ offset_of lsn)
    × TellsByte s.shape (length s.streams) lsn (reads.Damaged at)
TellsOf s lsn _ = Unit {0}

-- The record to which a call of a client's area comes lies at this LSN.
pub record ComesTo (s : State) (client number : ℕ) (record_in : Area → Option LogEntry) (lsn : ℕ) : Type 0 where
  pub area : Area
  pub there : area_of s client number ≡ Some area
  pub entry : LogEntry
  pub reached : record_in area ≡ Some entry
  pub lsn_is : entry.lsn ≡ lsn

-- Damage is told of the block of the record to which the call comes.
abbrev pub TellsWhere : State → ℕ → ℕ → (Area → Option LogEntry) → Refusal → Type 0
TellsWhere s client number record_in (refusals.Damaged container offset at) = (lsn : ℕ) × ComesTo s client number record_in lsn
    × TellsOf s lsn (refusals.Damaged container offset at)
TellsWhere s client number record_in _ = Unit {0}
