-- What a change of a log's size leaves in memory and on the disk.
use Rattle.std.specs.Prelude.{◌≡◌, Result, OnOk, IsErrOf}
use Rattle.clfs_disk.specs.State.{DiskState}
use Rattle.clfs_model.specs.declared.state.State.{State}
use Rattle.clfs_model.specs.Flush.{cut}
use Rattle.clfs_model.specs.Run.{Request}
use Rattle.clfs_model.specs.Survivors.{Survives}
use Rattle.clfs_physical.specs.declared.refusal.PhysicalRefusal.{PhysicalRefusal}
use Rattle.clfs_physical.specs.declared.refusal.PhysicalRefusal.TheVariants.{DiskFault, NoMemory}
use Rattle.clfs_manager.specs.Copying.{CountsFiles}
use Rattle.clfs_manager.specs.Crashes.{CrashLeavesSurvivor}
use Rattle.clfs_manager.specs.Flushing.{IsBroken}
use Rattle.clfs_manager.specs.Written.{IsIntact, WritesDisk}
use Rattle.clfs_manager.specs.declared.log.Log.{Log}

-- Of a log all but the newest base copy and the state is as it was.
pub record ChangesSize (old new : Log) : Type 0 where
  pub tables : new.tables ≡ old.tables
  pub areas : new.areas ≡ old.areas
  pub archive : new.archive ≡ old.archive
  pub policies : new.policies ≡ old.policies
  pub queue : new.queue ≡ old.queue
  pub buffers : new.buffers ≡ old.buffers
  pub broken : new.broken ≡ old.broken

-- A log has this state with another size. For want of memory it stays as it is, though files may have been made that no copy counts; a fault breaks it.
-- A crash meanwhile leaves the old size or the new one, and where memory was wanting the old one.
pub record ResizesLog {A : Type 0} (result : Result A PhysicalRefusal) (further : State) (old new : DiskState) (before after : Log) : Type 0 where
  pub state : OnOk result (after.state.value ≡ further)
  pub intact : OnOk result (IsIntact new after)
  pub same : OnOk result (ChangesSize before after)
  pub broken : IsErrOf result DiskFault → IsBroken before after
  pub no_memory : IsErrOf result NoMemory → after ≡ before
  pub kept : IsErrOf result NoMemory → IsIntact new after
  pub writes : WritesDisk (IsErrOf result DiskFault) old new
  pub moments : (asked : Request) (s : State) → Survives asked s (cut before.state.value) → Survives asked s (cut further) → CrashLeavesSurvivor asked s old new
  pub old_size : IsErrOf result NoMemory → (asked : Request) (s : State) → Survives asked s (cut before.state.value) → CrashLeavesSurvivor asked s old new
  pub files : (IsErrOf result DiskFault → ⊥) → CountsFiles old new before after
