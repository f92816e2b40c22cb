-- What a call that changes a log leaves in memory and on the disk.
use Rattle.std.specs.Prelude.{◌≡◌, true, All, List, Result, OnOk, OnErr, IsErr}
use Rattle.clfs_disk.specs.State.{DiskState}
use Rattle.clfs_model.specs.declared.state.State.{State}
use Rattle.clfs_model.specs.Flush.{cut}
use Rattle.clfs_model.specs.Run.{Request}
use Rattle.clfs_model.specs.Survivors.{Survives}
use Rattle.clfs_manager.specs.Crashes.{CrashLeavesSurvivor}
use Rattle.clfs_manager.specs.Written.{WritesDisk}
use Rattle.clfs_manager.specs.declared.log.Log.{Log}

-- A log goes through stages to a last state. Where that is answered the log has this state, and is left on its disk as it is to be; else the disk failed,
-- and the log is broken. Whatever the answer, a crash meanwhile leaves what survives of a request, if the flushed parts of all these states do.
pub record ChangesLog {A E : Type 0} (IsLeft : DiskState → Log → Type 0) (result : Result A E) (stages : List State) (last : State) (old new : DiskState) (log : Log) : Type 0 where
  pub state : OnOk result (log.state.value ≡ last)
  pub left : OnOk result (IsLeft new log)
  pub broken : OnErr result (log.broken ≡ true)
  pub writes : WritesDisk (IsErr result) old new
  pub moments : (asked : Request) (s : State) → All (λ (stage : State). Survives asked s (cut stage)) stages → Survives asked s (cut last)
      → CrashLeavesSurvivor asked s old new

-- The same of a log whose stages are all that a crash may leave: the last state is one of them, or has the flushed part of one.
pub record GoesThrough {A E : Type 0} (IsLeft : DiskState → Log → Type 0) (result : Result A E) (stages : List State) (last : State) (old new : DiskState) (log : Log) : Type 0 where
  pub state : OnOk result (log.state.value ≡ last)
  pub left : OnOk result (IsLeft new log)
  pub broken : OnErr result (log.broken ≡ true)
  pub writes : WritesDisk (IsErr result) old new
  pub moments : (asked : Request) (s : State) → All (λ (stage : State). Survives asked s (cut stage)) stages → CrashLeavesSurvivor asked s old new
