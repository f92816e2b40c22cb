-- What a crash leaves of a restart area whose group goes to the disk: the log of before, or the restart area with its base.
use Rattle.clfs_manager.proofs.Words.{◌≡◌, ℕ, ◌≤◌, false, subst, length, arith, ◌==◌, DiskState, IsLaid, null_lsn, State, rebased, cut, flush, Request}
use Rattle.clfs_manager.proofs.Words.{base_of, Survives, IsValid, Newest, Blocks, IsNumber, CrashLeavesSurvivor, StoredMeanwhile, HasGroup, IsLaidLog}
use Rattle.clfs_manager.proofs.Words.{SendsGroup, IsStored, IsOpen, EndsInRestart, rebased_streams, Log, StandByBlocks, HaveByFile}
use Rattle.clfs_manager.proofs.ClosedPlace.{flush_is}
use Rattle.clfs_manager.proofs.CopiedLog.{laid_holds, valid_holds}
use Rattle.clfs_manager.proofs.Crashes.{crash_stored, meanwhile_of}
use Rattle.clfs_manager.proofs.FlushedLog.{done, stored_with}
use Rattle.clfs_manager.proofs.Restarted.{finished, hold_finished, rebased_is, state_of_group, GroupLaws}

-- A log that ends in a restart area, whose group goes to the disk.
pub record EndsSent (written : Type 0) (old new : DiskState) (before : Log) (stream base : ℕ) : Type 0 where
  pub laid : IsLaidLog before
  pub opened : IsOpen old before.state.value before
  pub flushed : IsLaid (flush before.state.value)
  pub some : 1 ≤ length before.physical.image.files
  pub laws : GroupLaws before.physical.image before.state.value.buffers
  pub last : EndsInRestart before.state.value stream base
  pub number : IsNumber before.state.value.streams stream
  pub up : (base == null_lsn) ≡ false → base_of before.state.value stream ≤ base
  pub valid : IsValid (rebased stream base (flush before.state.value))
  pub sends : SendsGroup written old new before.state.value before.physical

finished_meanwhile : (written : Type 0) (old new : DiskState) (before : Log) (stream base : ℕ) → EndsSent written old new before stream base
    → StoredMeanwhile old new before.state.value (finished stream base before.state.value) before.physical
finished_meanwhile written old new before stream base is = λ blocks stored settled whole stores.
    let s : State = before.state.value in
    let newest : Newest = before.physical in
    let laid : IsLaid s = is.laid.laid in
    let holds = is.laid.holds in
    let laid_done : IsLaid (done s) = subst IsLaid (flush_is s) is.flushed in
    let to = is.sends blocks stored in
    let all : Blocks = to.0 in
    let group : HasGroup s newest.image blocks all stored.entries = to.1.0 in
    let held = hold_finished s stream base laid laid_done is.number is.up in
    let behind : IsStored (finished stream base s) newest all =
    stored_with s newest blocks all (rebased_streams stream base s.streams) laid holds.listed is.some stored group
    (state_of_group s newest blocks all stream base stored group is.laws is.last is.number holds.rows is.up) (omega (arith, stored.needed, held)) in
    meanwhile_of old new s (finished stream base s) newest newest blocks all whole stored behind (to.1.1.1 settled whole stores)

pub crash_restart : StandByBlocks → HaveByFile → (written : Type 0) (old new : DiskState) (before : Log) (stream base : ℕ)
    → EndsSent written old new before stream base
    → (asked : Request) (s : State) → Survives asked s (cut before.state.value) → Survives asked s (cut (rebased stream base (flush before.state.value)))
    → CrashLeavesSurvivor asked s old new
crash_restart stands by_file written old new before stream base is asked s survives_before survives_after =
    let p : State = before.state.value in
    let fields = rebased_is stream base p in
    crash_stored stands by_file old new p (finished stream base p) before is.opened (finished_meanwhile written old new before stream base is)
    (laid_holds p is.laid.laid) (valid_holds (finished stream base p) (subst IsValid fields is.valid)) asked s survives_before
    (subst (λ (t : State). Survives asked s (cut t)) fields survives_after)
