use Rattle.clfs_manager.proofs.Words.{[], All-head, State, flush, Log}
use Rattle.clfs_manager.proofs.Changing.{Survive}
use Rattle.clfs_manager.proofs.CopiedLog.{valid_holds}
use Rattle.clfs_manager.proofs.Crashes.{crash_stored}
use Rattle.clfs_manager.proofs.Intact.{writes_stored}
use Rattle.clfs_manager.proofs.Sealed.{flushed_intact, room_flushed, on_err_by, on_ok_by}
use Rattle.clfs_manager.proofs.KeptFiles.{files_flushed}
use Rattle.clfs_manager.proofs.log.Log.write_all.Goals as goal

pub returns-clause-change : goal.returns-clause-change
returns-clause-change g c =
    let old : Log = c.args.self.now in
    let new : Log = c.write_out.new.self in
    let s : State = old.state.value in
    let before = g.D.Disk.state c.args.disk.now in
    let after = g.D.Disk.state c.write_out.new.disk in
    let sound = c.requires.intact.sound in
    let whole = c.seals_and_flushes_keep_a_log.ensures.flush s sound.valid sound.storable in
    let out = c.write_out.ensures.change in
    record {
      state = out.state;
      left = flushed_intact c.write_out.result before after old new c.requires.intact whole out.state out.holds c.write_out.ensures.same out.stored out.calls.settled out.calls.time.nature;
      broken = on_err_by c.write_out.result (λ is. is.broken) out.broken;
      writes = writes_stored c.write_out.result before after s new.state.value old new c.requires.intact.opened out.stored out.calls.time out.calls.cause out.calls.steady;
      moments = λ asked t all last. crash_stored c.logs_are_copies_and_blocks.ensures.stands c.logs_are_copies_and_blocks.ensures.by_file before after s (flush s) old
          c.requires.intact.opened out.meanwhile (valid_holds s sound.valid) (valid_holds (flush s) whole.valid) asked t (All-head (Survive asked t) s [] all) last;
    }

pub returns-clause-room : goal.returns-clause-room
returns-clause-room g c = on_ok_by c.write_out.result (room_flushed c.args.self.now c.write_out.new.self) c.write_out.ensures.same

pub returns-clause-files : goal.returns-clause-files
returns-clause-files g c = on_ok_by c.write_out.result
    (λ same. files_flushed (g.D.Disk.state c.args.disk.now) (g.D.Disk.state c.write_out.new.disk) _ _ same.physical c.write_out.ensures.lengths) c.write_out.ensures.same
