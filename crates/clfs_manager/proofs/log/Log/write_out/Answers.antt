use Rattle.clfs_manager.proofs.Words.{IsOk, State}
use Rattle.clfs_manager.proofs.Crashes.{flushed_meanwhile}
use Rattle.clfs_manager.proofs.FlushedLog.{laid_log, no_bases, stored_flushed}
use Rattle.clfs_manager.proofs.Sealed.{on_ok_by}
use Rattle.clfs_manager.proofs.log.Log.write_out.Goals as goal

pub write_group-requires : goal.write_group-requires
write_group-requires g c =
    let sound = c.requires.sound in
    record { laid = laid_log c.args.self.now sound (c.seals_and_flushes_keep_a_log.ensures.laid c.args.self.now.state.value sound.valid sound.storable) }

pub returns-clause-change : goal.returns-clause-change
returns-clause-change g c =
    let old = c.args.self.now in
    let s : State = old.state.value in
    let sound = c.requires.sound in
    let is_image = c.image-newest.ensures.image in
    record {
      state = c.write_group.ensures.state;
      holds = c.write_group.ensures.holds;
      stored = stored_flushed c.write_group.result (g.D.Disk.state c.args.disk.now) (g.D.Disk.state c.write_group.new.disk) s c.write_group.new.self.state.value
          old.physical c.write_group.new.self.physical (c.seals_and_flushes_keep_a_log.ensures.laid s sound.valid sound.storable) sound.holds.listed
          is_image.some_listed
          (λ blocks all more entries have. c.groups_come_behind_the_last_block.ensures.state old.physical.image blocks all more entries _ s.buffers is_image have
          (no_bases s sound.valid sound.storable))
          c.write_group.ensures.state (on_ok_by c.write_group.result (λ keeps. keeps.physical) c.write_group.ensures.same) c.write_group.ensures.written;
      meanwhile = flushed_meanwhile (IsOk c.write_group.result) (g.D.Disk.state c.args.disk.now) (g.D.Disk.state c.write_group.new.disk) s old.physical
          (c.seals_and_flushes_keep_a_log.ensures.laid s sound.valid sound.storable) sound.holds.listed is_image.some_listed
          (λ blocks all more entries have. c.groups_come_behind_the_last_block.ensures.state old.physical.image blocks all more entries _ s.buffers is_image have
          (no_bases s sound.valid sound.storable))
          c.write_group.ensures.group;
      broken = c.write_group.ensures.broken;
      calls = c.write_group.ensures.calls;
    }
