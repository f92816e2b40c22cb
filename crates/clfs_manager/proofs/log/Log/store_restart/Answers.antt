use Rattle.clfs_manager.proofs.Changing.{changes_broken, Survive}
use Rattle.clfs_manager.proofs.CrashedRestart.{crash_restart}
use Rattle.clfs_manager.proofs.Words.{◌≡◌, false, true, refl, ap, subst, ◌∙◌, [], ◌∷◌, All-head, IsOk, State, rebased, flush, Log, IsYetToForget}
use Rattle.clfs_manager.proofs.Intact.{writes_failed, writes_fine}
use Rattle.clfs_manager.proofs.Restarted.{finished, moved_to_forget, stored_by_group, GroupLaws, IsFinished}
use Rattle.clfs_manager.proofs.KeptFiles.{files_flushed}
use Rattle.clfs_manager.proofs.log.Log.store_restart.Given.{Over}
use Rattle.clfs_manager.proofs.log.Log.store_restart.Goals as goal

pub returns-in_err-write_group-clause-change : goal.returns-in_err-write_group-clause-change
returns-in_err-write_group-clause-change g c =
    let old = c.args.self.now in
    let s : State = old.state.value in
    let image = old.physical.image in
    let is_image = c.image-newest.ensures.image in
    let laws = c.groups_come_behind_the_last_block.ensures in
    let files = c.logs_are_copies_and_blocks.ensures in
    let group_laws : GroupLaws image s.buffers = record {
      state = λ before after more entries others have still. laws.state image before after more entries others s.buffers is_image have still;
      moved = λ before after more entries others entry have still some few up.
          laws.moved image before after more entries others entry s.buffers is_image have still some few up;
    } in
    let crashes = crash_restart files.stands files.by_file (IsOk c.write_group.result) (g.D.Disk.state c.args.disk.now) (g.D.Disk.state c.write_group.new.disk) old c.args.stream c.args.base
    (record {
      laid = c.requires.laid;
      opened = c.requires.opened;
      flushed = c.seals_and_flushes_keep_a_log.ensures.flush_laid s c.requires.laid.laid;
      some = is_image.some_listed;
      laws = group_laws;
      last = c.requires.may.last;
      number = c.requires.may.there;
      up = c.requires.may.up;
      valid = c.requires.may.valid;
      sends = c.write_group.ensures.group;
    }) in
    changes_broken c.from_residual.result (s ∷ []) (rebased c.args.stream c.args.base (flush s)) (g.D.Disk.state c.args.disk.now) (g.D.Disk.state c.write_group.new.disk)
    c.write_group.new.self c.from_residual.ensures.0 c.in_err-write_group.ensures.broken.broken
    (writes_failed _ (g.D.Disk.state c.args.disk.now) (g.D.Disk.state c.write_group.new.disk) old.state.value old c.from_residual.ensures.0 c.requires.opened
    c.write_group.ensures.calls.time c.in_err-write_group.ensures.calls.cause
    (λ calm made. let fine = (c.write_group.ensures.calls.steady calm made).0 in let wrong = subst (λ r. IsOk r) c.in_err-write_group.was fine in cc wrong))
    (λ asked t all last. crashes asked t (All-head (Survive asked t) s [] all) last)

module _ (g : Over) (c : goal.After-self-1 g) where
  abbrev old : Log
  old = c.args.self.now

  abbrev written : Log
  written = c.write_group.new.self

  is_finished : IsFinished (g.D.Disk.state c.args.disk.now) (g.D.Disk.state c.write_group.new.disk) c.args.self.now c.write_group.new.self c.args.stream c.args.base
  is_finished =
      let s : State = old.state.value in
      let image = old.physical.image in
      let is_image = c.image-newest.ensures.image in
      let laws = c.groups_come_behind_the_last_block.ensures in
      let group_laws : GroupLaws image s.buffers = record {
        state = λ before after more entries others have still. laws.state image before after more entries others s.buffers is_image have still;
        moved = λ before after more entries others entry have still some few up.
            laws.moved image before after more entries others entry s.buffers is_image have still some few up;
      } in
      record {
        laid = c.requires.laid;
        opened = c.requires.opened;
        flushed = c.seals_and_flushes_keep_a_log.ensures.flush_laid s c.requires.laid.laid;
        some = is_image.some_listed;
        laws = group_laws;
        last = c.requires.may.last;
        number = c.requires.may.there;
        up = c.requires.may.up;
        state = c.in_ok-write_group.ensures.state;
        holds = c.in_ok-write_group.ensures.holds;
        same = c.in_ok-write_group.ensures.same;
        on_disk = c.in_ok-write_group.ensures.written;
      }

  moved : IsYetToForget (g.D.Disk.state c.write_group.new.disk) (record c.write_group.new.self { tables = c.move_base.new.tables; state = c.rebased-self.result })
  moved =
      moved_to_forget (g.D.Disk.state c.args.disk.now) (g.D.Disk.state c.write_group.new.disk) old written
      (record written { tables = c.move_base.new.tables; state = c.rebased-self.result }) c.args.stream c.args.base is_finished c.requires.may.valid c.requires.may.storable
      c.move_base.ensures.streams c.move_base.ensures.heads c.move_base.ensures.low refl c.rebased-self.ensures c.in_ok-write_group.ensures.calls.settled
      c.write_group.ensures.calls.time.nature

pub returns-clause-change : goal.returns-clause-change
returns-clause-change g c =
    let old = c.args.self.now in
    let s : State = old.state.value in
    let image = old.physical.image in
    let is_image = c.image-newest.ensures.image in
    let laws = c.groups_come_behind_the_last_block.ensures in
    let files = c.logs_are_copies_and_blocks.ensures in
    let group_laws : GroupLaws image s.buffers = record {
      state = λ before after more entries others have still. laws.state image before after more entries others s.buffers is_image have still;
      moved = λ before after more entries others entry have still some few up.
          laws.moved image before after more entries others entry s.buffers is_image have still some few up;
    } in
    let crashes = crash_restart files.stands files.by_file (IsOk c.write_group.result) (g.D.Disk.state c.args.disk.now) (g.D.Disk.state c.write_group.new.disk) old c.args.stream c.args.base
    (record {
      laid = c.requires.laid;
      opened = c.requires.opened;
      flushed = c.seals_and_flushes_keep_a_log.ensures.flush_laid s c.requires.laid.laid;
      some = is_image.some_listed;
      laws = group_laws;
      last = c.requires.may.last;
      number = c.requires.may.there;
      up = c.requires.may.up;
      valid = c.requires.may.valid;
      sends = c.write_group.ensures.group;
    }) in
    record {
      state = c.rebased-self.ensures ∙ ap (λ (u : State). rebased c.args.stream c.args.base u) c.in_ok-write_group.ensures.state;
      left = moved g c;
      broken = tt;
      writes = writes_fine (false ≡ true) (g.D.Disk.state c.args.disk.now) (g.D.Disk.state c.write_group.new.disk) old.state.value
          (finished c.args.stream c.args.base old.state.value) old c.write_group.new.self (λ f. cc f) c.requires.opened
          (stored_by_group (g.D.Disk.state c.args.disk.now) (g.D.Disk.state c.write_group.new.disk) old c.write_group.new.self c.args.stream c.args.base (is_finished g c))
          c.write_group.ensures.calls.time (λ calm made. (c.write_group.ensures.calls.steady calm made).1);
      moments = λ asked t all last. crashes asked t (All-head (Survive asked t) s [] all) last;
    }

pub returns-clause-files : goal.returns-clause-files
returns-clause-files g c =
    files_flushed (g.D.Disk.state c.args.disk.now) (g.D.Disk.state c.write_group.new.disk) _ _ c.in_ok-write_group.ensures.same.physical c.write_group.ensures.lengths
