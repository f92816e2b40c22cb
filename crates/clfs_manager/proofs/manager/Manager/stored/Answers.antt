use Rattle.clfs_manager.proofs.Words.{◌∙◌, sym, asks, reopens, bad_line}
use Rattle.clfs_manager.proofs.Crashes.{crash_managed_reads}
use Rattle.clfs_manager.proofs.FilesHold.{files_hold}
use Rattle.clfs_manager.proofs.ReadKeeps.{still}
use Rattle.clfs_manager.proofs.manager.Manager.stored.Goals as goal

pub returns : goal.returns
returns g c =
    let disk = g.D.Disk.state c.self.inside.disk in
    let log = c.self.inside.log in
    let managed = c.self.invariant in
    rw (← c.self.view_is) (record {
      valid = managed.valid;
      storable = managed.storable;
      files = λ whole tells.
          let opened = managed.whole (sym managed.broken ∙ whole) in
          files_hold c.logs_are_copies_and_blocks.ensures.stands c.logs_are_copies_and_blocks.ensures.by_file c.opening_anew_comes_to_the_cut.ensures.step
          c.the_holds_container_never_falls.ensures.reopening log.state.value log.physical opened.blocks disk.files managed.valid managed.storable whole opened.stored (opened.files tells);
      settled = λ whole. (managed.whole (sym managed.broken ∙ whole)).settled;
      survives = λ client call after time.
          crash_managed_reads c.logs_are_copies_and_blocks.ensures.stands c.logs_are_copies_and_blocks.ensures.by_file disk (g.D.Disk.state after) log managed (asks client call)
          (λ _. c.states_between_survive.ensures.before log.state.value client call managed.valid) time;
      survives_opening = λ client after time.
          crash_managed_reads c.logs_are_copies_and_blocks.ensures.stands c.logs_are_copies_and_blocks.ensures.by_file disk (g.D.Disk.state after) log managed (reopens client)
          (λ whole. c.states_between_survive.ensures.reopens log.state.value client managed.valid whole) time;
      survives_reading = λ at after time.
          crash_managed_reads c.logs_are_copies_and_blocks.ensures.stands c.logs_are_copies_and_blocks.ensures.by_file disk (g.D.Disk.state after) log managed (bad_line at)
          (λ _. c.states_between_survive.ensures.bad_line log.state.value at managed.valid) time;
      survives_nothing = λ at.
          crash_managed_reads c.logs_are_copies_and_blocks.ensures.stands c.logs_are_copies_and_blocks.ensures.by_file disk disk log managed (bad_line at)
          (λ _. c.states_between_survive.ensures.bad_line log.state.value at managed.valid) (still disk);
    })
