use Rattle.clfs_manager.proofs.Settled.{honest_before}
use Rattle.clfs_manager.proofs.Words.{◌∙◌, refl, sym, state_of, told_parts}
use Rattle.std.proofs.lemmas.Result.{err_from_is_err_and}
use Rattle.clfs_manager.proofs.OpenedOnDisk.{AreListed, found_files, opened_open}
use Rattle.clfs_manager.proofs.OpenedAnew.{memory_told}
use Rattle.clfs_manager.proofs.reopening.read_log.Goals as goal

pub returns-clause-managed : goal.returns-clause-managed
returns-clause-managed g c =
    let parts = told_parts c.in_ok-opened.opened in
    let s = state_of parts c.args.write_buffers in
    let log = c.in_ok-log.ensures in
    let old = g.D.Disk.state c.args.disk.now in
    let opened = c.in_ok-opened.ensures.log.1 in
    let stands = c.logs_are_found_in_files.ensures.state parts c.args.write_buffers opened.log in
    let found = found_files old.nature.tells_contents old.files parts opened.found (c.logs_are_found_in_files.ensures.found parts opened.log) in
    let stored = c.logs_are_copies_and_blocks.ensures.found found.0 parts found.1.0 in
    let listed : AreListed parts = record {
      container = c.opened_copies_fit.ensures.container found.0 parts found.1.0;
      some = (c.opened_copies_fit.ensures.image found.0 parts found.1.0).some_listed;
      records = c.opened_records_lie_in_order.ensures.containers found.0 parts found.1.0;
      fits = c.copies_without_fault_fit.ensures.fits parts.image _ (c.opened_copies_fit.ensures.right found.0 parts found.1.0);
    } in
    record {
      valid = rw log.state (c.opened_states_are_valid.ensures.valid stands.0 s stands.1 c.requires.some c.requires.few);
      storable = rw log.state (c.opened_states_are_valid.ensures.storable stands.0 s stands.1);
      broken = rw log.state (sym log.whole);
      whole = λ _. opened_open (g.D.Disk.state c.load_heads.new.disk) c.in_ok-log.log parts c.args.write_buffers c.args.read_buffers log.state log.holds log.newest log.kept log.forgotten listed
          (c.opened_states_are_cut.ensures.cut stands.0 s stands.1) found.0 stored.0 stored.1
          (λ tells file. c.load_heads.ensures.same file ∙ found.1.1 (rw c.load_heads.ensures.time.nature at tells) file)
          (λ honest. c.in_ok-opened.ensures.settled (honest_before old (g.D.Disk.state c.load_heads.new.disk) c.load_heads.ensures.time.nature honest));
    }

pub returns-clause-loaded : goal.returns-clause-loaded
returns-clause-loaded g c = λ tells.
    rw c.in_ok-log.ensures.state (record { parts = told_parts c.in_ok-opened.opened; found = c.in_ok-opened.ensures.log.1.found tells; is = refl })

pub returns-clause-stable : goal.returns-clause-stable
returns-clause-stable g c =
    let files = c.logs_are_found_in_files.ensures.state (told_parts c.in_ok-opened.opened) c.args.write_buffers c.in_ok-opened.ensures.log.1.log in
    rw c.in_ok-log.ensures.state (c.opened_states_are_cut.ensures.cut files.0 _ files.1)

pub returns-clause-steady : goal.returns-clause-steady
returns-clause-steady g c = λ steady. (λ e. cc e, (c.in_ok-opened.ensures.steady steady).1)

pub returns-in_err-log-clause-place : goal.returns-in_err-log-clause-place
returns-in_err-log-clause-place g c =
    let p = err_from_is_err_and c.from_residual-in_err-log.result c.from_residual-in_err-log.ensures.1 in
    rw (p.1, p.2) memory_told
