use Rattle.clfs_manager.proofs.Words.{refl, ap, ◌∙◌, sym, subst, IsErr, IsOk, State, Newest, StoredAfter, with_archive}
use Rattle.clfs_manager.proofs.Called.{calls_fine, stores_failed}
use Rattle.clfs_manager.proofs.StillStorable.{storable_archived}
use Rattle.clfs_manager.proofs.KeptFiles.{files_before}
use Rattle.clfs_manager.proofs.log.Log.change_archive.Goals as goal

pub forget_low-requires : goal.forget_low-requires
forget_low-requires g c =
    let s : State = c.args.self.now.state.value in
    let sound = c.requires.sound in
    let same = c.in_ok-store_archive.ensures.same in
    let stored = c.in_ok-store_archive.ensures.change in
    record {
      sound = record {
        valid = rw stored.state c.requires.valid;
        storable = rw stored.state (storable_archived s c.args.tail sound.storable);
        unbroken = same.broken ∙ sound.unbroken;
        whole = ap (λ (u : State). u.broken) stored.state ∙ sound.whole;
        holds = stored.holds;
      };
    }

pub returns-clause-same : goal.returns-clause-same
returns-clause-same g c =
    let stored = c.in_ok-store_archive.ensures.same in
    let forgot = c.forget_low.ensures.same in
    record {
      areas = forgot.areas ∙ stored.areas;
      queue = forgot.queue ∙ stored.queue;
      buffers = forgot.buffers ∙ stored.buffers;
      broken = forgot.broken ∙ stored.broken;
    }

pub returns-in_err-store_archive-clause-change : goal.returns-in_err-store_archive-clause-change
returns-in_err-store_archive-clause-change g c =
    stores_failed c.store_archive.result c.from_residual.result (with_archive c.args.tail c.args.self.now.state.value) (g.D.Disk.state c.args.disk.now)
    (g.D.Disk.state c.store_archive.new.disk) c.args.self.now c.store_archive.new.self
    (subst (λ r. IsErr r) (sym c.in_err-store_archive.was) refl) c.from_residual.ensures.0 c.store_archive.ensures.change

pub returns-clause-change : goal.returns-clause-change
returns-clause-change g c =
    let s : State = c.args.self.now.state.value in
    let before = g.D.Disk.state c.args.disk.now in
    let after = g.D.Disk.state c.store_archive.new.disk in
    let forgot = c.forget_low.ensures.same in
    record {
      state = ap (λ told. told.value) forgot.state ∙ c.in_ok-store_archive.ensures.change.state;
      holds = c.forget_low.ensures.sound.holds;
      stored = subst (λ (t : State). StoredAfter before after s t c.args.self.now.physical c.forget_low.new.self.physical) (sym (ap (λ told. told.value) forgot.state))
          (subst (λ (n : Newest). StoredAfter before after s c.store_archive.new.self.state.value c.args.self.now.physical n) (sym forgot.physical) c.in_ok-store_archive.ensures.change.stored);
      meanwhile = c.store_archive.ensures.change.meanwhile;
      broken = tt;
      calls = calls_fine c.store_archive.result tt c.args.self.now.physical.image before after (subst (λ r. IsOk r) (sym c.in_ok-store_archive.was) refl)
          c.store_archive.ensures.change.calls;
    }

pub returns-clause-files : goal.returns-clause-files
returns-clause-files g c = files_before _ _ _ _ c.forget_low.new.self.physical c.forget_low.ensures.same.physical c.in_ok-store_archive.ensures.files
