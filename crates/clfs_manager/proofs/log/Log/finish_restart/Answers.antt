use Rattle.clfs_manager.proofs.Words.{refl, sym, subst, [], ◌∷◌, IsErr, State, rebased, flush}
use Rattle.clfs_manager.proofs.Changing.{changes_forgot, changes_refused}
use Rattle.clfs_manager.proofs.KeptFiles.{files_before}
use Rattle.clfs_manager.proofs.log.Log.finish_restart.Goals as goal

pub returns-in_err-store_restart-clause-change : goal.returns-in_err-store_restart-clause-change
returns-in_err-store_restart-clause-change g c =
    let s : State = c.args.self.now.state.value in
    changes_refused c.store_restart.result c.from_residual.result (s ∷ []) (rebased c.args.stream c.args.base (flush s)) _ _ c.store_restart.new.self
    c.store_restart.new.self (subst (λ r. IsErr r) (sym c.in_err-store_restart.was) refl) c.from_residual.ensures.0
    c.in_err-store_restart.ensures.change.broken c.store_restart.ensures.change

pub returns-clause-change : goal.returns-clause-change
returns-clause-change g c =
    let s : State = c.args.self.now.state.value in
    changes_forgot c.store_restart.result _ tt (s ∷ []) (rebased c.args.stream c.args.base (flush s)) _ _ c.store_restart.new.self c.forget_low.new.self
    c.in_ok-store_restart.was c.store_restart.ensures.change c.forget_low.ensures.sound c.forget_low.ensures.same c.forget_low.ensures.forgotten

pub returns-clause-files : goal.returns-clause-files
returns-clause-files g c = files_before _ _ _ _ c.forget_low.new.self.physical c.forget_low.ensures.same.physical c.in_ok-store_restart.ensures.files
