use Rattle.clfs_manager.proofs.Words.{refl, sym, subst, [], ◌∷◌, IsErr, State, flush_if, seal_if, ChangesLog, IsIntact}
use Rattle.clfs_manager.proofs.Changing.{changes_failed, changes_then}
use Rattle.clfs_manager.proofs.KeptFiles.{files_then}
use Rattle.clfs_manager.proofs.Sealed.{on_ok_by}
use Rattle.clfs_manager.proofs.log.Log.finish.Goals as goal

pub returns-in_err-seal_if-clause-change : goal.returns-in_err-seal_if-clause-change
returns-in_err-seal_if-clause-change g c =
    let s : State = c.args.self.now.state.value in
    changes_failed c.seal_if.result c.from_residual.result (s ∷ []) [] (seal_if c.args.seal s) _ _ _ _ c.seal_if.new.self
    (subst (λ r. IsErr r) (sym c.in_err-seal_if.was) refl) c.from_residual.ensures.0 c.in_err-seal_if.ensures.change.broken c.seal_if.ensures.change

pub returns-clause-change : goal.returns-clause-change
returns-clause-change g c =
    let s : State = c.args.self.now.state.value in
    changes_then _ c.flush_if.result (s ∷ []) [] (seal_if c.args.seal s) (flush_if c.args.flush (seal_if c.args.seal s)) (g.D.Disk.state c.args.disk.now)
    (g.D.Disk.state c.seal_if.new.disk) (g.D.Disk.state c.flush_if.new.disk) c.seal_if.new.self c.flush_if.new.self c.in_ok-seal_if.ensures.change
    (subst (λ (v : State). ChangesLog IsIntact c.flush_if.result (v ∷ []) (flush_if c.args.flush v) (g.D.Disk.state c.seal_if.new.disk) (g.D.Disk.state c.flush_if.new.disk)
    c.flush_if.new.self) c.in_ok-seal_if.ensures.change.state c.flush_if.ensures.change)

pub returns-clause-files : goal.returns-clause-files
returns-clause-files g c = on_ok_by c.flush_if.result (files_then _ _ _ _ _ _ c.in_ok-seal_if.ensures.files) c.flush_if.ensures.files
