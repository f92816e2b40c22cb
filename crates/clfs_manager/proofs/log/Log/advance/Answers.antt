use Rattle.clfs_manager.proofs.Words.{◌≤◌, refl, sym, ap, subst, ◌∙◌, arith, [], ◌∷◌, IsErr, container_of, State, flush, hold, base_of, with_base, ChangesLog}
use Rattle.clfs_manager.proofs.Words.{IsYetToForget}
use Rattle.clfs_manager.proofs.Changing.{changes_failed, changes_forgot, changes_refused, changes_then}
use Rattle.clfs_manager.proofs.ClosedPlace.{flush_is}
use Rattle.clfs_manager.proofs.FlushedLog.{hold_done}
use Rattle.clfs_manager.proofs.MovedBase.{base_is_up}
use Rattle.clfs_manager.proofs.KeptFiles.{files_before, files_then}
use Rattle.clfs_manager.proofs.log.Log.advance.Goals as goal

pub store_base-requires-clause-up : goal.store_base-requires-clause-up
store_base-requires-clause-up g c =
    let s : State = c.args.self.now.state.value in
    subst (λ (u : State). base_of u c.args.stream ≤ c.args.base) (sym (c.in_ok-write_all.ensures.change.state ∙ flush_is s))
    (base_is_up s c.args.stream c.args.base c.requires.base)

pub store_base-requires-clause-held : goal.store_base-requires-clause-held
store_base-requires-clause-held g c =
    let s : State = c.args.self.now.state.value in
    subst (λ (u : State). container_of (hold u) ≤ container_of (hold (with_base c.args.stream c.args.base u))) (sym c.in_ok-write_all.ensures.change.state)
    (omega (arith, ap (λ (u : State). container_of (hold u)) (flush_is s), hold_done s c.requires.intact.sound.valid, c.requires.held))

pub returns-in_err-write_all-clause-change : goal.returns-in_err-write_all-clause-change
returns-in_err-write_all-clause-change g c =
    let s : State = c.args.self.now.state.value in
    changes_failed c.write_all.result c.from_residual.result (s ∷ []) [] (flush s) _ _ _ _ c.write_all.new.self
    (subst (λ r. IsErr r) (sym c.in_err-write_all.was) refl) c.from_residual.ensures.0 c.in_err-write_all.ensures.change.broken c.write_all.ensures.change

pub returns-in-Err-clause-change : goal.returns-in-Err-clause-change
returns-in-Err-clause-change g c =
    let s : State = c.args.self.now.state.value in
    let t : State = with_base c.args.stream c.args.base (flush s) in
    let moved : ChangesLog IsYetToForget c.store_base.result (flush s ∷ []) t (g.D.Disk.state c.write_all.new.disk) (g.D.Disk.state c.store_base.new.disk)
    c.store_base.new.self = subst (λ (v : State). ChangesLog IsYetToForget c.store_base.result (v ∷ []) (with_base c.args.stream c.args.base v)
    (g.D.Disk.state c.write_all.new.disk) (g.D.Disk.state c.store_base.new.disk) c.store_base.new.self)
    c.in_ok-write_all.ensures.change.state c.store_base.ensures.change in
    changes_then _ _ (s ∷ []) [] (flush s) t _ _ _ c.write_all.new.self _ c.in_ok-write_all.ensures.change
    (changes_refused c.store_base.result _ (flush s ∷ []) t _ _ c.store_base.new.self _ (subst (λ r. IsErr r) (sym c.in-Err.is) refl) refl
    c.in-Err.ensures.change.broken moved)

pub returns-clause-change : goal.returns-clause-change
returns-clause-change g c =
    let s : State = c.args.self.now.state.value in
    let t : State = with_base c.args.stream c.args.base (flush s) in
    let moved : ChangesLog IsYetToForget c.store_base.result (flush s ∷ []) t (g.D.Disk.state c.write_all.new.disk) (g.D.Disk.state c.store_base.new.disk)
    c.store_base.new.self = subst (λ (v : State). ChangesLog IsYetToForget c.store_base.result (v ∷ []) (with_base c.args.stream c.args.base v)
    (g.D.Disk.state c.write_all.new.disk) (g.D.Disk.state c.store_base.new.disk) c.store_base.new.self)
    c.in_ok-write_all.ensures.change.state c.store_base.ensures.change in
    changes_then _ _ (s ∷ []) [] (flush s) t _ _ _ c.write_all.new.self c.forget_low.new.self c.in_ok-write_all.ensures.change
    (changes_forgot c.store_base.result _ tt (flush s ∷ []) t _ _ c.store_base.new.self c.forget_low.new.self c.in_default.is moved
    c.forget_low.ensures.sound c.forget_low.ensures.same c.forget_low.ensures.forgotten)

pub returns-clause-files : goal.returns-clause-files
returns-clause-files g c =
    files_before _ _ _ _ c.forget_low.new.self.physical c.forget_low.ensures.same.physical
    (files_then _ _ _ _ _ _ c.in_ok-write_all.ensures.files c.in_default.ensures.files)
