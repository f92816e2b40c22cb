use Rattle.clfs_manager.proofs.Words.{refl, sym, subst, ◌∙◌, arith, [], ◌∷◌, IsErr, Ok, Failed, turned, DiskState, State, flush, ChangesLog, IsIntact}
use Rattle.clfs_manager.proofs.Words.{IsYetToForget, Log}
use Rattle.clfs_manager.proofs.Changing.{changes_failed, changes_forgot, changes_refused, changes_then}
use Rattle.clfs_manager.proofs.KeptFiles.{files_before, files_then}
use Rattle.clfs_manager.proofs.log.Log.begin_container.Goals as goal

pub returns-in_err-write_all-clause-change : goal.returns-in_err-write_all-clause-change
returns-in_err-write_all-clause-change g c =
    let s : State = c.args.self.now.state.value in
    changes_failed c.write_all.result c.from_residual.result (s ∷ []) [] (flush s) _ _ _ _ c.write_all.new.self
    (subst (λ r. IsErr r) (sym c.in_err-write_all.was) refl) c.from_residual.ensures.0 c.in_err-write_all.ensures.change.broken c.write_all.ensures.change

pub returns-in_err-turn-clause-change : goal.returns-in_err-turn-clause-change
returns-in_err-turn-clause-change g c =
    let s : State = c.args.self.now.state.value in
    let before : DiskState = g.D.Disk.state c.args.disk.now in
    let between : DiskState = g.D.Disk.state c.write_all.new.disk in
    let after : DiskState = g.D.Disk.state c.turn.new.disk in
    let log : Log = c.turn.new.self in
    let turns : ChangesLog IsYetToForget c.turn.result (flush s ∷ []) (turned (flush s)) between after log =
    subst (λ (v : State). ChangesLog IsYetToForget c.turn.result (v ∷ []) (turned v) between after log) c.in_ok-write_all.ensures.change.state c.turn.ensures.change in
    changes_then _ c.from_residual-in_err-turn.result (s ∷ []) [] (flush s) (turned (flush s)) before between after c.write_all.new.self log
    c.in_ok-write_all.ensures.change
    (changes_refused c.turn.result c.from_residual-in_err-turn.result (flush s ∷ []) (turned (flush s)) between after log log
    (subst (λ r. IsErr r) (sym c.in_err-turn.was) refl) c.from_residual-in_err-turn.ensures.0 c.in_err-turn.ensures.change.broken turns)

pub returns-clause-change : goal.returns-clause-change
returns-clause-change g c =
    let s : State = c.args.self.now.state.value in
    let before : DiskState = g.D.Disk.state c.args.disk.now in
    let between : DiskState = g.D.Disk.state c.write_all.new.disk in
    let after : DiskState = g.D.Disk.state c.turn.new.disk in
    let log : Log = c.turn.new.self in
    let turns : ChangesLog IsYetToForget c.turn.result (flush s ∷ []) (turned (flush s)) between after log =
    subst (λ (v : State). ChangesLog IsYetToForget c.turn.result (v ∷ []) (turned v) between after log) c.in_ok-write_all.ensures.change.state c.turn.ensures.change in
    let forgot : ChangesLog {A = Unit {0}} {E = Failed} IsIntact (Ok tt) (flush s ∷ []) (turned (flush s)) between after c.forget_low.new.self =
    changes_forgot c.turn.result _ tt (flush s ∷ []) (turned (flush s)) between after log c.forget_low.new.self c.in_ok-turn.was turns
    c.forget_low.ensures.sound c.forget_low.ensures.same c.forget_low.ensures.forgotten in
    changes_then _ _ (s ∷ []) [] (flush s) (turned (flush s)) before between after c.write_all.new.self c.forget_low.new.self c.in_ok-write_all.ensures.change forgot

pub returns-clause-room : goal.returns-clause-room
returns-clause-room g c =
    let written = c.in_ok-write_all.ensures.room in
    let turned = c.in_ok-turn.ensures.room in
    let forgot = c.forget_low.ensures.room in
    record {
      heads = λ place. omega (arith, written.heads place, turned.heads place, forgot.heads place);
      areas = forgot.areas ∙ turned.areas ∙ written.areas;
      ends = omega (arith, written.ends, turned.ends, forgot.ends);
    }

pub returns-clause-files : goal.returns-clause-files
returns-clause-files g c =
    files_before _ _ _ _ c.forget_low.new.self.physical c.forget_low.ensures.same.physical
    (files_then _ _ _ _ _ _ c.in_ok-write_all.ensures.files c.in_ok-turn.ensures.files)
