use Rattle.clfs_manager.proofs.Words.{◌≡◌, refl, sym, ap, subst, ◌∙◌, List, [], ◌∷◌, ◌++◌, length, IsErr, area_at, IsLaid, MayMove, TakesThrough, readied}
use Rattle.clfs_manager.proofs.Words.{ready_stages, LogEntry, Area, State, rebased, flush, put, spend_if, GoesThrough, unplaced, MayFinish, IsIntact}
use Rattle.clfs_manager.proofs.Reserved.{intact_after}
use Rattle.clfs_manager.proofs.RestartCall.{may_finish, put_broken}
use Rattle.clfs_manager.proofs.Through.{through_answered, through_changes, through_failed, through_named, through_refused, through_then}
use Rattle.clfs_manager.proofs.KeptFiles.{files_behind, files_then}
use Rattle.clfs_manager.proofs.log.Log.restart_grown.Given.{Over}
use Rattle.clfs_manager.proofs.log.Log.restart_grown.Goals as goal

pub put_record-requires-clause-intact : goal.put_record-requires-clause-intact
put_record-requires-clause-intact g c =
    intact_after (g.D.Disk.state c.args.disk.now) c.args.self.now c.spend.new.self c.requires.intact c.spend.ensures.areas c.spend.ensures.sound

module _ (g : Over) (c : goal.After-finish_restart-arg-3-1 g) where
  may : IsLaid c.put_record.new.self.state.value
      × MayFinish c.put_record.new.self.state.value c.args.fields.now.stream c.args.fields.now.new_base
  may =
      let v : State = c.spend.new.self.state.value in
      let e : LogEntry = unplaced c.args.fields.now c.args.bytes.now in
      let area = area_at c.args.place c.args.self.now.areas.areas in
      let laws = c.records_are_put.ensures in
      let takes : TakesThrough v area e 0 = subst (λ (u : State). TakesThrough u area e 0) (sym c.spend.ensures.state) c.requires.takes in
      let move : MayMove v e.stream e.new_base = subst (λ (u : State). MayMove u e.stream e.new_base) (sym c.spend.ensures.state) c.requires.base in
      let r : State = readied v (length e.bytes) in
      let ready = c.logs_are_made_ready.ensures.ready v e takes.valid takes.storable takes.may in
      let above = c.the_next_lsn_is_above_all.ensures.frontier r.shape r.place (length e.bytes) ready.valid.ranges.shape ready.valid.ranges.place in
      subst (λ (p : State). IsLaid p × MayFinish p e.stream e.new_base) (sym c.in_ok-lsn.ensures.change.state) (
        laws.laid v e takes.valid takes.storable takes.may,
        may_finish v r e takes.may move ready above (laws.restart v e takes.valid takes.storable takes.may move)
            (laws.tables v e takes.valid takes.storable takes.may) (laws.older v e takes.valid takes.storable takes.may),
      )

pub finish_restart-requires-clause-laid : goal.finish_restart-requires-clause-laid
finish_restart-requires-clause-laid g c =
    let is = c.in_ok-lsn.ensures.change in
    record {
      laid = (may g c).0;
      unbroken = is.left.unbroken;
      whole = ap (λ (p : State). p.broken) is.state ∙ put_broken c.spend.new.self.state.value (unplaced c.args.fields.now c.args.bytes.now)
          ∙ c.spend.ensures.sound.whole;
      holds = is.left.opened.memory;
    }

pub finish_restart-requires-clause-may : goal.finish_restart-requires-clause-may
finish_restart-requires-clause-may g c = (may g c).1

pub returns-in_err-lsn-clause-change : goal.returns-in_err-lsn-clause-change
returns-in_err-lsn-clause-change g c =
    let area : Area = area_at c.args.place c.args.self.now.areas.areas in
    let n = length c.args.bytes.now in
    let e : LogEntry = unplaced c.args.fields.now c.args.bytes.now in
    let u : State = spend_if c.args.reserved area n c.args.self.now.state.value in
    let v : State = c.spend.new.self.state.value in
    let last : State → State = λ p. rebased c.args.fields.now.stream c.args.fields.now.new_base (flush p) in
    let whole : State → List State = λ t. ready_stages t n ++ put t e ∷ last (put t e) ∷ [] in
    through_named c.from_residual.result (whole v) (whole u) (last (put v e)) (last (put u e)) _ _ c.put_record.new.self
    (ap whole c.spend.ensures.state) (ap (λ (t : State). last (put t e)) c.spend.ensures.state)
    (through_failed c.put_record.result c.from_residual.result (ready_stages v n) (put v e ∷ last (put v e) ∷ []) (put v e) (last (put v e)) _ _ c.put_record.new.self
    (subst (λ r. IsErr r) (sym c.in_err-lsn.was) refl) c.from_residual.ensures.0 c.put_record.ensures.change)

pub returns-in_err-finish_restart-clause-change : goal.returns-in_err-finish_restart-clause-change
returns-in_err-finish_restart-clause-change g c =
    let area : Area = area_at c.args.place c.args.self.now.areas.areas in
    let n = length c.args.bytes.now in
    let e : LogEntry = unplaced c.args.fields.now c.args.bytes.now in
    let u : State = spend_if c.args.reserved area n c.args.self.now.state.value in
    let v : State = c.spend.new.self.state.value in
    let last : State → State = λ p. rebased c.args.fields.now.stream c.args.fields.now.new_base (flush p) in
    let whole : State → List State = λ t. ready_stages t n ++ put t e ∷ last (put t e) ∷ [] in
    let p : State = c.put_record.new.self.state.value in
    let before = g.D.Disk.state c.args.disk.now in
    let between = g.D.Disk.state c.put_record.new.disk in
    let after = g.D.Disk.state c.finish_restart.new.disk in
    let log = c.finish_restart.new.self in
    let at : p ≡ put v e = c.in_ok-lsn.ensures.change.state in
    let stages : State → List State = λ t. t ∷ last t ∷ [] in
    let finishes : GoesThrough IsIntact c.finish_restart.result (stages (put v e)) (last (put v e)) between after log =
    through_named c.finish_restart.result (stages p) (stages (put v e)) (last p) (last (put v e)) between after log (ap stages at) (ap last at)
    (through_changes c.finish_restart.result (p ∷ []) (last p) between after log c.finish_restart.ensures.change) in
    through_named c.from_residual-in_err-finish_restart.result (whole v) (whole u) (last (put v e)) (last (put u e)) before after log
    (ap whole c.spend.ensures.state) (ap (λ (t : State). last (put t e)) c.spend.ensures.state)
    (through_then _ c.from_residual-in_err-finish_restart.result (ready_stages v n) (stages (put v e)) (put v e) (last (put v e)) before between after
    c.put_record.new.self log c.in_ok-lsn.ensures.change
    (through_refused c.finish_restart.result c.from_residual-in_err-finish_restart.result (stages (put v e)) (last (put v e)) (last (put v e)) between after log
    (subst (λ r. IsErr r) (sym c.in_err-finish_restart.was) refl) c.from_residual-in_err-finish_restart.ensures.0 finishes))

pub returns-clause-change : goal.returns-clause-change
returns-clause-change g c =
    let area : Area = area_at c.args.place c.args.self.now.areas.areas in
    let n = length c.args.bytes.now in
    let e : LogEntry = unplaced c.args.fields.now c.args.bytes.now in
    let u : State = spend_if c.args.reserved area n c.args.self.now.state.value in
    let v : State = c.spend.new.self.state.value in
    let last : State → State = λ p. rebased c.args.fields.now.stream c.args.fields.now.new_base (flush p) in
    let whole : State → List State = λ t. ready_stages t n ++ put t e ∷ last (put t e) ∷ [] in
    let p : State = c.put_record.new.self.state.value in
    let before = g.D.Disk.state c.args.disk.now in
    let between = g.D.Disk.state c.put_record.new.disk in
    let after = g.D.Disk.state c.finish_restart.new.disk in
    let log = c.finish_restart.new.self in
    let at : p ≡ put v e = c.in_ok-lsn.ensures.change.state in
    let stages : State → List State = λ t. t ∷ last t ∷ [] in
    let finishes : GoesThrough IsIntact c.finish_restart.result (stages (put v e)) (last (put v e)) between after log =
    through_named c.finish_restart.result (stages p) (stages (put v e)) (last p) (last (put v e)) between after log (ap stages at) (ap last at)
    (through_changes c.finish_restart.result (p ∷ []) (last p) between after log c.finish_restart.ensures.change) in
    through_named _ (whole v) (whole u) (last (put v e)) (last (put u e)) before after log
    (ap whole c.spend.ensures.state) (ap (λ (t : State). last (put t e)) c.spend.ensures.state)
    (through_then _ _ (ready_stages v n) (stages (put v e)) (put v e) (last (put v e)) before between after c.put_record.new.self log c.in_ok-lsn.ensures.change
    (through_answered c.finish_restart.result _ _ (stages (put v e)) (last (put v e)) between after log c.in_ok-finish_restart.was finishes))

pub returns-clause-files : goal.returns-clause-files
returns-clause-files g c =
    files_then _ _ _ _ _ _ (files_behind _ _ _ _ _ c.spend.ensures.areas.physical c.in_ok-lsn.ensures.files) c.in_ok-finish_restart.ensures.files
