use Rattle.std.proofs.Common.{◌≡◌, true, false, sym, subst, ◌∙◌}
use Rattle.clfs_restore.specs.Restoring.{IsFreeCause, IsRestoreCause}
use Rattle.clfs_operations.specs.Restoring.{IsInput}
use Rattle.clfs_operations.proofs.RestoreEnds.{restored_ends, refusal_ends}
use Rattle.clfs_operations.proofs.restoring.restore.Goals.{in-Ok-None, in-Err}
use Rattle.clfs_operations.proofs.restoring.restore.Goals as goal

pub returns-then-failed-clause-ends : goal.returns-then-failed-clause-ends
returns-then-failed-clause-ends g c =
    let old = g.D.Disk.state c.args.disk in
    let bytes = c.deref.result.now in
    let cause = c.cause_after_fault-cause.result in
    let input = subst (IsInput (g.S.Source.left c.args.source.now) (g.S.Source.left c.read_input.new.source)) (sym c.deref.ensures.value) c.in-Ok.ensures.input in
    elim c.match-first_open_slot.branch [
      | in-Ok-None w ↦ let never : false ≡ true = sym w.failed-is ∙ c.if-failed.true in absurd (cc never)
      | in-Err w ↦
          let refuses = c.reads_may_come_first.ensures.fails cause bytes c.args.up_to c.args.disk c.first_open_slot.new.disk c.first_open_slot.ensures.same
          c.first_open_slot.ensures.time w.in-Err.ensures.cause (λ steady. absurd (cc (w.in-Err.ensures.steady steady).0)) c.cause_after_fault-cause.ensures in
          refusal_ends c.args.up_to c.refused_restore-status.result cause bytes old (g.D.Disk.state c.first_open_slot.new.disk) _ _ _ _ _ _ _ _ input
          c.read_input.ensures.count refuses (λ slot e told. subst (IsFreeCause bytes c.args.up_to) e c.cause_after_fault-cause.ensures)
          c.refused_restore-status.ensures
    ]

pub returns-in-Ok-restore-clause-ends : goal.returns-in-Ok-restore-clause-ends
returns-in-Ok-restore-clause-ends g c =
    let bytes = c.deref-2.result.now in
    let input = subst (IsInput (g.S.Source.left c.args.source.now) (g.S.Source.left c.read_input.new.source)) (sym c.deref-2.ensures.value) c.in-Ok.ensures.input in
    let told = c.in-Ok-restore.ensures in
    let log = c.reads_may_come_first.ensures.restores bytes c.args.up_to c.args.disk c.first_open_slot.new.disk c.in-Ok-restore.disk c.first_open_slot.ensures.same
    c.first_open_slot.ensures.time (record {
      chosen = told.chosen;
      free = told.free;
      restored = told.restored;
      whole = told.whole;
      settled = told.settled;
      moments = told.moments;
      all_moments = told.all_moments;
      time = told.time;
    }) in
    restored_ends c.args.up_to c.printed.result bytes (g.D.Disk.state c.args.disk) (g.D.Disk.state c.in-Ok-restore.disk) _ _ _ _ _ _ _ _ input
    c.read_input.ensures.count log c.printed.ensures.status c.printed.ensures.whole c.printed.ensures.front c.printed.ensures.cause c.printed.ensures.later

pub returns-clause-ends : goal.returns-clause-ends
returns-clause-ends g c =
    let old = g.D.Disk.state c.args.disk in
    let bytes = c.deref-2.result.now in
    let cause = c.in-Err-restore.field-0.cause in
    let input = subst (IsInput (g.S.Source.left c.args.source.now) (g.S.Source.left c.read_input.new.source)) (sym c.deref-2.ensures.value) c.in-Ok.ensures.input in
    let told = c.in-Err-restore.ensures in
    let refuses = c.reads_may_come_first.ensures.refuses cause bytes c.args.up_to c.args.disk c.first_open_slot.new.disk c.in-Err-restore.field-0.disk
    c.first_open_slot.ensures.same c.first_open_slot.ensures.time (record {
      why = told.why;
      first = told.first;
      same = told.same;
      kept = told.kept;
      moments = told.moments_refused;
      all_moments = told.all_moments_refused;
      time = told.time_refused;
      fault = told.fault;
      steady = told.steady;
    }) in
    elim c.match-first_open_slot.branch [
      | in-Err w ↦ let never : true ≡ false = sym w.failed-is ∙ c.if-failed.false in absurd (cc never)
      | in-Ok-None w ↦
          refusal_ends c.args.up_to c.refused_restore.result cause bytes old (g.D.Disk.state c.in-Err-restore.field-0.disk) _ _ _ _ _ _ _ _ input
          c.read_input.ensures.count refuses
          (λ slot e tells.
          let there = subst (IsRestoreCause old bytes c.args.up_to) e refuses.why tells in
          let none = sym (w.in-Ok-None.ensures.open tells) ∙ w.in-Ok-None.field-0-is in
          cc (sym none ∙ there))
          c.refused_restore.ensures
    ]
