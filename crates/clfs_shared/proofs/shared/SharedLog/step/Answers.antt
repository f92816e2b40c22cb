use Rattle.std.proofs.Common.{subst, sym}
use Rattle.clfs_turn.specs.Seats.{LockState}
use Rattle.clfs_model.specs.Valid.{IsValid}
use Rattle.clfs_shared.specs.declared.opening.Opening.{Opening}
use Rattle.clfs_shared.proofs.Telling.{areas_by, calm_by, covered, stepped_by, wanted_by}
use Rattle.clfs_shared.proofs.shared.SharedLog.step.Goals as goal

pub returns-clause-step : goal.returns-clause-step
returns-clause-step g c = λ answered.
    let disk = g.D.Disk.state in
    let entries = g.J.Recorder.entries in
    stepped_by g.J.Recorder.may_lack (λ v. entries v.log.value.journal) (λ v. v.log.value.manager.0) (λ v. disk v.log.value.manager.1) c.client-client.result c.args.session.now c.call-reply.new.seat c.args.call.now c.call-reply.result
    c.client-client.ensures c.call-reply.ensures.called c.call-reply.ensures.same answered

pub returns-clause-wanted : goal.returns-clause-wanted
returns-clause-wanted g c = λ lacking.
    let disk = g.D.Disk.state in
    let entries = g.J.Recorder.entries in
    wanted_by g.J.Recorder.may_lack (λ v. entries v.log.value.journal) (λ v. v.log.value.manager.0) (λ v. disk v.log.value.manager.1) c.client-client.result c.args.session.now c.call-reply.new.seat c.args.call.now c.call-reply.result
    c.client-client.ensures c.call-reply.ensures.called lacking

pub returns-clause-areas : goal.returns-clause-areas
returns-clause-areas g c = λ left legal. areas_by (record {
  held = c.held_is_by_own_entries.ensures;
  rows = c.rows_are_by_own_entries.ensures.rows;
  made = c.rows_are_by_own_entries.ensures.made;
}) c.args.session.now c.call-reply.new.seat c.call-reply.ensures.same left legal

pub returns-clause-calm : goal.returns-clause-calm
returns-clause-calm g c = λ calm whole. calm_by (record { calls = c.unbroken_stays.ensures.calls; part = c.unbroken_stays.ensures.part })
    c.args.session.now c.call-reply.new.seat c.args.call.now c.call-reply.result (returns-clause-step g c) calm whole

pub returns-clause-covered : goal.returns-clause-covered
returns-clause-covered g c = λ number draft given.
    covered (record {
      room = c.own_entries_cover_an_append.ensures.step;
      there = c.own_entries_cover_an_append.ensures.there;
      missing = c.replies_are_of_their_calls.ensures.missing;
    }) c.args.session.now c.call-reply.new.seat c.args.call.now c.call-reply.result number draft given
    (subst (λ (o : Opening). IsValid o.state) (sym c.requires.log.opening)
    (subst (λ (l : LockState Opening). IsValid l.opening.state) c.self.view_is c.self.invariant.valid))
    (returns-clause-step g c)
