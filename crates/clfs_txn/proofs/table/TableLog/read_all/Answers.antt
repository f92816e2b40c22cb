use Rattle.clfs_txn.proofs.Words.{ap, ◌∙◌, refl, false, true, Ok, Err, err_from_is_err_and, Nature, Memory}
use Rattle.clfs_txn.proofs.Leads.{leads_nowhere}
use Rattle.clfs_txn.proofs.NextRead.{read_then_err, read_then_ok}
use Rattle.clfs_txn.proofs.Rounds.{by_true, came_on, came_to_end, came_to_refusal, forward_by, fewer_by, ok_is, same_read}
use Rattle.clfs_txn.proofs.Written.{nothing}
use Rattle.clfs_txn.proofs.Moments.{passes_still, passes_then}
use Rattle.clfs_txn.proofs.table.TableLog.read_all.Goals as goal

pub loop-init : goal.loop-init
loop-init g c = record {
  step = λ more all few. (more, few, leads_nowhere _ _ _ _);
  time = passes_still _;
  writes = nothing ⊥ _ (λ f. f);
  memory = refl;
  whole = c.requires.whole;
  forward = c.requires.forward;
}

pub loop-preserved : goal.loop-preserved
loop-preserved g c =
    let m : Memory = c.args.self.now.0.memory in
    let n : Memory = c.loop.self.0.memory in
    let before = c.loop.invariant in
    let read = c.in_ok-read_record.ensures in
    let tells = ap (λ (x : Nature). x.tells_contents) before.writes.time.nature in
    let more = c.in_ok-read_record.field-0 in
    let is = ok_is more true c.if-branch.true in
    record {
      step = came_on _ m _ _ _ _ _ _ _ before.step
          (by_true _ m _ _ _ _ c.read_record.new.replay (Ok more) (Ok true) is (same_read _ _ m n _ _ _ _ c.read_record.new.replay (Ok more) tells before.memory read.step))
          (fewer_by m n c.loop.self.0.log c.read_record.new.self.0.log c.args.cursor before.memory (read.fewer is));
      time = passes_then _ _ _ before.time read.time;
      writes = read_then_ok _ _ _ c.in_ok-read_record.field-0 before.writes read.writes;
      memory = read.memory ∙ before.memory;
      whole = read.whole;
      forward = forward_by m n c.read_record.new.self.0.log c.args.cursor before.memory (read.forward is);
    }

pub returns-clause-step : goal.returns-clause-step
returns-clause-step g c =
    let m : Memory = c.args.self.now.0.memory in
    let n : Memory = c.loop.self.0.memory in
    let before = c.loop.invariant in
    let more = c.in_ok-read_record.field-0 in
    let tells = ap (λ (x : Nature). x.tells_contents) before.writes.time.nature in
    came_to_end _ m _ _ _ _ _ _ _ before.step
    (by_true _ m _ _ _ _ c.read_record.new.replay (Ok more) (Ok false) (ok_is more false c.if-branch.false)
    (same_read _ _ m n _ _ _ _ c.read_record.new.replay (Ok more) tells before.memory c.in_ok-read_record.ensures.step))

pub returns-in_err-read_record-clause-step : goal.returns-in_err-read_record-clause-step
returns-in_err-read_record-clause-step g c =
    let m : Memory = c.args.self.now.0.memory in
    let n : Memory = c.loop.self.0.memory in
    let before = c.loop.invariant in
    let tells = ap (λ (x : Nature). x.tells_contents) before.writes.time.nature in
    let p = err_from_is_err_and c.from_residual.result c.from_residual.ensures.1 in
    rw (p.1, p.2) (came_to_refusal _ m _ _ _ _ _ _ c.read_record.new.replay c.in_err-read_record.field-0.0 before.step
    (same_read _ _ m n _ _ _ _ c.read_record.new.replay (Err c.in_err-read_record.field-0.0) tells before.memory c.in_err-read_record.ensures.step))

pub returns-in_err-read_record-clause-writes : goal.returns-in_err-read_record-clause-writes
returns-in_err-read_record-clause-writes g c =
    let p = err_from_is_err_and c.from_residual.result c.from_residual.ensures.1 in
    rw (p.1, p.2) (read_then_err _ _ _ c.in_err-read_record.field-0.0 c.loop.invariant.writes c.in_err-read_record.ensures.writes)

pub returns-in_err-read_record-clause-time : goal.returns-in_err-read_record-clause-time
returns-in_err-read_record-clause-time g c = passes_then _ _ _ c.loop.invariant.time c.in_err-read_record.ensures.time

pub returns-clause-time : goal.returns-clause-time
returns-clause-time g c = passes_then _ _ _ c.loop.invariant.time c.in_ok-read_record.ensures.time
