use Rattle.clfs_lines.specs.Taken.{script_limits}
use Rattle.clfs_operations.proofs.Lines.{answered_lines, answered_in_part}
use Rattle.clfs_operations.proofs.Loaded.{is_answered, is_answered_in_part}
use Rattle.clfs_operations.specs.Loaded.{IsLoaded, IsKeptOn}
use Rattle.clfs_operations.proofs.ServingEnds.{answering_serves, refusal_serves}
use Rattle.clfs_operations.proofs.Through.{AreOne, comes_through}
use Rattle.clfs_operations.proofs.WholeSteps.{StayUnbroken}
use Rattle.clfs_operations.proofs.serving.serve_within.Goals as goal

pub returns-in-Ok-clause-ends : goal.returns-in-Ok-clause-ends
returns-in-Ok-clause-ends g c =
    let old = g.D.Disk.state c.args.disk in
    let mid = g.D.Disk.state c.in-Ok.manager.1 in
    let new = g.D.Disk.state c.answered-status.new.answering.manager.1 in
    let s = c.in-Ok.manager.0 in
    let t = c.answered-status.new.answering.manager.0 in
    let load = c.in-Ok.ensures in
    let loaded : IsLoaded c.args.write_buffers old mid s = record {
      stands = load.loaded;
      buffers_are = load.buffers;
      valid = load.valid;
      storable = load.storable;
      stable = load.stable;
      same = load.same.0;
      time = load.same.1;
      left = c.stored.ensures.survives_nothing 0;
    } in
    let kept : IsKeptOn t new = record { files = c.stored-in-Ok.ensures.files; settled = c.stored-in-Ok.ensures.settled } in
    let stay : StayUnbroken = record { calls = c.unbroken_stays.ensures.calls; reopening = c.unbroken_stays.ensures.reopening } in
    rw c.close.ensures (answering_serves (script_limits c.args.most) c.args.incomplete _ _ c.answered-status.result c.args.write_buffers old new _ _ _ _ _ _ _ _
    (λ lines text is. is_answered c.args.write_buffers old mid new s t loaded kept lines text
    (answered_lines _ (λ log. log.manager.0) (λ log. g.D.Disk.state log.manager.1) stay _ _ lines text is))
    (λ torn lines text is. is_answered_in_part c.args.write_buffers old mid new s t loaded kept torn lines text
    (answered_in_part _ (λ log. log.manager.0) (λ log. g.D.Disk.state log.manager.1) stay _ _ torn lines text is))
    c.answered-status.ensures)

pub returns-in-Err-clause-ends : goal.returns-in-Err-clause-ends
returns-in-Err-clause-ends g c =
    let load = c.in-Err.ensures in
    refusal_serves (script_limits c.args.most) c.args.incomplete c.refused.result c.args.write_buffers c.in-Err.field-0.cause (g.D.Disk.state c.args.disk) (g.D.Disk.state c.in-Err.field-0.disk) _ _ _ _ _ _
    (record {
      is = load.refused;
      cause = load.cause;
      steady = load.steady;
      same = load.same_refused.0;
      time = load.same_refused.1;
    })
    load.place c.refused.ensures

pub returns-in-Ok-clause-complete : goal.returns-in-Ok-clause-complete
returns-in-Ok-clause-complete g c =
    let one : AreOne = record { no_damage = c.files_have_one_meaning.ensures.no_damage; no_base = c.files_have_one_meaning.ensures.no_base } in
    comes_through (script_limits c.args.most) c.args.incomplete one _ _ _ _ _ _ _ _ _ _ _ _ (returns-in-Ok-clause-ends g c)

pub returns-in-Err-clause-complete : goal.returns-in-Err-clause-complete
returns-in-Err-clause-complete g c =
    let one : AreOne = record { no_damage = c.files_have_one_meaning.ensures.no_damage; no_base = c.files_have_one_meaning.ensures.no_base } in
    comes_through (script_limits c.args.most) c.args.incomplete one _ _ _ _ _ _ _ _ _ _ _ _ (returns-in-Err-clause-ends g c)
