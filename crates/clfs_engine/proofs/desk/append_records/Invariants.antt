use Rattle.std.proofs.Common.{◌≤◌}
use Rattle.clfs_engine.specs.Work.{HasAppended}
use Rattle.clfs_engine.proofs.desk.append_records.Given as goal

abbrev pub invariant-loop : goal.invariant-loop
invariant-loop g l = record {
  appended : HasAppended l.fn.permit l.permit l.counter l.lacked;
  few : l.lacked ≤ l.counter;
}
