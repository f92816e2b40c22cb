use Rattle.clfs_shared.specs.Sessions.{IsOf}
use Rattle.clfs_area_checks.proofs.refusals.make_sixteen.Given as goal

abbrev pub invariant-loop-reads : goal.invariant-loop-reads
invariant-loop-reads g l = IsOf l.log l.session
