use Rattle.clfs_shared.specs.Sessions.{IsOf}
use Rattle.clfs_area_checks.proofs.threads.count_records.Given as goal

abbrev pub invariant-loop-count : goal.invariant-loop-count
invariant-loop-count g l = IsOf l.log l.session
