use Rattle.std.proofs.Common.{◌≡◌, length}
use Rattle.clfs_log_checks.proofs.door.programs_of.Given as goal

abbrev pub invariant-loop-client : goal.invariant-loop-client
invariant-loop-client l = length l.programs.items ≡ l.client
