use Rattle.std.proofs.Common.{◌≡◌}
use Rattle.clfs_table_checks.proofs.queue.are_put_at.Given as goal

abbrev pub invariant-loop-byte : goal.invariant-loop-byte
invariant-loop-byte l = l.queue.shape ≡ l.fn.queue.shape
