use Rattle.clfs_restore.proofs.Words.{◌-◌, ◌≤◌, vec_len}
use Rattle.clfs_restore.proofs.copy.zeros.Given as goal

abbrev pub invariant-loop-some : goal.invariant-loop-some
invariant-loop-some l = vec_len l.bytes ≤ l.count

abbrev pub decreases-loop-some : goal.decreases-loop-some
decreases-loop-some l = l.count - vec_len l.bytes
