use Rattle.clfs_race.proofs.Words.{length}
use Rattle.clfs_race.proofs.FirstLines.{AreCounted}
use Rattle.clfs_race.proofs.lines.is_within_limits.Given as goal

abbrev pub invariant-loop-line : goal.invariant-loop-line
invariant-loop-line l = AreCounted l.fn.bytes l.rest l.count

abbrev pub decreases-loop-line : goal.decreases-loop-line
decreases-loop-line l = length l.rest
