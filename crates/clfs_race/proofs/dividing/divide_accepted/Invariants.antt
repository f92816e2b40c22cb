use Rattle.clfs_race.proofs.Words.{race_limits, accepted, ended_lines}
use Rattle.clfs_race.proofs.FirstLines.{first_short}
use Rattle.clfs_race.proofs.SoFar.{IsDividedSoFar}
use Rattle.clfs_race.proofs.dividing.divide_accepted.Given as goal

abbrev pub invariant-loop-left : goal.invariant-loop-left
invariant-loop-left l = IsDividedSoFar (accepted race_limits l.fn.bytes) (first_short l.left (ended_lines l.rest)) l.division

abbrev pub decreases-loop-left : goal.decreases-loop-left
decreases-loop-left l = l.left
