use Rattle.clfs_race.proofs.Words.{◌≡◌, length, true, list_all, lines_of}
use Rattle.clfs_race.proofs.FirstLines.{is_short}
use Rattle.clfs_race.proofs.SoFar.{IsDividedSoFar}
use Rattle.clfs_race.proofs.dividing.divide_whole.Given as goal

abbrev pub invariant-loop-line : goal.invariant-loop-line
invariant-loop-line l = record {
  so_far : IsDividedSoFar (lines_of l.fn.bytes) (lines_of l.rest) l.division;
  short : list_all is_short (lines_of l.rest) ≡ true;
}

abbrev pub decreases-loop-line : goal.decreases-loop-line
decreases-loop-line l = length l.rest
