use Rattle.std.proofs.Common.{◌≡◌, length}
use Rattle.clfs_table_checks.proofs.cursor.cursors_of_two_areas.Given as goal

abbrev pub invariant-loop-area : goal.invariant-loop-area
invariant-loop-area g l = length l.cursors.areas ≡ 2
