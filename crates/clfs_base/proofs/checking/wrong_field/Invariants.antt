use Rattle.clfs_base.proofs.Words.{◌≡◌, drop, zip, wrong_within}
use Rattle.clfs_base.proofs.checking.wrong_field.Given as goal

-- the first wrong field from here on is the first of all
abbrev pub invariant-loop-i : goal.invariant-loop-i
invariant-loop-i l = wrong_within l.bytes (zip (drop l.i l.table) (drop l.i l.asked)) ≡ wrong_within l.bytes (zip l.table l.asked)
