use Rattle.clfs_base.proofs.Words.{◌≡◌, ◌-◌, file_place, first_some, told, is_wrong_file, wrong_file}
use Rattle.clfs_base.proofs.checking.wrong_file.Given as goal

-- the first wrong number from here on is the first of all
abbrev pub invariant-loop-i : goal.invariant-loop-i
invariant-loop-i l =
    first_some (λ i. told (is_wrong_file l.bytes l.made i) (file_place i)) l.i (l.listed - l.i) ≡ wrong_file l.bytes l.made l.listed
