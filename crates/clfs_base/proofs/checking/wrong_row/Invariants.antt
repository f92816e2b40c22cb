use Rattle.clfs_base.proofs.Words.{◌≡◌, ◌-◌, row_place, first_some, row_fault, wrong_row, rows_of}
use Rattle.clfs_base.proofs.checking.wrong_row.Given as goal

-- the first wrong byte from here on is the first of all
abbrev pub invariant-loop-i : goal.invariant-loop-i
invariant-loop-i l =
    first_some (λ i. row_fault l.layout l.bytes (row_place l.layout i) (rows_of l.layout l.bytes i)) l.i (l.count - l.i)
    ≡ wrong_row l.layout l.bytes l.count
