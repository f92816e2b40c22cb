use Rattle.clfs_block.proofs.Words.{◌≡◌, ◌-◌, eqb, get_or, first_failing}
use Rattle.clfs_block.proofs.decoder.first_other_byte.Given as goal

-- the first other byte from here on is the first of all
abbrev pub invariant-loop-at : goal.invariant-loop-at
invariant-loop-at l =
    first_failing (λ at. eqb (get_or l.bytes at 0) 0) l.at (l.end - l.at) ≡ first_failing (λ at. eqb (get_or l.bytes at 0) 0) l.from (l.end - l.from)
