use Rattle.clfs_base.proofs.Words.{◌≡◌, other_byte}
use Rattle.clfs_base.proofs.reading.other_byte.Given as goal

-- the first other byte from here on is the first of all
abbrev pub invariant-loop-at : goal.invariant-loop-at
invariant-loop-at l = other_byte l.bytes l.at l.end ≡ other_byte l.bytes l.fn.from l.end
