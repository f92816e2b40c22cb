use Rattle.clfs_block.proofs.Words.{◌≡◌, eqb, take, list_all}
use Rattle.clfs_block.proofs.decoder.are_zeros.Given as goal

-- what was joined is 0 where all bytes so far are
abbrev pub invariant-loop-byte : goal.invariant-loop-byte
invariant-loop-byte l = eqb l.joined 0 ≡ list_all (λ byte. eqb byte 0) (take l.byte-index l.bytes)
