use Rattle.clfs_base.proofs.Words.{◌≡◌, ◌<◌, ℕ, get_or}
use Rattle.clfs_base.proofs.encoder.clear.Given as goal

-- what was gone over is zeros
abbrev pub invariant-loop-byte : goal.invariant-loop-byte
invariant-loop-byte l = (k : ℕ) → k < l.byte-index → get_or l.out k 0 ≡ 0
