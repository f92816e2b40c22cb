use Rattle.clfs_base.proofs.Words.{◌≡◌, ◌<◌, ℕ, false, eqb, file_in}
use Rattle.clfs_base.proofs.checking.has_number.Given as goal

-- none so far is the number
abbrev pub invariant-loop-i : goal.invariant-loop-i
invariant-loop-i l = (k : ℕ) → k < l.i → eqb (file_in l.bytes k) l.number ≡ false
