use Rattle.clfs_base.proofs.Words.{◌≡◌, ◌<◌, ℕ, false, bytes_eq, row_place, name_in}
use Rattle.clfs_base.proofs.checking.is_taken.Given as goal

-- none so far has the name
abbrev pub invariant-loop-i : goal.invariant-loop-i
invariant-loop-i l = (k : ℕ) → k < l.i → bytes_eq (name_in l.bytes (row_place l.layout k)) l.name ≡ false
