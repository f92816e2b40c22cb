use Rattle.clfs_cursor.proofs.Words.{◌≡◌, ℕ, ◌+◌, ◌<◌, true, is_numbered}
use Rattle.clfs_cursor.proofs.keys.least_unused.Given as goal

-- all numbers so far are used
abbrev pub invariant-loop-before : goal.invariant-loop-before
invariant-loop-before l = (k : ℕ) → k < l.before → is_numbered l.keys (k + 1) ≡ true
