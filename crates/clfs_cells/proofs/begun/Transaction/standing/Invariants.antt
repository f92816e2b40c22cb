use Rattle.clfs_cells.proofs.Words.{◌≡◌, ◌≤◌, filter, length, not, take, Made}
use Rattle.clfs_cells.proofs.begun.Transaction.standing.Given as goal

abbrev pub invariant-loop-made : goal.invariant-loop-made
invariant-loop-made l = (l.count ≡ length (filter (λ (made : Made). not made.undone) (take l.made-index l.made-items))) × (l.count ≤ l.made-index)
