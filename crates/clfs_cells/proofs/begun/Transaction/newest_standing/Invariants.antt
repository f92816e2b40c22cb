use Rattle.clfs_cells.proofs.Words.{◌≡◌, filter, not, take, slice_get, Made}
use Rattle.std.proofs.Common.{reverse}
use Rattle.std.specs.Option.{option_map_or}
use Rattle.clfs_lsn.specs.Lsn.{null_lsn}
use Rattle.clfs_cells.proofs.begun.Transaction.newest_standing.Given as goal

abbrev pub invariant-loop-made : goal.invariant-loop-made
invariant-loop-made l =
    l.newest ≡ option_map_or (λ (made : Made). made.lsn) (slice_get (reverse (filter (λ (made : Made). not made.undone) (take l.made-index l.made-items))) 0) null_lsn
