use Rattle.std.proofs.Common.{◌≡◌, ◌+◌, take}
use Rattle.clfs_archive.specs.Found.{AreFound}
use Rattle.clfs_archive.proofs.opening.open_archive.Given as goal

-- the blocks of the heads so far are found
abbrev pub invariant-loop-head : goal.invariant-loop-head
invariant-loop-head l =
    AreFound (take (l.head-index + 1) l.heads) l.archive.blocks l.found.last l.found.payload × (l.archive.tail ≡ l.fn.tail)
