use Rattle.std.proofs.Common.{◌≡◌, take}
use Rattle.clfs_tables.proofs.opening.put_heads.Given as goal

-- the heads so far are in their streams
abbrev pub invariant-loop-head : goal.invariant-loop-head
invariant-loop-head l =
    (l.tables.heads ≡ take l.head-index l.heads) × (l.tables.streams ≡ l.initial.tables.streams) × (l.tables.low ≡ l.initial.tables.low)
