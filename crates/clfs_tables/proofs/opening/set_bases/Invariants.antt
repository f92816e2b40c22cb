use Rattle.std.proofs.Common.{◌≡◌}
use Rattle.clfs_tables.proofs.Tabling.{streams_so_far}
use Rattle.clfs_tables.proofs.opening.set_bases.Given as goal

-- the first so many streams have their bases
abbrev pub invariant-loop-i : goal.invariant-loop-i
invariant-loop-i l =
    (l.tables.streams ≡ streams_so_far l.rows l.bases l.i) × (l.tables.heads ≡ l.initial.tables.heads) × (l.tables.low ≡ l.initial.tables.low)
