use Rattle.std.proofs.Common.{◌≡◌, take}
use Rattle.clfs_tables.specs.Opening.{streams_of}
use Rattle.clfs_tables.proofs.opening.add_streams.Given as goal

-- the streams of the rows so far are there
abbrev pub invariant-loop-row : goal.invariant-loop-row
invariant-loop-row l =
    (l.tables.streams ≡ streams_of (take l.row-index l.rows)) × (l.tables.heads ≡ l.initial.tables.heads) × (l.tables.low ≡ l.initial.tables.low)
