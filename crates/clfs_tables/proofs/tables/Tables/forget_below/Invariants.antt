use Rattle.std.proofs.Common.{◌≡◌, ℕ, ◌<◌, ◌≤◌, length}
use Rattle.std.specs.Prelude.{slice_index_or}
use Rattle.clfs_tables.specs.declared.tables.StreamRow.{StreamRow}
use Rattle.clfs_tables.proofs.TableSteps.{Forgets}
use Rattle.clfs_tables.proofs.tables.Tables.forget_below.Given as goal

-- heads below the LSN were forgotten of each row that was gone through; the others are as they were
abbrev pub invariant-loop-row : goal.invariant-loop-row
invariant-loop-row l =
    (length l.row-items ≡ length l.initial.row-items)
    × (((k : ℕ) (d : StreamRow) → k < l.row-index → Forgets l.lsn (slice_index_or l.initial.row-items k d) (slice_index_or l.row-items k d))
    × ((k : ℕ) (d : StreamRow) → l.row-index ≤ k → slice_index_or l.row-items k d ≡ slice_index_or l.initial.row-items k d))
