use Rattle.clfs_archive_form.proofs.Words.{◌≡◌, max, take, fold, lsn_number, Row}
use Rattle.clfs_archive_form.proofs.choosing.low_bound.Given as goal

abbrev pub invariant-loop-row : goal.invariant-loop-row
invariant-loop-row l = l.low ≡ fold (λ low (row : Row). max low row.base) (lsn_number l.image.first 0 0) (take l.row-index l.image.streams)
