use Rattle.clfs_cells_laws.proofs.Words.{◌<◌, recursion_from_All, LogEntry, flushed, live}
use Rattle.clfs_cells_laws.proofs.Cut.{cut_table}
use Rattle.clfs_cells_laws.proofs.the_flushed_part_has_the_table.Goals as goal

pub returns : goal.returns
returns c = λ s stable.
    cut_table s (λ stream is. recursion_from_All (λ (entry : LogEntry). entry.lsn < flushed s) (live s stream) (stable stream is))
