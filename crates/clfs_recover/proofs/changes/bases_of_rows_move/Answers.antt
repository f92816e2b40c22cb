use Rattle.clfs_recover.proofs.ChangedCopies.{log_moved, state_moved}
use Rattle.clfs_recover.proofs.changes.bases_of_rows_move.Goals as goal

pub returns : goal.returns
returns c = record {
  log = λ image blocks entries stream base some few le with. log_moved image blocks entries stream base some few le with;
  state = λ image blocks entries buffers stream base some few least. state_moved image blocks entries stream base some few buffers least;
}
