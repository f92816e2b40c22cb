use Rattle.clfs_recover.proofs.ChangedCopies.{state_next}
use Rattle.clfs_recover.proofs.StoredSteps.{empty_by_file, place_next, log_next}
use Rattle.clfs_recover.proofs.changes.further_containers_begin_empty.Goals as goal

pub returns : goal.returns
returns c = record {
  by_file = empty_by_file;
  log = λ image file old new entries good have with. log_next image good file old new have entries with;
  place = place_next;
  state = λ image file old new entries buffers have. state_next image old new entries buffers file have;
}
