use Rattle.clfs_recover.proofs.Words.{refl}
use Rattle.clfs_recover.proofs.ChangedCopies.{log_settings, log_archived}
use Rattle.clfs_recover.proofs.changes.settings_leave_the_records.Goals as goal

pub returns : goal.returns
returns c = record {
  log = λ image blocks entries version turn containers files_made maximum minimum growth automatic with.
      log_settings image blocks entries version turn containers files_made maximum minimum growth automatic with;
  state = λ image blocks entries buffers version turn containers files_made maximum minimum growth automatic. refl;
  archived = λ image blocks entries archiving tail within with. log_archived image blocks entries archiving tail within with;
  archive = λ image blocks entries buffers archiving tail. refl;
}
