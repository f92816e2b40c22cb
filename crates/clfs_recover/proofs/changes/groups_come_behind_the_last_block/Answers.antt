use Rattle.clfs_recover.proofs.ChangedCopies.{state_more_blocks, state_moved_blocks}
use Rattle.clfs_recover.proofs.StoredSteps.{more_by_file, end_is, place_more, log_more}
use Rattle.clfs_recover.proofs.changes.groups_come_behind_the_last_block.Goals as goal

pub returns : goal.returns
returns c = record {
  by_file = more_by_file;
  at = λ image blocks good. end_is image good blocks;
  log = λ image old new more entries others good have within read with. log_more image good old new more have entries others within read with;
  place = λ image old new more good have. place_more image good old new more have;
  state = λ image old new more entries others buffers good have zeros. state_more_blocks image old new entries buffers more others good have zeros;
  moved = λ image old new more entries others entry buffers good have zeros some few least.
      state_moved_blocks image old new entries buffers more others entry good have zeros some few least;
}
