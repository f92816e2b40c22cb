use Rattle.clfs_recover.proofs.ChangedCopies.{log_more_streams, state_more_streams}
use Rattle.clfs_recover.proofs.changes.streams_come_last.Goals as goal

pub returns : goal.returns
returns c = record {
  log = λ image blocks entries row le with. log_more_streams image blocks entries row le with;
  state = λ image blocks entries buffers row good with.
      state_more_streams image blocks entries row c.blocks_are_read_as_written.ensures c.records_are_read_as_written.ensures.fits buffers good with;
}
