use Rattle.clfs_recover.proofs.Counting.{few_records}
use Rattle.clfs_recover.proofs.logs.logs_have_few_records.Goals as goal

pub returns : goal.returns
returns c = few_records c.blocks_are_read_as_written.ensures
