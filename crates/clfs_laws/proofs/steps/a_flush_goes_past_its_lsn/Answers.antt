use Rattle.clfs_laws.proofs.FlushedTo.{flushed_past_it}
use Rattle.clfs_laws.proofs.steps.a_flush_goes_past_its_lsn.Goals as goal

pub returns : goal.returns
returns c = flushed_past_it
