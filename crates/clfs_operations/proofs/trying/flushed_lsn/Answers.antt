use Rattle.std.proofs.Common.{true}
use Rattle.clfs_operations.proofs.Trials.{info_flushed}
use Rattle.clfs_operations.proofs.trying.flushed_lsn.Goals as goal

pub returns-in-Ok : goal.returns-in-Ok
returns-in-Ok g c = info_flushed c.args.manager.now.0 1 c.in-Ok.info (c.in-Ok.ensures.step true 0)
