use Rattle.std.proofs.Common.{length}
use Rattle.clfs_share.proofs.threads.+run_from_last.Given as goal

abbrev pub decreases-run_from_last : goal.decreases-run_from_last
decreases-run_from_last g l = length l.clients.now.items
