use Rattle.std.proofs.Common.{length}
use Rattle.clfs_share.proofs.pairs.+is_any_served.Given as goal

abbrev pub decreases-is_any_served : goal.decreases-is_any_served
decreases-is_any_served g l = length l.clients.now
