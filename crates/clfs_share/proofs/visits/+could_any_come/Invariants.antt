use Rattle.std.proofs.Common.{length}
use Rattle.clfs_share.proofs.visits.+could_any_come.Given as goal

abbrev pub decreases-could_any_come : goal.decreases-could_any_come
decreases-could_any_come g l = length l.clients.now
