use Rattle.std.proofs.Common.{length}
use Rattle.clfs_engine.proofs.sharing.+push_openers.Given as goal

abbrev pub decreases-push_openers : goal.decreases-push_openers
decreases-push_openers g l = length l.clients.now
