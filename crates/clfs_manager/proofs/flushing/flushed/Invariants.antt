use Rattle.clfs_manager.proofs.Words.{flush}
use Rattle.clfs_manager.proofs.flushing.flushed.Given as goal

abbrev pub ghost-next : goal.ghost-next
ghost-next a = flush a.self.now.value
