use Rattle.clfs_manager.proofs.Words.{rebased}
use Rattle.clfs_manager.proofs.restarting.rebased.Given as goal

abbrev pub ghost-next : goal.ghost-next
ghost-next a = rebased a.with.now.0 a.with.now.1 a.self.now.value
