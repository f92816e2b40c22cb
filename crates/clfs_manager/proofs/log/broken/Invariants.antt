use Rattle.clfs_manager.proofs.Words.{with_broken}
use Rattle.clfs_manager.proofs.log.broken.Given as goal

abbrev pub ghost-next : goal.ghost-next
ghost-next a = with_broken a.self.now.value
