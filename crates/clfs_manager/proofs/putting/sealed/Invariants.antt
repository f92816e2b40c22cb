use Rattle.clfs_manager.proofs.Words.{seal}
use Rattle.clfs_manager.proofs.putting.sealed.Given as goal

abbrev pub ghost-next : goal.ghost-next
ghost-next a = seal a.self.now.value
