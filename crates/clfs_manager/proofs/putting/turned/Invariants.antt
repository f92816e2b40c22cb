use Rattle.clfs_manager.proofs.Words.{turned}
use Rattle.clfs_manager.proofs.putting.turned.Given as goal

abbrev pub ghost-next : goal.ghost-next
ghost-next a = turned a.self.now.value
