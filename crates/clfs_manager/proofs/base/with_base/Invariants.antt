use Rattle.clfs_manager.proofs.Words.{with_base}
use Rattle.clfs_manager.proofs.base.with_base.Given as goal

abbrev pub ghost-next : goal.ghost-next
ghost-next a = with_base a.with.now.0 a.with.now.1 a.self.now.value
