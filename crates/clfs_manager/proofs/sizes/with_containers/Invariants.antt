use Rattle.clfs_manager.proofs.Words.{with_containers}
use Rattle.clfs_manager.proofs.sizes.with_containers.Given as goal

abbrev pub ghost-next : goal.ghost-next
ghost-next a = with_containers a.with.now a.self.now.value
