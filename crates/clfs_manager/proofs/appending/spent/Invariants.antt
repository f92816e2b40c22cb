use Rattle.clfs_manager.proofs.Words.{own, with_less_held, change_area}
use Rattle.clfs_manager.proofs.appending.spent.Given as goal

abbrev pub ghost-next : goal.ghost-next
ghost-next a = change_area (with_less_held (own a.with.now.2)) a.with.now.0 a.with.now.1 a.self.now.value
