use Rattle.clfs_manager.proofs.Words.{with_more_held, change_area}
use Rattle.clfs_manager.proofs.log.Log.hold_sizes.Given as goal

abbrev pub ghost-next : goal.ghost-next
ghost-next a = change_area (with_more_held a.with.now.2) a.with.now.0 a.with.now.1 a.self.now.value
