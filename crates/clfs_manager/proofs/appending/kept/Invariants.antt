use Rattle.clfs_manager.proofs.appending.kept.Given as goal

abbrev pub ghost-next : goal.ghost-next
ghost-next a = a.self.now.value
