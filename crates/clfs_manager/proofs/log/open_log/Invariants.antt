use Rattle.clfs_manager.proofs.Words.{state_of, told_parts}
use Rattle.clfs_manager.proofs.log.open_log.Given as goal

abbrev pub ghost-pick : goal.ghost-pick
ghost-pick a = state_of (told_parts a.with.now.0.now) a.with.now.1
