use Rattle.clfs_recover.proofs.Words.{[]}
use Rattle.clfs_recover.proofs.parts.no_entries.Given as goal

abbrev pub ghost-pick : goal.ghost-pick
ghost-pick a = []
