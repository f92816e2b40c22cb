use Rattle.clfs_told.proofs.told.Told.next.Given as goal

abbrev pub ghost-pick : goal.ghost-pick
ghost-pick g a = g.picked
