use Rattle.std.specs.Prelude.{[]}
use Rattle.clfs_shared.proofs.told.none.Given as goal

abbrev pub ghost-pick : goal.ghost-pick
ghost-pick a = []
