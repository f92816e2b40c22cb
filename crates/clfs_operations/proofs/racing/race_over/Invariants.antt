use Rattle.std.specs.Prelude.{Some}
use Rattle.clfs_operations.proofs.racing.race_over.Given as goal

abbrev pub ghosts-race_followed : goal.ghosts-race_followed
ghosts-race_followed g a = record { begun = Some a.manager.1 }
