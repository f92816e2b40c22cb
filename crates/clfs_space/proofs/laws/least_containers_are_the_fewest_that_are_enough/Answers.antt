use Rattle.clfs_space.proofs.Fewest.{fewest}
use Rattle.clfs_space.proofs.laws.least_containers_are_the_fewest_that_are_enough.Goals as goal

pub returns : goal.returns
returns c = fewest
