use Rattle.clfs_space.proofs.Steps.{growth-Some, growth-None}
use Rattle.clfs_space.proofs.laws.growth_is_the_least_step_that_is_enough.Goals as goal

pub returns-clause-some : goal.returns-clause-some
returns-clause-some c = growth-Some

pub returns-clause-none : goal.returns-clause-none
returns-clause-none c = growth-None
