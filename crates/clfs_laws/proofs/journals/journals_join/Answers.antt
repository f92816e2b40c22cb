use Rattle.std.specs.Prelude.{[]}
use Rattle.clfs_laws.proofs.JournalChains.{joined, steps_join, are_steps}
use Rattle.clfs_laws.proofs.journals.journals_join.Goals as goal

pub returns-clause-steps : goal.returns-clause-steps
returns-clause-steps c = steps_join

pub returns-clause-legal : goal.returns-clause-legal
returns-clause-legal c = λ told s mid t front rest legal goes. joined told [] s mid t front rest legal goes

pub returns-clause-of_steps : goal.returns-clause-of_steps
returns-clause-of_steps c = λ told s t journal legal. are_steps told [] s t journal legal
