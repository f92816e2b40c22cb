use Rattle.clfs_laws.proofs.ValidRuns.{valid_reopened, valid_journal, valid_through}
use Rattle.clfs_laws.proofs.ValidSteps.{valid_step}
use Rattle.clfs_laws.proofs.validity.steps_keep_a_state_valid.Goals as goal

pub returns-clause-step : goal.returns-clause-step
returns-clause-step c = valid_step c.space_laws.ensures

pub returns-clause-reopening : goal.returns-clause-reopening
returns-clause-reopening c = λ told s happened reply t valid step. valid_reopened told s happened reply t step valid

pub returns-clause-journal : goal.returns-clause-journal
returns-clause-journal c = λ told s t journal valid legal. valid_journal c.space_laws.ensures told s t journal legal valid

pub returns-clause-part : goal.returns-clause-part
returns-clause-part c = λ told before s t entries valid goes. valid_through c.space_laws.ensures told before s t entries goes valid
