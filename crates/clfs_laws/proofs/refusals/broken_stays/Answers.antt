use Rattle.clfs_laws.proofs.ReopenCases.{reopening_broken}
use Rattle.clfs_laws.proofs.StepCases.{broken_step}
use Rattle.clfs_laws.proofs.refusals.broken_stays.Goals as goal

pub returns-clause-calls : goal.returns-clause-calls
returns-clause-calls c = broken_step

pub returns-clause-reopening : goal.returns-clause-reopening
returns-clause-reopening c = reopening_broken
