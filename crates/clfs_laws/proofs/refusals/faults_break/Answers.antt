use Rattle.clfs_laws.proofs.Faults.{not_fine_breaks}
use Rattle.clfs_laws.proofs.ReopenCases.{reopening_breaks}
use Rattle.clfs_laws.proofs.refusals.faults_break.Goals as goal

pub returns-clause-fault : goal.returns-clause-fault
returns-clause-fault c = λ told s client call happened reply t step fault. not_fine_breaks told s client call happened reply t step (λ fine. cc)

pub returns-clause-damage : goal.returns-clause-damage
returns-clause-damage c = λ told s client call happened reply t step damage. not_fine_breaks told s client call happened reply t step (λ fine. cc)

pub returns-clause-reopening : goal.returns-clause-reopening
returns-clause-reopening c = reopening_breaks
