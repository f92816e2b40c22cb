use Rattle.clfs_laws.proofs.FewExtents.{few_extents, few_told}
use Rattle.clfs_laws.proofs.validity.extents_are_few.Goals as goal

pub returns-clause-state : goal.returns-clause-state
returns-clause-state c = few_extents

pub returns-clause-step : goal.returns-clause-step
returns-clause-step c = few_told
