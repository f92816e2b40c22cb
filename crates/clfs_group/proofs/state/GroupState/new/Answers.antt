use Rattle.clfs_group.proofs.Refused.{not_memory}
use Rattle.clfs_group.proofs.state.GroupState.new.Goals as goal

pub returns-in-Refused-clause-asked : goal.returns-in-Refused-clause-asked
returns-in-Refused-clause-asked g c = λ other. c.in-Refused.ensures.step (not_memory c.in-Refused.cause other)
