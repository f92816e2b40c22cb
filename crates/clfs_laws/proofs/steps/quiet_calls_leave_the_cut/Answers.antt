use Rattle.clfs_laws.proofs.Quiet.{quiet_step}
use Rattle.clfs_laws.proofs.steps.quiet_calls_leave_the_cut.Goals as goal

pub returns : goal.returns
returns c = quiet_step c.space_laws.ensures
