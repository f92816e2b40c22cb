use Rattle.clfs_model.proofs.CalmRuns.{calm_run}
use Rattle.clfs_model.proofs.laws.calm_replies_are_a_run.Goals as goal

pub returns : goal.returns
returns c = calm_run
