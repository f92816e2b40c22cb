use Rattle.clfs_laws.proofs.CutSteps.{cut_step, fine_run}
use Rattle.clfs_laws.proofs.runs.opening_anew_comes_to_the_cut.Goals as goal

pub returns-clause-step : goal.returns-clause-step
returns-clause-step c = cut_step

pub returns-clause-run : goal.returns-clause-run
returns-clause-run c = fine_run c.space_laws.ensures c.calm_replies_are_a_run.ensures
