use Rattle.clfs_laws.proofs.SameRuns.{reopening_alike, runs_alike}
use Rattle.clfs_laws.proofs.SameSteps.{refusal_same, disk_same, steps_alike}
use Rattle.clfs_laws.proofs.same.the_same_answer_alike.Goals as goal

pub returns-clause-refusal : goal.returns-clause-refusal
returns-clause-refusal c = refusal_same

pub returns-clause-disk : goal.returns-clause-disk
returns-clause-disk c = disk_same

pub returns-clause-step : goal.returns-clause-step
returns-clause-step c = steps_alike c.space_laws.ensures

pub returns-clause-reopening : goal.returns-clause-reopening
returns-clause-reopening c = reopening_alike

pub returns-clause-run : goal.returns-clause-run
returns-clause-run c = runs_alike c.space_laws.ensures
