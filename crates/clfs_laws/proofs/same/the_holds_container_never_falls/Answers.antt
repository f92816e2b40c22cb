use Rattle.clfs_laws.proofs.HoldRuns.{container_rises, reopening_rises, journal_container_rises}
use Rattle.clfs_laws.proofs.same.the_holds_container_never_falls.Goals as goal

pub returns-clause-step : goal.returns-clause-step
returns-clause-step c = container_rises c.space_laws.ensures

pub returns-clause-reopening : goal.returns-clause-reopening
returns-clause-reopening c = reopening_rises

pub returns-clause-journal : goal.returns-clause-journal
returns-clause-journal c = journal_container_rises c.space_laws.ensures
