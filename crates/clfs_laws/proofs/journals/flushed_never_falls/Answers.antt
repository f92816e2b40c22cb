use Rattle.clfs_laws.proofs.FlushedRises.{flushed_rises, journal_rises, rises_through}
use Rattle.clfs_laws.proofs.journals.flushed_never_falls.Goals as goal

pub returns-clause-step : goal.returns-clause-step
returns-clause-step c = flushed_rises c.space_laws.ensures

pub returns-clause-journal : goal.returns-clause-journal
returns-clause-journal c = λ told s t journal valid legal. journal_rises c.space_laws.ensures told s t journal legal valid

pub returns-clause-part : goal.returns-clause-part
returns-clause-part c = λ told before s t entries valid goes. rises_through c.space_laws.ensures told before s t entries goes valid
