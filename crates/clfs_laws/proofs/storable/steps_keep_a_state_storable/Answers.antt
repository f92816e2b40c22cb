use Rattle.clfs_laws.proofs.StorableRuns.{storable_reopened, storable_journal, storable_part, kept_run}
use Rattle.clfs_laws.proofs.StorableSteps.{storable_step}
use Rattle.clfs_laws.proofs.storable.steps_keep_a_state_storable.Goals as goal

pub returns-clause-step : goal.returns-clause-step
returns-clause-step c = storable_step c.space_laws.ensures

pub returns-clause-reopening : goal.returns-clause-reopening
returns-clause-reopening c = λ told s happened reply t valid storable step. storable_reopened told s happened reply t step storable

pub returns-clause-journal : goal.returns-clause-journal
returns-clause-journal c = λ told s t journal valid storable meets legal. storable_journal c.space_laws.ensures told s t journal legal valid storable meets

pub returns-clause-part : goal.returns-clause-part
returns-clause-part c = λ told before s t entries valid storable meets goes. storable_part c.space_laws.ensures told before s t entries goes valid storable meets

pub returns-clause-run : goal.returns-clause-run
returns-clause-run c = λ told s requests happened replies t valid storable meets run.
    (kept_run c.space_laws.ensures told s requests happened replies t run meets (record { valid = valid; storable = storable })).storable
