use Rattle.std.specs.Prelude.{◌≤◌}
use Rattle.clfs_laws.proofs.Words.{All-from_recursion, LogEntry, flushed}
use Rattle.clfs_laws.proofs.SurvivingRecords.{survivor_begins, survivor_has_restarts}
use Rattle.clfs_laws.proofs.survivors.survivors_keep_what_was_flushed.Goals as goal

pub returns-clause-records : goal.returns-clause-records
returns-clause-records c = λ told s t x client call reply valid step survives.
    let begins = survivor_begins told s t x client call reply valid step survives in
    (begins.more, begins.is, All-from_recursion (λ (entry : LogEntry). flushed s ≤ entry.lsn) begins.more begins.above)

pub returns-clause-restart_areas : goal.returns-clause-restart_areas
returns-clause-restart_areas c = survivor_has_restarts
