use Rattle.clfs_laws.proofs.FoundRecords.{read_finds, restart_finds}
use Rattle.clfs_laws.proofs.steps.reads_find_records.Goals as goal

pub returns-clause-records : goal.returns-clause-records
returns-clause-records c = read_finds

pub returns-clause-restart_areas : goal.returns-clause-restart_areas
returns-clause-restart_areas c = restart_finds
