use Rattle.clfs_laws.proofs.Words.{RestartAreas}
use Rattle.clfs_laws.proofs.ReadCalls.{restart_first, restart_none, reads_next, reads_end}
use Rattle.clfs_laws.proofs.reading.restart_areas_come_newest_first.Goals as goal

pub returns-clause-first : goal.returns-clause-first
returns-clause-first c = restart_first

pub returns-clause-none : goal.returns-clause-none
returns-clause-none c = restart_none

pub returns-clause-next : goal.returns-clause-next
returns-clause-next c = λ told s t client number cursor entry rest reply valid whole given step memory.
    reads_next told s t client number cursor RestartAreas entry rest reply valid whole given step memory

pub returns-clause-end : goal.returns-clause-end
returns-clause-end c = λ told s t client number cursor reply valid whole given step memory.
    reads_end told s t client number cursor RestartAreas reply valid whole given step memory
