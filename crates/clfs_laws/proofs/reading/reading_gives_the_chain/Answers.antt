use Rattle.clfs_laws.proofs.Words.{Forward, Records}
use Rattle.clfs_laws.proofs.ReadCalls.{read_first, read_none, reads_next, reads_end, reads_start}
use Rattle.clfs_laws.proofs.reading.reading_gives_the_chain.Goals as goal

pub returns-clause-first : goal.returns-clause-first
returns-clause-first c = read_first

pub returns-clause-none : goal.returns-clause-none
returns-clause-none c = read_none

pub returns-clause-next : goal.returns-clause-next
returns-clause-next c = λ told s t client number cursor mode entry rest reply valid whole given step memory.
    reads_next told s t client number cursor (Records mode) entry rest reply valid whole given step memory

pub returns-clause-end_of_log : goal.returns-clause-end_of_log
returns-clause-end_of_log c = λ told s t client number cursor reply valid whole given step memory.
    reads_end told s t client number cursor (Records Forward) reply valid whole given step memory

pub returns-clause-start_of_log : goal.returns-clause-start_of_log
returns-clause-start_of_log c = reads_start
