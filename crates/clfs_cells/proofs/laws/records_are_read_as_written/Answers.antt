use Rattle.clfs_cells.proofs.Actions.{written}
use Rattle.clfs_cells.proofs.laws.records_are_read_as_written.Goals as goal

pub returns-clause-written : goal.returns-clause-written
returns-clause-written c = λ bytes r fits is. written bytes r fits is
