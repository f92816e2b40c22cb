use Rattle.clfs_cells_laws.proofs.Settled.{commit_joins}
use Rattle.clfs_cells_laws.proofs.tables.a_commit_joins_the_table.Goals as goal

pub returns : goal.returns
returns c = commit_joins
