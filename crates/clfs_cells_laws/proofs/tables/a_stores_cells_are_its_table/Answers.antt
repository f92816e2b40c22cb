use Rattle.clfs_cells_laws.proofs.FromLoading.{at_rest, by_its_table, by_table}
use Rattle.clfs_cells_laws.proofs.Words.{refl}
use Rattle.clfs_cells_laws.proofs.Settled.{table_settled}
use Rattle.clfs_cells_laws.proofs.tables.a_stores_cells_are_its_table.Goals as goal

pub returns : goal.returns
returns c = record {
  cells = λ log memory store. by_table log memory store;
  by_definition = by_its_table;
  table = λ log memory cell store. table_settled log memory cell store;
  at_rest = λ log memory store none. at_rest log memory store none;
}
