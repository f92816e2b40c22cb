use Rattle.clfs_txn.proofs.Words.{ap, subst, ◌∙◌, ◌≡◌, ℕ, Bool, List, slice_index, TellsContents, IsKeptStore}
use Rattle.clfs_cells.specs.Table.{table_with}
use Rattle.clfs_cells_laws.specs.Tables.{numbers_of}
use Rattle.clfs_txn.proofs.store.TxnStore.get.Goals as goal

pub returns-clause-table : goal.returns-clause-table
returns-clause-table g c =
    subst (λ v. TellsContents (g.D.Disk.state v.1)
    → c.get.result ≡ slice_index (table_with v.0.log v.0.memory.stream (numbers_of v.0.memory.transactions)) c.args.cell) c.self.view_is
    (λ tells. let s = c.self.inside.table.0 in
    c.get.ensures.value ∙ ap (λ (l : List ℕ). slice_index l c.args.cell)
    (c.a_stores_cells_are_its_table.ensures.by_definition s.log s.memory
    (subst (λ (b : Bool). IsKeptStore b s.log s.memory) tells c.self.invariant)))
