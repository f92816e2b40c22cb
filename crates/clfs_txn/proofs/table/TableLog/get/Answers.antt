use Rattle.clfs_txn.proofs.Words.{ap, ◌∙◌, slice_index}
use Rattle.clfs_txn.proofs.Begun.{told_value}
use Rattle.clfs_txn.proofs.table.TableLog.get.Goals as goal

pub returns-clause-step : goal.returns-clause-step
returns-clause-step g c = λ told.
    told_value told c.args.self.now.0 c.args.cell c.cell.result (c.cell.ensures ∙ ap (λ v. slice_index v.0.memory.cells c.args.cell) c.self.view_is)
