use Rattle.clfs_cells.proofs.Words.{transaction_of}
use Rattle.clfs_cells.proofs.OpenOnes.{undo_is}
use Rattle.clfs_cells.proofs.memory.Memory.undo.Goals as goal

pub returns : goal.returns
returns c =
    undo_is c.args.self.now c.replace.new.self c.set_cell.new.self (transaction_of c.args.t.now) (transaction_of c.with_undone.result) c.args.made.now
    c.args.lsn c.requires c.with_undone.ensures c.replace.ensures c.set_cell.ensures
