use Rattle.clfs_cells.proofs.Words.{ap, arith, List, length-take, Made, transaction_of, Transaction}
use Rattle.clfs_cells.proofs.Undoing.{written}
use Rattle.clfs_cells.proofs.begun.Transaction.with_undone_at.Goals as goal

pub returns : goal.returns
returns c = λ made is.
    ap (λ (l : List Made). let x : Transaction = record (transaction_of c.args.self.now) { made = l } in x)
    (written c.args.self.now.sets c.args.self.now.count c.args.place c.index-next-place.result made
    (omega (arith, length-take c.args.self.now.count c.args.self.now.sets)) is)
