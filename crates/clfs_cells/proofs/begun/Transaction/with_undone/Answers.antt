use Rattle.clfs_cells.proofs.Words.{sym, ◌∙◌, ap, List, position, transaction_of, Made, Transaction, is_at}
use Rattle.clfs_cells.proofs.Undoing.{set_there, inside, undone_there, undone_nowhere}
use Rattle.clfs_cells.proofs.begun.Transaction.with_undone.Goals as goal

pub returns-in-Some : goal.returns-in-Some
returns-in-Some c =
    let t = transaction_of c.args.self.now in
    let is = ap (λ (l : List Made). position (is_at c.args.lsn) l) (sym c.made.ensures.made) ∙ sym c.in-Some.ensures in
    c.with_last.ensures
    ∙ ap (λ (x : Transaction). let y : Transaction = record x { last = c.args.at } in y)
    (c.with_undone_at.ensures _ (set_there t.made c.in-Some.place (inside t.made c.args.lsn c.in-Some.place is)))
    ∙ undone_there t c.args.lsn c.args.at c.in-Some.place is

pub returns-in-None : goal.returns-in-None
returns-in-None c = c.with_last-in-None.ensures ∙ undone_nowhere (transaction_of c.args.self.now) c.args.lsn c.args.at
    (ap (λ (l : List Made). position (is_at c.args.lsn) l) (sym c.made.ensures.made) ∙ sym c.in-None.ensures)
