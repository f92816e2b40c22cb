use Rattle.clfs_cells.proofs.Words.{◌∙◌, ap, ◌∷◌, ◌++◌, [], false, transaction_of, Made, Transaction, ℕ}
use Rattle.clfs_cells.proofs.OpenOnes.{set_is}
use Rattle.clfs_cells.proofs.memory.Memory.set.Goals as goal

pub returns : goal.returns
returns c =
    let t = transaction_of c.args.t.now in
    let next = c.with_set.ensures
    ∙ ap (λ (n : ℕ). let made : Made = record { lsn = c.args.lsn; undo_next = n; change = c.args.change; undone = false } in
    let x : Transaction = record t { made = t.made ++ made ∷ []; last = c.args.lsn } in x) c.newest_standing.ensures in
    set_is c.args.self.now c.replace.new.self c.set_cell.new.self t (transaction_of c.with_set.result) c.args.change c.args.lsn c.requires.there next
    c.replace.ensures c.set_cell.ensures
