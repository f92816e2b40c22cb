use Rattle.clfs_cells.proofs.Words.{◌∙◌, sym, ap, option_map, transaction_of, Transaction, is_numbered}
use Rattle.std.specs.Prelude.{find, Some, List}
use Rattle.clfs_cells.specs.declared.begun.Transaction.{Transaction as Code}
use Rattle.clfs_cells.proofs.OpenOnes.{found_at, none_at}
use Rattle.clfs_cells.proofs.memory.Memory.transaction.Goals as goal

pub returns-in_err-place : goal.returns-in_err-place
returns-in_err-place c =
    ap (option_map transaction_of) c.from_residual.ensures
    ∙ sym (ap (λ (l : List Transaction). find (is_numbered c.args.number) l) (sym c.open_transactions-open.ensures.transactions)
    ∙ none_at (is_numbered c.args.number) c.open_transactions-open.result.now c.place_of.result c.place_of.ensures c.in_err-place.was)

pub returns : goal.returns
returns c =
    ap (λ (t : Code). Some (transaction_of t)) c.index-open-place.is
    ∙ sym (ap (λ (l : List Transaction). find (is_numbered c.args.number) l) (sym c.open_transactions-open.ensures.transactions)
    ∙ found_at (is_numbered c.args.number) c.open_transactions-open.result.now c.place_of.result c.in_ok-place.place c.index-open-place.result c.place_of.ensures c.in_ok-place.was)
