use Rattle.clfs_cells.proofs.Words.{◌∙◌, sym, ap, ℕ, option_map, Transaction}
use Rattle.std.specs.Prelude.{find, Some, List, Option}
use Rattle.clfs_cells.specs.Stored.{is_holder}
use Rattle.clfs_cells.specs.declared.begun.Transaction.{Transaction as Code}
use Rattle.clfs_cells.proofs.OpenOnes.{found_at, none_at}
use Rattle.clfs_cells.proofs.memory.Memory.holder.Goals as goal

abbrev numbered : Option Transaction → Option ℕ
numbered found = option_map (λ (t : Transaction). t.number) found

pub returns-in_err-place : goal.returns-in_err-place
returns-in_err-place c =
    c.from_residual.ensures
    ∙ sym (ap (λ (l : List Transaction). numbered (find (is_holder c.args.number c.args.cell) l)) (sym c.open_transactions-open.ensures.transactions)
    ∙ ap numbered (none_at (is_holder c.args.number c.args.cell) c.open_transactions-open.result.now c.place_of_holder.result c.place_of_holder.ensures c.in_err-place.was))

pub returns : goal.returns
returns c =
    ap (λ (n : ℕ). Some n) c.number.ensures
    ∙ ap (λ (t : Code). Some t.number) c.index-open-place.is
    ∙ sym (ap (λ (l : List Transaction). numbered (find (is_holder c.args.number c.args.cell) l)) (sym c.open_transactions-open.ensures.transactions)
    ∙ ap numbered (found_at (is_holder c.args.number c.args.cell) c.open_transactions-open.result.now c.place_of_holder.result c.in_ok-place.place c.index-open-place.result c.place_of_holder.ensures c.in_ok-place.was))
