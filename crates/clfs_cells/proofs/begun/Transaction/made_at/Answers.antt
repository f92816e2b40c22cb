use Rattle.clfs_cells.proofs.Words.{sym, ◌∙◌, ap, List, Some, find, Made, is_at}
use Rattle.clfs_cells.proofs.Places.{stands_at, found, absent, far}
use Rattle.clfs_cells.proofs.begun.Transaction.made_at.Goals as goal

pub returns-in_err-place : goal.returns-in_err-place
returns-in_err-place c =
    let same = c.made-made.ensures.made in
    c.from_residual.ensures
    ∙ sym (ap (λ (l : List Made). find (is_at c.args.lsn) l) (sym same)
    ∙ absent (is_at c.args.lsn) c.made-made.result.now (far (is_at c.args.lsn) c.made-made.result.now (sym c.in_err-place.ensures)))

pub returns : goal.returns
returns c =
    let same = c.made-made.ensures.made in
    let there = found (is_at c.args.lsn) c.made-made.result.now c.in_ok-place.place c.index-made-place.result
    (stands_at (is_at c.args.lsn) c.made-made.result.now c.in_ok-place.place (sym c.in_ok-place.ensures)) in
    ap (λ (made : Made). Some made) c.index-made-place.is ∙ sym (ap (λ (l : List Made). find (is_at c.args.lsn) l) (sym same) ∙ there)
