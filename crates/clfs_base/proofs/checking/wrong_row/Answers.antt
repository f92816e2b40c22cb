use Rattle.clfs_base.proofs.Words.{sym, ◌∙◌, row_place, row_fault, rows_of}
use Rattle.clfs_base.proofs.Searches.{passes_on, found_here, ends_here}
use Rattle.clfs_base.proofs.checking.wrong_row.Goals as goal

pub returns-in-Some : goal.returns-in-Some
returns-in-Some c =
    let layout = c.args.layout.now in
    let bytes = c.args.bytes.now in
    sym (found_here (λ k. row_fault layout bytes (row_place layout k) (rows_of layout bytes k)) c.loop-i.i c.args.count c.in-Some.at c.loop-i-test.true
    (sym c.row_fault.ensures ∙ c.in-Some.is)) ∙ c.loop-i.invariant

pub loop-i-preserved : goal.loop-i-preserved
loop-i-preserved c =
    let layout = c.args.layout.now in
    let bytes = c.args.bytes.now in
    passes_on (λ k. row_fault layout bytes (row_place layout k) (rows_of layout bytes k)) c.loop-i.i c.args.count c.loop-i-test.true
    (sym c.row_fault.ensures ∙ c.in_default.is) ∙ c.loop-i.invariant

pub returns : goal.returns
returns c =
    let layout = c.args.layout.now in
    let bytes = c.args.bytes.now in
    sym (ends_here (λ k. row_fault layout bytes (row_place layout k) (rows_of layout bytes k)) c.loop-i.i c.args.count c.loop-i-test.false)
    ∙ c.loop-i.invariant
