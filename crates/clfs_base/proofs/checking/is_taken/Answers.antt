use Rattle.clfs_base.proofs.Words.{ℕ, List, sym, ◌∙◌, ap, arith, bytes_eq, Row, name_in, row_of}
use Rattle.clfs_base.proofs.Places.{none_passes}
use Rattle.clfs_base.proofs.Earlier.{one_passes}
use Rattle.clfs_base.proofs.checking.is_taken.Goals as goal

pub returns-then-eq : goal.returns-then-eq
returns-then-eq c =
    let i = c.loop-i.i in
    let bytes = c.args.bytes.now in
    let layout = c.args.layout.now in
    let name = c.args.name.now in
    sym (one_passes (λ (row : Row). bytes_eq row.name name) (row_of layout bytes) c.args.count i c.loop-i-test.true
    (ap (λ (at : ℕ). bytes_eq (name_in bytes at) name) (sym c.row_place.ensures) ∙ ap (λ (l : List ℕ). bytes_eq l name) (sym c.name_in.ensures)
    ∙ sym c.eq.ensures ∙ c.if-eq.true))

pub returns : goal.returns
returns c =
    let layout = c.args.layout.now in
    sym (none_passes (λ (row : Row). bytes_eq row.name c.args.name.now) (row_of layout c.args.bytes.now) 0 c.args.count
    (λ k le lt. c.loop-i.invariant k (omega (arith, lt, c.loop-i-test.false))))
