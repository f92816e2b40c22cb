use Rattle.clfs_base.proofs.Words.{◌≡◌, ◌+◌, ◌∷◌, ◌++◌, [], ℕ, List, sym, ap, ◌∙◌, arith, map-range_with_len_more, Row, number_at, row_of, rows_of, name_in}
use Rattle.clfs_base.proofs.decoder.read_rows.Goals as goal

abbrev same_row : List ℕ → ℕ → Row
same_row bytes at = record { name = name_in bytes at; base = number_at (at + 8) 8 bytes }

pub loop-i-preserved : goal.loop-i-preserved
loop-i-preserved c =
    let i = c.loop-i.i in
    let layout = c.args.layout.now in
    let bytes = c.args.bytes.now in
    c.in_ok-push.ensures ∙ ap (λ (l : List Row). l ++ c.in_ok-row.row ∷ []) c.loop-i.invariant
    ∙ ap (λ (r : Row). rows_of layout bytes i ++ r ∷ [])
    (c.in_ok-row.ensures ∙ ap (λ (at : ℕ). same_row bytes at) c.row_place.ensures)
    ∙ sym (map-range_with_len_more (row_of layout bytes) 0 i i (omega arith))

pub returns : goal.returns
returns c =
    let last : c.loop-i.i ≡ c.args.count = omega (arith, c.loop-i-test.false, c.loop-i.auto.i-end) in
    c.from_vec.ensures ∙ c.loop-i.invariant ∙ ap (rows_of c.args.layout.now c.args.bytes.now) last
