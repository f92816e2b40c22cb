use Rattle.clfs_base.proofs.Words.{◌*◌, ◌≤◌, ℕ, length, replicate, sym, subst, ap, ◌∙◌}
use Rattle.clfs_base.proofs.Filling.{rows_more}
use Rattle.clfs_base.proofs.encoder.put_rows.Goals as goal

pub loop-i-init : goal.loop-i-init
loop-i-init c = c.clear.ensures ∙ ap (λ (k : ℕ). replicate k 0) c.requires.length

pub loop-i-preserved : goal.loop-i-preserved
loop-i-preserved c =
    let few : c.row_bytes-width.result * length c.args.rows.now ≤ 15808 =
    subst (λ (w : ℕ). w * length c.args.rows.now ≤ 15808) (sym c.row_bytes-width.ensures) c.requires.few in
    rows_more c.args.layout.now.longest_name c.row_bytes-width.result c.args.rows.now c.index-rows-i.result c.loop-i.i c.loop-i.out c.put_row.new.out
    c.row_bytes-width.ensures few c.requires.names c.loop-i-test.true c.index-rows-i.is c.loop-i.invariant c.put_row.ensures
