use Rattle.clfs_base.proofs.Words.{◌*◌, get_or, refl, sym, ◌∙◌, arith, number_bytes}
use Rattle.clfs_base.proofs.Filling.{put_more, length-pieces}
use Rattle.clfs_base.proofs.encoder.put_files.Goals as goal

pub loop-i-preserved : goal.loop-i-preserved
loop-i-preserved c =
    let i = c.loop-i.i in
    let files = c.args.files.now in
    c.put.ensures
    ∙ put_more number_bytes files (get_or files i 0) 0 i 512 (2 * i) 2 c.loop-i.out c.loop-i-test.true refl refl c.loop-i.invariant
    (sym (length-pieces number_bytes 2 0 files i c.loop-i.auto.i-end (λ k lt. refl)))
    (omega (arith, c.requires.few, c.loop-i-test.true))
