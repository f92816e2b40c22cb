use Rattle.clfs_base.proofs.Words.{length, sym, ◌∙◌, arith, ext_get_or, length-replicate, get_or-replicate}
use Rattle.clfs_base.proofs.encoder.clear.Goals as goal

pub returns : goal.returns
returns c =
    let n = length c.args.out.now in
    ext_get_or 0 c.loop-byte.out _ (c.loop-byte.auto.out ∙ sym (length-replicate n 0))
    (λ i lt. c.loop-byte.invariant i (omega (arith, lt, c.loop-byte.auto.out, c.loop-byte-test.false))
    ∙ sym (get_or-replicate n i 0 0 (omega (arith, lt, c.loop-byte.auto.out))))
