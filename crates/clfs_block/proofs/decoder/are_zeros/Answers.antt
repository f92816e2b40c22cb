use Rattle.clfs_block.proofs.Words.{◌∙◌, ap, eqb, List, ℕ, take_all, list_all}
use Rattle.clfs_block.proofs.Zeros.{joined_more}
use Rattle.clfs_block.proofs.decoder.are_zeros.Goals as goal

pub loop-byte-preserved : goal.loop-byte-preserved
loop-byte-preserved c = joined_more c.args.bytes.now c.loop-byte.joined c.loop-byte.byte-index c.loop-byte-test.true c.loop-byte.invariant

pub returns : goal.returns
returns c =
    c.loop-byte.invariant
    ∙ ap (λ (bytes : List ℕ). list_all (λ byte. eqb byte 0) bytes) (take_all c.loop-byte.byte-index c.args.bytes.now c.loop-byte-test.false)
