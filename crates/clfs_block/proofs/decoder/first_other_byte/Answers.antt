use Rattle.clfs_block.proofs.Words.{eqb, get_or, ◌∙◌, sym, eq-eqb}
use Rattle.clfs_block.proofs.Searches.{passes_on}
use Rattle.clfs_block.proofs.Zeros.{none_other}
use Rattle.clfs_block.proofs.decoder.first_other_byte.Goals as goal

pub loop-at-preserved : goal.loop-at-preserved
loop-at-preserved c =
    passes_on (λ at. eqb (get_or c.args.bytes.now at 0) 0) c.loop-at.at c.args.end c.loop-at-test.true (eq-eqb _ 0 c.if-bytes-at-ne0.false)
    ∙ c.loop-at.invariant

pub returns-then-are_zeros : goal.returns-then-are_zeros
returns-then-are_zeros c =
    sym (none_other c.args.bytes.now c.args.from c.args.end c.requires.range c.requires.whole (sym c.are_zeros.ensures ∙ c.if-are_zeros.true))
