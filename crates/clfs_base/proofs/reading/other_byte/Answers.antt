use Rattle.clfs_base.proofs.Words.{Bool, sym, ap, ◌∙◌, told, is_other}
use Rattle.clfs_base.proofs.Searches.{passes_on, found_here, ends_here}
use Rattle.clfs_base.proofs.reading.other_byte.Goals as goal

pub loop-at-preserved : goal.loop-at-preserved
loop-at-preserved c =
    let at = c.loop-at.at in
    passes_on (λ k. told (is_other c.args.bytes.now k) k) at c.args.end c.loop-at-test.true
    (ap (λ (b : Bool). told b at) (sym c.is_other.ensures ∙ c.if-is_other.false)) ∙ c.loop-at.invariant

pub returns-then-is_other : goal.returns-then-is_other
returns-then-is_other c =
    let at = c.loop-at.at in
    sym (found_here (λ k. told (is_other c.args.bytes.now k) k) at c.args.end at c.loop-at-test.true
    (ap (λ (b : Bool). told b at) (sym c.is_other.ensures ∙ c.if-is_other.true))) ∙ c.loop-at.invariant

pub returns : goal.returns
returns c = sym (ends_here (λ k. told (is_other c.args.bytes.now k) k) c.loop-at.at c.args.end c.loop-at-test.false) ∙ c.loop-at.invariant
