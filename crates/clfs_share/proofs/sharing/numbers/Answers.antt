use Rattle.std.proofs.Common.{◌∙◌}
use Rattle.clfs_share.proofs.Numbers.{numbers_more}
use Rattle.clfs_share.proofs.sharing.numbers.Goals as goal

pub loop-number-preserved : goal.loop-number-preserved
loop-number-preserved c = c.in_ok-push.ensures.items ∙ numbers_more c.loop-number.number c.loop-number.numbers.items c.loop-number.invariant
