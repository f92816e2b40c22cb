use Rattle.clfs_share.specs.Left.{HasDeleted}
use Rattle.clfs_share.proofs.leaving.leave.Given as goal

abbrev pub invariant-loop-number : goal.invariant-loop-number
invariant-loop-number g l = HasDeleted l.number l.fn.session l.session
