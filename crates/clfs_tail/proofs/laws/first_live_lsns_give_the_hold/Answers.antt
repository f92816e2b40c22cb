use Rattle.std.proofs.Common.{sym, ◌∙◌}
use Rattle.clfs_tail.proofs.Leasts.{least_first_is}
use Rattle.clfs_tail.proofs.Holds.{hold_by_firsts, hold_by_heads}
use Rattle.clfs_tail.proofs.laws.first_live_lsns_give_the_hold.Goals as goal

pub returns : goal.returns
returns c = λ end archive firsts bases heads are.
    sym (hold_by_firsts end archive _ firsts (least_first_is firsts)) ∙ hold_by_heads end archive _ bases heads firsts are (least_first_is firsts)
