use Rattle.std.proofs.Common.{◌≡◌, ◌∙◌}
use Rattle.std.specs.Option.{unwrap_or}
use Rattle.clfs_lsn.specs.Place.{frontier}
use Rattle.clfs_tail.specs.Tree.{lesser, least_at}
use Rattle.clfs_tail.proofs.Leasts.{root_is_least}
use Rattle.clfs_tail.proofs.Holds.{hold_by_firsts, hold_by_heads}
use Rattle.clfs_tail.proofs.tail.LogTail.hold.Goals as goal

abbrev pub by_root : (c : goal.After-unwrap_or)
    → c.unwrap_or.result ≡ unwrap_or (lesser c.args.archive (least_at c.self.inside.nodes.items 0)) (frontier c.args.place.now)
by_root c = rw (c.unwrap_or.ensures, c.lesser.ensures, c.frontier.ensures, c.least_at.ensures, c.deref.ensures.value)

pub returns-clause-least : goal.returns-clause-least
returns-clause-least c =
    rw (← c.self.view_is) (by_root c
    ∙ hold_by_firsts (frontier c.args.place.now) c.args.archive _ _ (root_is_least c.self.inside.nodes.items c.self.invariant))

pub returns-clause-hold : goal.returns-clause-hold
returns-clause-hold c = λ bases heads are. by_root c
    ∙ hold_by_heads (frontier c.args.place.now) c.args.archive _ bases heads _ (rw (← c.self.view_is) at are) (root_is_least c.self.inside.nodes.items c.self.invariant)
