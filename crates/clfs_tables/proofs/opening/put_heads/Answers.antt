use Rattle.std.proofs.Common.{◌∙◌, arith}
use Rattle.clfs_tables.proofs.Tabling.{heads_before, no_bases}
use Rattle.clfs_tables.proofs.opening.put_heads.Goals as goal

pub put-requires-clause-above : goal.put-requires-clause-above
put-requires-clause-above c =
    rw (c.reserve.ensures.same.heads ∙ c.loop-head.invariant.0)
    (heads_before c.args.heads.now c.loop-head.head-index c.head-item.result c.requires.opened.rising c.loop-head-test.true c.head-item.is)

pub put-requires-clause-live : goal.put-requires-clause-live
put-requires-clause-live c =
    rw (c.reserve.ensures.same.streams ∙ c.loop-head.invariant.1 ∙ c.requires.streams, no_bases c.args.rows.now c.head-item.result.stream) (omega arith)
