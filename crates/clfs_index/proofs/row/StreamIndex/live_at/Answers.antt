use Rattle.std.proofs.Common.{sym}
use Rattle.clfs_index.proofs.Places.{at_below_base}
use Rattle.clfs_index.proofs.Rows.{is_less, is_not_less, live_is}
use Rattle.clfs_index.proofs.row.StreamIndex.live_at.Goals as goal

pub returns-then-lt-clause-head : goal.returns-then-lt-clause-head
returns-then-lt-clause-head c =
    rw (← c.self.view_is) (sym (at_below_base c.self.inside.base c.args.lsn c.self.inside.heads.items
    (is_less _ _ _ c.lt.ensures c.if-lt.true)))

pub returns-clause-head : goal.returns-clause-head
returns-clause-head c =
    live_is c.args.self.now _ _ c.args.lsn _ _ c.self.view_is (is_not_less _ _ _ c.lt.ensures c.if-lt.false) c.at.ensures.head
