use Rattle.clfs_index.proofs.Rows.{is_less, is_not_less, above_is_first, above_is}
use Rattle.clfs_index.proofs.row.StreamIndex.above.Goals as goal

pub returns-then-lt-clause-head : goal.returns-then-lt-clause-head
returns-then-lt-clause-head c =
    above_is_first c.args.self.now _ _ c.args.lsn c.place_of.result c.self.inside.heads.items _ _ _
    (record { view = c.self.view_is; same_searched = c.deref-then-lt.ensures.value; same_taken = c.deref.ensures.value })
    (is_less _ _ _ c.lt.ensures c.if-lt.true) c.place_of.ensures c.found_at.ensures.head

pub returns-clause-head : goal.returns-clause-head
returns-clause-head c =
    above_is c.args.self.now _ _ c.args.lsn c.place_above.result c.self.inside.heads.items _ _ _
    (record { view = c.self.view_is; same_searched = c.deref-3.ensures.value; same_taken = c.deref-2.ensures.value })
    (is_not_less _ _ _ c.lt.ensures c.if-lt.false) c.place_above.ensures c.found_at-2.ensures.head
