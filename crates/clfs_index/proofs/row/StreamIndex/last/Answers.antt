use Rattle.clfs_index.proofs.Rows.{is_less, is_not_less, last_is, last_is_dead}
use Rattle.clfs_index.proofs.row.StreamIndex.last.Goals as goal

pub returns-then-lt : goal.returns-then-lt
returns-then-lt c =
    let got = rw c.in_ok-last.was at c.last.ensures.value in
    last_is_dead c.args.self.now _ _ c.self.inside.heads.items _ c.in_ok-last.field-0.now c.self.view_is c.deref.ensures.value c.self.invariant got
    (is_less _ _ _ c.lt.ensures c.if-lt.true)

pub returns-else-lt : goal.returns-else-lt
returns-else-lt c =
    let got = rw c.in_ok-last.was at c.last.ensures.value in
    last_is c.args.self.now _ _ c.self.inside.heads.items _ c.in_ok-last.field-0.now c.self.view_is c.deref.ensures.value got
    (is_not_less _ _ _ c.lt.ensures c.if-lt.false)
