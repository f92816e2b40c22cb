use Rattle.std.proofs.Common.{◌∙◌, sym}
use Rattle.clfs_index.proofs.Rows.{at_is}
use Rattle.clfs_index.proofs.row.StreamIndex.at.Goals as goal

pub returns-in_err-found-clause-head : goal.returns-in_err-found-clause-head
returns-in_err-found-clause-head c =
    let is = at_is c.args.self.now _ _ c.args.lsn c.place_at.result c.self.inside.heads.items _ _ _
    (record { view = c.self.view_is; same_searched = c.deref-2.ensures.value; same_taken = c.deref.ensures.value })
    c.self.invariant c.place_at.ensures c.found_at.ensures.head in
    rw c.from_residual.ensures (rw c.in_err-found.was at is)

pub returns-then-eq-clause-head : goal.returns-then-eq-clause-head
returns-then-eq-clause-head c =
    let is = at_is c.args.self.now _ _ c.args.lsn c.place_at.result c.self.inside.heads.items _ _ _
    (record { view = c.self.view_is; same_searched = c.deref-2.ensures.value; same_taken = c.deref.ensures.value })
    c.self.invariant c.place_at.ensures c.found_at.ensures.head in
    let found = rw c.in_ok-found.was at is in
    let same = sym c.eq.ensures ∙ c.if-eq.true in
    rw same at found

pub returns-else-eq-clause-head : goal.returns-else-eq-clause-head
returns-else-eq-clause-head c =
    let is = at_is c.args.self.now _ _ c.args.lsn c.place_at.result c.self.inside.heads.items _ _ _
    (record { view = c.self.view_is; same_searched = c.deref-2.ensures.value; same_taken = c.deref.ensures.value })
    c.self.invariant c.place_at.ensures c.found_at.ensures.head in
    let found = rw c.in_ok-found.was at is in
    let other = sym c.eq.ensures ∙ c.if-eq.false in
    rw other at found
