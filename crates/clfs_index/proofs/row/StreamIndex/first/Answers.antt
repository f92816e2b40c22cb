use Rattle.std.proofs.Common.{◌∙◌}
use Rattle.clfs_index.proofs.Rows.{first_is}
use Rattle.clfs_index.proofs.row.StreamIndex.first.Goals as goal

pub returns-in_err-found : goal.returns-in_err-found
returns-in_err-found c =
    let is = first_is c.args.self.now _ _ c.place_of.result c.self.inside.heads.items _ _ _
    (record { view = c.self.view_is; same_searched = c.deref-2.ensures.value; same_taken = c.deref.ensures.value }) c.place_of.ensures c.found_at.ensures.head in
    c.from_residual.ensures ∙ (rw c.in_err-found.was at is)

pub returns : goal.returns
returns c =
    let is = first_is c.args.self.now _ _ c.place_of.result c.self.inside.heads.items _ _ _
    (record { view = c.self.view_is; same_searched = c.deref-2.ensures.value; same_taken = c.deref.ensures.value }) c.place_of.ensures c.found_at.ensures.head in
    rw c.in_ok-found.was at is
