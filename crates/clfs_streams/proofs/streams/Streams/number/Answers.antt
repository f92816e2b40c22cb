use Rattle.std.proofs.Common.{◌∙◌}
use Rattle.clfs_streams.proofs.Rows.{number_found}
use Rattle.clfs_streams.proofs.streams.Streams.number.Goals as goal

pub returns-in_err-place : goal.returns-in_err-place
returns-in_err-place c =
    let found = number_found c.args.self.now c.args.name.now c.self.inside.rows.entries _ c.get_index_of.result c.self.view_is
    c.get_index_of.ensures.index in
    c.from_residual.ensures ∙ (rw c.in_err-place.was at found)

pub returns : goal.returns
returns c =
    let found = number_found c.args.self.now c.args.name.now c.self.inside.rows.entries _ c.get_index_of.result c.self.view_is
    c.get_index_of.ensures.index in
    rw c.in_ok-place.was at found
