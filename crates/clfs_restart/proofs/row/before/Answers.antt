use Rattle.std.proofs.Common.{◌∙◌, sym}
use Rattle.clfs_restart.proofs.Places.{before_is}
use Rattle.clfs_restart.proofs.row.before.Goals as goal

pub returns : goal.returns
returns c = c.at_place.ensures ∙ sym (before_is c.args.heads.now c.args.place c.if-place-eq0.false)
