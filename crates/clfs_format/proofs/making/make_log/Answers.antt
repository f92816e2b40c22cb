use Rattle.std.proofs.Common.{◌∙◌}
use Rattle.clfs_format.proofs.making.make_log.Goals as goal

pub fill_disk-requires-clause-body : goal.fill_disk-requires-clause-body
fill_disk-requires-clause-body g c = c.deref.ensures.value ∙ c.in_ok-body.ensures
