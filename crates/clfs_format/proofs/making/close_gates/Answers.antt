use Rattle.clfs_format.proofs.Joining.{later_from, later_then}
use Rattle.clfs_format.proofs.making.close_gates.Goals as goal

pub returns-clause-time : goal.returns-clause-time
returns-clause-time g c = later_then _ _ _ c.close_slots.ensures.time (later_from _ _ _ c.close_first.ensures.call.time)
