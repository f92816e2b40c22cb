use Rattle.clfs_laws.proofs.HeldRuns.{held_is}
use Rattle.clfs_laws.proofs.areas.held_is_by_own_entries.Goals as goal

pub returns : goal.returns
returns c = held_is
