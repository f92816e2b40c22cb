use Rattle.clfs_laws.proofs.ReopenCases.{reopening_ends}
use Rattle.clfs_laws.proofs.refusals.opening_anew_ends_areas.Goals as goal

pub returns : goal.returns
returns c = reopening_ends
