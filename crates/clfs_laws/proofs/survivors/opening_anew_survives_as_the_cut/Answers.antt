use Rattle.clfs_laws.proofs.CutSurvives.{reopening_only, reopening_survives}
use Rattle.clfs_laws.proofs.survivors.opening_anew_survives_as_the_cut.Goals as goal

pub returns-clause-only : goal.returns-clause-only
returns-clause-only c = reopening_only

pub returns-clause-itself : goal.returns-clause-itself
returns-clause-itself c = reopening_survives
