use Rattle.clfs_laws.proofs.CutSurvives.{survives_before, survives_after, bad_line_survives}
use Rattle.clfs_laws.proofs.survivors.the_cut_survives.Goals as goal

pub returns-clause-before : goal.returns-clause-before
returns-clause-before c = survives_before c.space_laws.ensures

pub returns-clause-after : goal.returns-clause-after
returns-clause-after c = survives_after c.space_laws.ensures

pub returns-clause-bad_line : goal.returns-clause-bad_line
returns-clause-bad_line c = bad_line_survives
