use Rattle.clfs_laws.proofs.CallStages as stages
use Rattle.clfs_laws.proofs.stages.states_between_survive.Goals as goal

pub returns-clause-append : goal.returns-clause-append
returns-clause-append c = stages.append_survives c.space_laws.ensures

pub returns-clause-restart : goal.returns-clause-restart
returns-clause-restart c = stages.restart_survives c.space_laws.ensures

pub returns-clause-reserve : goal.returns-clause-reserve
returns-clause-reserve c = stages.reserve_survives c.space_laws.ensures

pub returns-clause-advance : goal.returns-clause-advance
returns-clause-advance c = stages.advance_survives c.space_laws.ensures

pub returns-clause-before : goal.returns-clause-before
returns-clause-before c = stages.before_survives c.space_laws.ensures

pub returns-clause-after : goal.returns-clause-after
returns-clause-after c = stages.after_survives c.space_laws.ensures

pub returns-clause-reopens : goal.returns-clause-reopens
returns-clause-reopens c = stages.reopens_survives

pub returns-clause-bad_line : goal.returns-clause-bad_line
returns-clause-bad_line c = stages.bad_line_survives
