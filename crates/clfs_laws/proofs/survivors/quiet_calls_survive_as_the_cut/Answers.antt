use Rattle.clfs_laws.proofs.SurvivorCuts.{is_cut, is_same}
use Rattle.clfs_laws.proofs.survivors.quiet_calls_survive_as_the_cut.Goals as goal

pub returns-clause-equal : goal.returns-clause-equal
returns-clause-equal c = is_cut c.space_laws.ensures

pub returns-clause-same : goal.returns-clause-same
returns-clause-same c = is_same c.space_laws.ensures
