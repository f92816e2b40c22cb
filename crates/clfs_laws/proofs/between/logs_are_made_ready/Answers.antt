use Rattle.clfs_laws.proofs.ReadiedLogs.{is_readied, may_turn}
use Rattle.clfs_laws.proofs.between.logs_are_made_ready.Goals as goal

pub returns-clause-ready : goal.returns-clause-ready
returns-clause-ready c = is_readied c.space_laws.ensures

pub returns-clause-turn : goal.returns-clause-turn
returns-clause-turn c = may_turn c.space_laws.ensures
