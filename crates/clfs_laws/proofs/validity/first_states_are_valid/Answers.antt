use Rattle.clfs_laws.proofs.ValidCuts.{valid_fresh, valid_cut}
use Rattle.clfs_laws.proofs.validity.first_states_are_valid.Goals as goal

pub returns-clause-fresh : goal.returns-clause-fresh
returns-clause-fresh c = valid_fresh

pub returns-clause-cut : goal.returns-clause-cut
returns-clause-cut c = valid_cut
