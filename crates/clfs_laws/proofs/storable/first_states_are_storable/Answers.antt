use Rattle.clfs_laws.proofs.StorableCuts.{storable_fresh, storable_cut}
use Rattle.clfs_laws.proofs.storable.first_states_are_storable.Goals as goal

pub returns-clause-fresh : goal.returns-clause-fresh
returns-clause-fresh c = λ shape dedicated containers buffers is some few some_buffers few_buffers. storable_fresh shape dedicated containers buffers

pub returns-clause-cut : goal.returns-clause-cut
returns-clause-cut c = storable_cut
