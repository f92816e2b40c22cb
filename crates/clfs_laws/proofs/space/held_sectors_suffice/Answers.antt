use Rattle.clfs_laws.proofs.Room.{never_full, never_short, never_few}
use Rattle.clfs_laws.proofs.RoomOfSteps.{covered_step}
use Rattle.clfs_laws.proofs.space.held_sectors_suffice.Goals as goal

pub returns-clause-space : goal.returns-clause-space
returns-clause-space c = never_full

pub returns-clause-held : goal.returns-clause-held
returns-clause-held c = never_short

pub returns-clause-containers : goal.returns-clause-containers
returns-clause-containers c = never_few

pub returns-clause-step : goal.returns-clause-step
returns-clause-step c = covered_step
