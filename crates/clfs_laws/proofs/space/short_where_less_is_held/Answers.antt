use Rattle.clfs_laws.proofs.Fullness.{short_release, short_append, short_restart}
use Rattle.clfs_laws.proofs.Room.{short_told}
use Rattle.clfs_laws.proofs.RoomOfSteps.{short_step}
use Rattle.clfs_laws.proofs.space.short_where_less_is_held.Goals as goal

pub returns-clause-tells : goal.returns-clause-tells
returns-clause-tells c = short_told

pub returns-clause-step : goal.returns-clause-step
returns-clause-step c = short_step

pub returns-clause-release : goal.returns-clause-release
returns-clause-release c = short_release

pub returns-clause-append : goal.returns-clause-append
returns-clause-append c = short_append

pub returns-clause-restart : goal.returns-clause-restart
returns-clause-restart c = short_restart
