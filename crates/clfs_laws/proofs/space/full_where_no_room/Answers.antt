use Rattle.clfs_laws.proofs.Room.{full_told, full_as_it_is, room_told}
use Rattle.clfs_laws.proofs.Fullness.{full_reserve, full_append, full_restart}
use Rattle.clfs_laws.proofs.RoomOfSteps.{full_step}
use Rattle.clfs_laws.proofs.space.full_where_no_room.Goals as goal

pub returns-clause-no_room : goal.returns-clause-no_room
returns-clause-no_room c = full_told

pub returns-clause-room : goal.returns-clause-room
returns-clause-room c = room_told

pub returns-clause-numbers : goal.returns-clause-numbers
returns-clause-numbers c = full_as_it_is c.space_laws.ensures

pub returns-clause-reserve : goal.returns-clause-reserve
returns-clause-reserve c = full_reserve c.space_laws.ensures

pub returns-clause-append : goal.returns-clause-append
returns-clause-append c = full_append c.space_laws.ensures

pub returns-clause-restart : goal.returns-clause-restart
returns-clause-restart c = full_restart c.space_laws.ensures

pub returns-clause-step : goal.returns-clause-step
returns-clause-step c = full_step c.space_laws.ensures
