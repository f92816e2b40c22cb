use Rattle.clfs_laws.proofs.RoomFound.{append_takes, restart_takes, restart_moves, reserve_room}
use Rattle.clfs_laws.proofs.between.calls_that_pass_find_room.Goals as goal

pub returns-clause-append : goal.returns-clause-append
returns-clause-append c = append_takes c.space_laws.ensures

pub returns-clause-restart : goal.returns-clause-restart
returns-clause-restart c = restart_takes c.space_laws.ensures

pub returns-clause-base : goal.returns-clause-base
returns-clause-base c = λ s client number area bytes base is_reserved valid there none. restart_moves s area bytes base is_reserved none

pub returns-clause-reserve : goal.returns-clause-reserve
returns-clause-reserve c = reserve_room
