use Rattle.clfs_laws.proofs.RoomFound.{whole_grown, hold_grown, room_after}
use Rattle.clfs_laws.proofs.ValidSettings.{valid_grown, grown_is, grown_no_fewer}
use Rattle.clfs_laws.proofs.between.growth_keeps_a_log_whole.Goals as goal

pub returns-clause-whole : goal.returns-clause-whole
returns-clause-whole c = whole_grown c.space_laws.ensures

pub returns-clause-only_containers : goal.returns-clause-only_containers
returns-clause-only_containers c = grown_is

pub returns-clause-no_fewer : goal.returns-clause-no_fewer
returns-clause-no_fewer c = λ s need valid. grown_no_fewer c.space_laws.ensures s need

pub returns-clause-at_most : goal.returns-clause-at_most
returns-clause-at_most c = λ s need valid. (valid_grown c.space_laws.ensures s need valid).ranges.few_containers

pub returns-clause-hold : goal.returns-clause-hold
returns-clause-hold c = hold_grown

pub returns-clause-room : goal.returns-clause-room
returns-clause-room c = room_after
