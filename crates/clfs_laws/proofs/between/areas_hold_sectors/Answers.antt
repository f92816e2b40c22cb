use Rattle.clfs_laws.proofs.RoomFound.{whole_hold, whole_behind}
use Rattle.clfs_laws.proofs.between.areas_hold_sectors.Goals as goal

pub returns-clause-held : goal.returns-clause-held
returns-clause-held c = whole_hold

pub returns-clause-behind : goal.returns-clause-behind
returns-clause-behind c = whole_behind c.space_laws.ensures
