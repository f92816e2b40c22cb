use Rattle.clfs_block.proofs.Gates.{gate_is, sectors_are}
use Rattle.clfs_block.proofs.laws.blocks_say_their_sectors.Goals as goal

pub returns-clause-gate : goal.returns-clause-gate
returns-clause-gate c = gate_is

pub returns-clause-sectors : goal.returns-clause-sectors
returns-clause-sectors c = sectors_are
