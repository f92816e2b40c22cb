use Rattle.clfs_archive.proofs.Sealing.{go_on}
use Rattle.clfs_archive.proofs.laws.ends_of_blocks_go_on.Goals as goal

pub returns : goal.returns
returns c = go_on
