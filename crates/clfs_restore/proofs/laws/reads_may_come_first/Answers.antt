use Rattle.clfs_restore.proofs.Looked.{reads_come_first}
use Rattle.clfs_restore.proofs.laws.reads_may_come_first.Goals as goal

pub returns : goal.returns
returns g c = reads_come_first g.D.Disk.state
