use Rattle.clfs_operations.proofs.Unopened.{told_ends}
use Rattle.clfs_operations.proofs.laws.unopened_logs_are_told.Goals as goal

pub returns : goal.returns
returns g c = λ status refusal old new. told_ends status refusal (g.D.Disk.state old) (g.D.Disk.state new)
