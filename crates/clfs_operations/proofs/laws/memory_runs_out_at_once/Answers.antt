use Rattle.std.proofs.Common.{[], arith}
use Rattle.std.proofs.KnownBytes.{Consumes-nil}
use Rattle.clfs_operations.proofs.ArchiveEnds.{archive_ran_out}
use Rattle.clfs_operations.proofs.RaceEnds.{left_alone, race_without_memory}
use Rattle.clfs_operations.proofs.RaceThrough.{race_ran_out}
use Rattle.clfs_operations.proofs.RestoreEnds.{restore_ran_out}
use Rattle.clfs_operations.proofs.TxnThrough.{table_ran_out}
use Rattle.clfs_operations.proofs.laws.memory_runs_out_at_once.Goals as goal

pub returns-clause-alone : goal.returns-clause-alone
returns-clause-alone g c = λ disk. left_alone (g.D.Disk.state disk)

pub returns-clause-races : goal.returns-clause-races
returns-clause-races g c = λ buffers disk left written source sink.
    race_without_memory buffers (g.D.Disk.state disk) left left written source source sink ([], Consumes-nil left) (omega arith)

pub returns-clause-race_comes_through : goal.returns-clause-race_comes_through
returns-clause-race_comes_through g c = λ buffers disk left written. race_ran_out buffers (g.D.Disk.state disk) left left written written

pub returns-clause-table_comes_through : goal.returns-clause-table_comes_through
returns-clause-table_comes_through g c = λ disk. table_ran_out (g.D.Disk.state disk)

pub returns-clause-archives : goal.returns-clause-archives
returns-clause-archives g c = λ disk. archive_ran_out (g.D.Disk.state disk)

pub returns-clause-restores : goal.returns-clause-restores
returns-clause-restores g c = λ up_to disk. restore_ran_out up_to (g.D.Disk.state disk)
