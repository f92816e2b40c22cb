use Rattle.clfs_manager.proofs.Made.{stands_for_fresh, comes_at_once}
use Rattle.clfs_manager.proofs.manager.Manager.format.Goals as goal

pub returns-in-Ok-clause-formatted : goal.returns-in-Ok-clause-formatted
returns-in-Ok-clause-formatted g c tells buffers =
    stands_for_fresh c.args.shape c.args.dedicated c.args.containers buffers (g.D.Disk.state c.make_log.new.disk).files (c.in-Ok.ensures.made tells)

pub returns-in-Ok-clause-moments : goal.returns-in-Ok-clause-moments
returns-in-Ok-clause-moments g c honest =
    comes_at_once c.args.shape c.args.dedicated c.args.containers (g.D.Disk.state c.args.disk) (g.D.Disk.state c.make_log.new.disk) (c.in-Ok.ensures.moments honest)
