use Rattle.clfs_operations.proofs.Crashing.{stands_as}
use Rattle.clfs_operations.proofs.OnlyRead.{reopened_one}
use Rattle.clfs_operations.proofs.answering.reopened.Goals as goal

pub returns : goal.returns
returns g c = reopened_one c.args.manager.now.0 (g.D.Disk.state c.args.manager.now.1) c.args.client c.reopen.result c.flushed.result c.reopen.new.self.0
    (g.D.Disk.state c.reopen.new.self.1) c.flushed.ensures c.reopen.ensures.step c.reopen.ensures.reads c.reopen.ensures.place (c.reopen.ensures.moments c.args.client)
    (λ broken. stands_as g.D.Disk.state c.args.manager.now.1 c.reopen.new.self.1 (c.reopen.ensures.stopped broken))
    c.faults_break.ensures.reopening c.broken_stays.ensures.reopening
