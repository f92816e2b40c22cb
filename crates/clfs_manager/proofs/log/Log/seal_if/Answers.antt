use Rattle.clfs_manager.proofs.Words.{refl, [], seal_if}
use Rattle.clfs_manager.proofs.Changing.{changes_nothing}
use Rattle.clfs_manager.proofs.KeptFiles.{files_kept}
use Rattle.clfs_manager.proofs.log.Log.seal_if.Goals as goal

pub returns-then-asked-clause-change : goal.returns-then-asked-clause-change
returns-then-asked-clause-change g c = rw c.if-asked.true c.seal.ensures.change

pub returns-clause-change : goal.returns-clause-change
returns-clause-change g c = changes_nothing tt c.logs_are_copies_and_blocks.ensures.stands c.logs_are_copies_and_blocks.ensures.by_file (g.D.Disk.state c.args.disk.now)
    c.args.self.now [] (seal_if c.args.asked c.args.self.now.state.value) c.requires.intact (rw c.if-asked.false refl)

pub returns-clause-files : goal.returns-clause-files
returns-clause-files g c = files_kept (g.D.Disk.state c.args.disk.now) c.args.self.now.physical
