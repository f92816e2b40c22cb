use Rattle.clfs_manager.proofs.Words.{with_archive}
use Rattle.clfs_manager.proofs.archiving.with_archive.Given as goal

abbrev pub ghost-next : goal.ghost-next
ghost-next a = with_archive a.with.now a.self.now.value
