use Rattle.clfs_manager.proofs.Words.{with_stream}
use Rattle.clfs_manager.proofs.opening.with_stream.Given as goal

abbrev pub ghost-next : goal.ghost-next
ghost-next a = with_stream a.with.now a.self.now.value
