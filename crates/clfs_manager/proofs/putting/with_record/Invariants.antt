use Rattle.clfs_manager.proofs.Words.{put, unplaced}
use Rattle.clfs_manager.proofs.putting.with_record.Given as goal

abbrev pub ghost-next : goal.ghost-next
ghost-next a = put a.self.now.value (unplaced a.with.now.0.now a.with.now.1.now)
