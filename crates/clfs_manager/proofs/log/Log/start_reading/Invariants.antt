use Rattle.clfs_manager.proofs.Words.{with_cursor, change_area}
use Rattle.clfs_manager.proofs.log.Log.start_reading.Given as goal

abbrev pub ghost-next : goal.ghost-next
ghost-next g a = change_area (with_cursor a.with.now.2) a.with.now.0 a.with.now.1 a.self.now.value
