use Rattle.clfs_manager.proofs.Words.{with_cursor_at, change_area}
use Rattle.clfs_manager.proofs.log.Log.go_on_reading.Given as goal

abbrev pub ghost-next : goal.ghost-next
ghost-next g a = change_area (with_cursor_at a.with.now.2 a.with.now.3) a.with.now.0 a.with.now.1 a.self.now.value
