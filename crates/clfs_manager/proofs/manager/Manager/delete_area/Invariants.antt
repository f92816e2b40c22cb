use Rattle.clfs_model.specs.declared.call.Call.TheVariants as calls
use Rattle.clfs_manager.proofs.Words.{answer}
use Rattle.clfs_manager.proofs.manager.Manager.delete_area.Given as goal

abbrev pub ghost-next : goal.ghost-next
ghost-next g a = (answer a.self.now.value a.with.now.0 (calls.DeleteArea a.with.now.1)).state
