use Rattle.clfs_model.specs.declared.call.Call.TheVariants as calls
use Rattle.clfs_manager.proofs.Words.{answer}
use Rattle.clfs_manager.proofs.manager.Manager.release.Given as goal

abbrev pub ghost-next : goal.ghost-next
ghost-next g a = (answer a.self.now.value a.with.now.0 (calls.Release a.with.now.1 a.with.now.2)).state
