use Rattle.clfs_manager.proofs.Words.{with_policies}
use Rattle.clfs_manager.proofs.settings.with_policies.Given as goal

abbrev pub ghost-next : goal.ghost-next
ghost-next a = with_policies a.with.now a.self.now.value
