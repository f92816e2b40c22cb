use Rattle.clfs_recover.proofs.Words.{[], ◌∷◌, ◌++◌, entry_with}
use Rattle.clfs_recover.proofs.parts.with_entry.Given as goal

abbrev pub ghost-next : goal.ghost-next
ghost-next a = a.self.now.value ++ entry_with a.with.now.0.now a.with.now.1.now ∷ []
