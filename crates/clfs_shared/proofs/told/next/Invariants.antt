use Rattle.std.specs.Prelude.{◌+◌, [], ◌∷◌, ◌++◌, length}
use Rattle.clfs_model.specs.Journals.{mine}
use Rattle.clfs_shared.specs.Journal.{entry_of}
use Rattle.clfs_shared.proofs.told.next.Given as goal

abbrev pub ghost-next : goal.ghost-next
ghost-next a = a.self.now.value ++ entry_of a.with.now.0 (length (mine a.self.now.value a.with.now.0) + 1) a.with.now.1.now a.with.now.2.now ∷ []
