use Rattle.std.proofs.Common.{[], ◌∷◌, ◌++◌}
use Rattle.clfs_tables.proofs.tables.with_head.Given as goal

abbrev pub ghost-next : goal.ghost-next
ghost-next a = a.self.now.value ++ a.with.now ∷ []
