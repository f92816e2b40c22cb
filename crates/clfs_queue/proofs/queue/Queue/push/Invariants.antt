use Rattle.std.specs.Prelude.{[], ◌∷◌, ◌++◌}
use Rattle.clfs_queue.proofs.Words.{placed_record}
use Rattle.clfs_queue.proofs.queue.Queue.push.Given as goal

-- one more record, at the LSN that was given to it
abbrev pub ghost-next : goal.ghost-next
ghost-next a = a.self.now.value ++ placed_record a.with.now.0 a.with.now.1 a.with.now.2.now ∷ []
