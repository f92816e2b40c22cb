use Rattle.std.specs.Prelude.{[]}
use Rattle.clfs_queue.proofs.queue.Queue.new.Given as goal

-- a new queue has no records
abbrev pub ghost-pick : goal.ghost-pick
ghost-pick a = []
