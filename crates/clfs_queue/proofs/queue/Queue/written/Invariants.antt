use Rattle.std.specs.Prelude.{[]}
use Rattle.clfs_queue.proofs.queue.Queue.written.Given as goal

-- all records are on the disk
abbrev pub ghost-next : goal.ghost-next
ghost-next a = []
