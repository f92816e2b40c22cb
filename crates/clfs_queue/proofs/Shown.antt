-- What a queue's fields show.
use Rattle.clfs_queue.proofs.Words.{Queued}
use Rattle.clfs_queue.specs.declared.queue.Queue.TheInside.{Inside}

-- the queue of these fields
abbrev pub shown : Inside → Queued
shown i = record { shape = i.shape; buffers = i.buffers; place = i.place; waiting = i.waiting.items; records = i.records.value }
