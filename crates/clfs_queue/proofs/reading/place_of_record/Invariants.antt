use Rattle.clfs_queue.proofs.Words.{◌≡◌, ◌+◌, length, take, flat_map, record_bytes, LogEntry, IsHeld}
use Rattle.clfs_queue.proofs.reading.place_of_record.Given as goal

-- the records that were gone over are the first of those before it
abbrev pub invariant-loop-skipped : goal.invariant-loop-skipped
invariant-loop-skipped l = (entry : LogEntry) (held : IsHeld l.block l.position entry)
    → l.at ≡ 16 + length (flat_map record_bytes (take l.skipped held.before))
