use Rattle.std.proofs.Common.{◌<◌, ◌≤◌, length, slice_index_or}
use Rattle.clfs_lsn.specs.declared.entry.Head.{Head}
use Rattle.clfs_index.proofs.place.place_from_end.Given as goal

-- the head at which the ones that were looked at begin doesn't lie below the LSN
abbrev pub invariant-loop-place : goal.invariant-loop-place
invariant-loop-place l = (d : Head) → l.place < length l.heads → l.lsn ≤ (slice_index_or l.heads l.place d).lsn
