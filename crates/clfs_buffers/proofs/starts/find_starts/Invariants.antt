use Rattle.clfs_buffers.proofs.Words.{◌≡◌, ◌+◌, ◌-◌, ◌≤◌, length, records_from, behind, first_lsn, records_at, AreStarts}
use Rattle.std.specs.Prelude.{vec_capacity}
use Rattle.clfs_buffers.proofs.starts.find_starts.Given as goal

abbrev pub invariant-loop-sequence : goal.invariant-loop-sequence
invariant-loop-sequence l =
    let start = first_lsn l.place in
    record {
      low : 16 ≤ l.at;
      high : l.at ≤ length l.payload;
      found : length l.starts.items ≡ l.sequence;
      room : l.count ≤ vec_capacity l.starts;
      starts : AreStarts l.streams l.payload start l.starts.items;
      so_far : behind (records_at l.payload start l.starts.items)
          (records_from l.streams l.payload (l.count - l.sequence) (start + l.sequence) l.at)
          ≡ records_from l.streams l.payload l.count start 16;
    }
