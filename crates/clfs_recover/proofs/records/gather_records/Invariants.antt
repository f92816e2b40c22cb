use Rattle.clfs_recover.proofs.Words.{◌≡◌, ◌+◌, ◌-◌, ◌≤◌, List, length, vec_len, lsn_number, LogEntry, Row, records_from, HasTaken}
use Rattle.clfs_recover.proofs.Steps.{Reached}
use Rattle.clfs_recover.proofs.records.gather_records.Given as goal

abbrev pub invariant-loop-sequence : goal.invariant-loop-sequence
invariant-loop-sequence g l =
    let streams = vec_len l.fn.bases in
    let start = lsn_number l.place.container l.place.offset 0 in
    record {
      low : 16 ≤ l.at;
      high : l.at ≤ length l.payload;
      same_streams : vec_len l.bases ≡ streams;
      taken : (rows : List Row) (before : List LogEntry) → HasTaken (g.G.Gatherer.has l.fn.gatherer) rows l.fn.bases.items before
          → Reached (g.G.Gatherer.has l.gatherer) rows l.bases.items before
          (records_from streams l.payload (l.count - l.sequence) (start + l.sequence) l.at) (records_from streams l.payload l.count start 16);
    }
