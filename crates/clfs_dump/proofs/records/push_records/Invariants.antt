use Rattle.clfs_dump.proofs.Words.{◌≡◌, ◌+◌, ◌-◌, ◌≤◌, List, ◌++◌, length, flat_map, lsn_number, LogEntry, records_from, record_text, records_met}
use Rattle.clfs_block.specs.RecordLaws.{behind}
use Rattle.clfs_dump.proofs.records.push_records.Given as goal

abbrev pub invariant-loop-sequence : goal.invariant-loop-sequence
invariant-loop-sequence l =
    let streams = length l.rows in
    let start = lsn_number l.place.container l.place.offset 0 in
    let text = record_text l.selection l.rows in
    record {
      low : 16 ≤ l.at;
      high : l.at ≤ length l.payload;
      text : l.out ++ flat_map text (records_met streams l.payload (l.count - l.sequence) (start + l.sequence) l.at)
          ≡ l.fn.out ++ flat_map text (records_met streams l.payload l.count start 16);
      read : (entries : List LogEntry)
          × (behind entries (records_from streams l.payload (l.count - l.sequence) (start + l.sequence) l.at) ≡ records_from streams l.payload l.count start 16);
    }
