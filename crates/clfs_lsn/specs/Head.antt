-- The head of a record.
use Rattle.std.specs.Prelude.{length}
use Rattle.clfs_lsn.specs.declared.entry.LogEntry.{LogEntry}
use Rattle.clfs_lsn.specs.declared.entry.Head.{Head}

-- all of a record but its data, of which it has the length
abbrev pub head_of : LogEntry → Head
head_of entry = record {
  lsn = entry.lsn;
  stream = entry.stream;
  kind = entry.kind;
  previous = entry.previous;
  undo_next = entry.undo_next;
  new_base = entry.new_base;
  len = length entry.bytes;
}
