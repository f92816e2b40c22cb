-- A record before it has a place.
use Rattle.std.specs.Prelude.{ℕ, List}
use Rattle.clfs_lsn.specs.declared.entry.LogEntry.{LogEntry}
use Rattle.clfs_record.specs.declared.fields.Fields.{Fields}

-- the record with these fields and these data at an LSN
abbrev pub placed_record : ℕ → Fields → List ℕ → LogEntry
placed_record lsn fields bytes = record {
  lsn = lsn;
  stream = fields.stream;
  kind = fields.kind;
  previous = fields.previous;
  undo_next = fields.undo_next;
  new_base = fields.new_base;
  bytes = bytes;
}
