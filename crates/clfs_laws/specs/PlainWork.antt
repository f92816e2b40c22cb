-- Calls that take no more of the log's space than their own records need.
use Rattle.std.specs.Prelude.{ℕ, ◌+◌, Bool, true, false, List, [], ◌∷◌, length}
use Rattle.clfs_lsn.specs.Size.{own}
use Rattle.clfs_model.specs.declared.call.Call.{Call}
use Rattle.clfs_model.specs.declared.call.Call.TheVariants as calls
use Rattle.clfs_model.specs.declared.journal.Entry.{Entry}
use Rattle.clfs_model.specs.declared.reply.Reply.{Reply}
use Rattle.clfs_model.specs.declared.reply.Reply.TheVariants as replies

-- openings of streams, makings of areas, flushes up to an LSN, and appends that neither take held sectors nor ask for more
abbrev pub is_plain_work : Call → Bool
is_plain_work (calls.OpenStream name) = true
is_plain_work (calls.CreateArea stream largest reads) = true
is_plain_work (calls.FlushTo area lsn) = true
is_plain_work (calls.Append area draft false []) = true
is_plain_work _ = false

-- the sectors of the record that a call appended, in a block of its own; none where it appended none
abbrev pub sectors_of_record : Call → Reply → ℕ
sectors_of_record (calls.Append area draft reserved sizes) (replies.Placed lsn) = own (length draft.bytes)
sectors_of_record _ _ = 0

-- those of all records that these entries appended
abbrev pub sectors_of_records : List Entry → ℕ
sectors_of_records [] = 0
sectors_of_records (entry ∷ entries) = sectors_of_record entry.call entry.reply + sectors_of_records entries
