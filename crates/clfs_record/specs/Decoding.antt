-- What a decoder answers, against what the bytes spell.
use Rattle.std.specs.Prelude.{◌≡◌, ℕ, ◌+◌, ◌≤◌, List, length, take, drop, Result, Ok, Err}
use Rattle.clfs_lsn.specs.Format.{record_header}
use Rattle.clfs_lsn.specs.Head.{head_of}
use Rattle.clfs_lsn.specs.Size.{size}
use Rattle.clfs_lsn.specs.Spelling.{FitsAt, header_of, entry_of, record_at}
use Rattle.clfs_lsn.specs.declared.entry.Head.{Head}
use Rattle.clfs_lsn.specs.declared.entry.LogEntry.{LogEntry}
use Rattle.clfs_record.specs.declared.refusal.HeadRefusal.{HeadRefusal}
use Rattle.clfs_record.specs.declared.refusal.HeadRefusal.TheVariants as heads
use Rattle.clfs_record.specs.declared.refusal.RecordRefusal.{RecordRefusal}
use Rattle.clfs_record.specs.declared.refusal.RecordRefusal.TheVariants as refusals

-- A refusal for a byte names the first wrong byte. Out of memory may come in place of any answer.
abbrev pub RefusesAt : {Y : Type 0} → RecordRefusal → Result Y ℕ → Type 0
RefusesAt refusals.NoMemory read = Unit {0}
RefusesAt (refusals.BadByte at) read = read ≡ Err at

-- The answer is what the bytes spell: the same value, or a refusal at their first wrong byte.
abbrev pub Gives : {Y : Type 0} → Result Y RecordRefusal → Result Y ℕ → Type 0
Gives (Ok value) read = read ≡ Ok value
Gives (Err refusal) read = RefusesAt refusal read

-- The refusal of a head as one of a record.
abbrev pub as_record : HeadRefusal → RecordRefusal
as_record (heads.BadByte at) = refusals.BadByte at

-- What reading a record's head answers, by what reading the record does: its head and the bytes that spell it, or the same first wrong byte.
abbrev pub head_read : Result (LogEntry × ℕ) ℕ → Result (Head × ℕ) HeadRefusal
head_read (Ok (entry, size)) = Ok (head_of entry, size)
head_read (Err at) = Err (heads.BadByte at)

-- The record at the front of bytes is right and has so many bytes of data, or this is its first wrong byte.
abbrev pub IsChecked : ℕ → ℕ → List ℕ → Result ℕ HeadRefusal → Type 0
IsChecked lsn streams bytes (Ok len) = (len ≡ (header_of bytes).len) × (record_at lsn streams bytes ≡ Ok (entry_of lsn bytes, size len))
IsChecked lsn streams bytes (Err (heads.BadByte at)) = record_at lsn streams bytes ≡ Err at

-- The record with this head and these data.
abbrev pub entry_with : Head → List ℕ → LogEntry
entry_with head bytes = record {
  lsn = head.lsn;
  stream = head.stream;
  kind = head.kind;
  previous = head.previous;
  undo_next = head.undo_next;
  new_base = head.new_base;
  bytes = bytes;
}

-- The bytes spell the record with this head, whose data stand after its header, in so many bytes.
pub record IsHeadIn (lsn streams : ℕ) (bytes : List ℕ) (head : Head) (count : ℕ) : Type 0 where
  pub entry : LogEntry
  pub is : entry ≡ entry_with head (take head.len (drop record_header bytes))
  pub there : record_at lsn streams bytes ≡ Ok (entry, count)
  pub data_end : record_header + head.len ≤ length bytes
  pub end : count ≤ length bytes
  pub fits : FitsAt lsn streams entry

-- The place of a refusal, if it has one, is no further than the bytes go.
abbrev pub IsNear : List ℕ → HeadRefusal → Type 0
IsNear bytes (heads.BadByte at) = at ≤ length bytes
