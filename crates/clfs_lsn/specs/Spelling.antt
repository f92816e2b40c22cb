-- A record in a block's payload, byte by byte: how it is spelled, and which byte of other bytes is the first wrong one.
-- All numbers are little-endian. A record's LSN isn't spelled: it is the block's place and the record's position in the block.
use Rattle.std.specs.Prelude.{◌≡◌, ℕ, ◌+◌, ◌-◌, ◌^◌, ◌<◌, ◌≤◌, Bool, not, ◌||◌, ◌==◌, nat_lt, nat_le, if◌then◌else◌, List, [], ◌∷◌, ◌++◌, length, take, drop, slice_index, replicate, position, Option, Some, None, Result, Ok, Err}
use Rattle.std.specs.Option.{option_map}
use Rattle.byteorder.specs.Endian.{little_bytes, little_number}
use Rattle.clfs_lsn.specs.Format.{record_header}
use Rattle.clfs_lsn.specs.Size.{size}
use Rattle.clfs_lsn.specs.Checks.{unless_wrong}
use Rattle.clfs_lsn.specs.declared.entry.LogEntry.{LogEntry}
use Rattle.clfs_lsn.specs.declared.entry.Kind.{Kind}
use Rattle.clfs_lsn.specs.declared.entry.Kind.TheVariants.{Plain, Restart}

-- the byte of a record's kind
abbrev pub kind_byte : Kind → ℕ
kind_byte Plain = 1
kind_byte Restart = 2

-- the zeros after n bytes of data
abbrev pub filling : ℕ → ℕ
filling n = size n - (record_header + n)

-- the header: length (4 bytes), stream (2), kind (1), a zero, previous, undo-next and new base (8 each)
abbrev pub header_bytes : LogEntry → List ℕ
header_bytes entry =
    little_bytes 4 (length entry.bytes) ++ (little_bytes 2 entry.stream ++ (kind_byte entry.kind ∷ 0 ∷ []
    ++ (little_bytes 8 entry.previous ++ (little_bytes 8 entry.undo_next ++ little_bytes 8 entry.new_base))))

-- the header, the data, and zeros up to a multiple of 8 bytes
abbrev pub record_bytes : LogEntry → List ℕ
record_bytes entry = header_bytes entry ++ (entry.bytes ++ replicate (filling (length entry.bytes)) 0)

-- a plain record has no new base, and a restart record one of at most its own LSN
abbrev pub BaseFits : Kind → ℕ → ℕ → Type 0
BaseFits Plain lsn base = base ≡ 0
BaseFits Restart lsn base = base ≤ lsn

-- the records that a block can have at this LSN, in a log of so many streams
pub record FitsAt (lsn streams : ℕ) (entry : LogEntry) : Type 0 where
  pub at : entry.lsn ≡ lsn
  pub some_stream : 1 ≤ entry.stream
  pub stream : entry.stream ≤ streams
  pub bytes : length entry.bytes < 2 ^ 32
  pub previous : entry.previous < lsn
  pub undo_next : entry.undo_next < lsn
  pub new_base : BaseFits entry.kind lsn entry.new_base

-- the fields that a header's bytes stand for
pub record Header : Type 0 where
  pub len : ℕ
  pub stream : ℕ
  pub kind : ℕ
  pub zero : ℕ
  pub previous : ℕ
  pub undo_next : ℕ
  pub new_base : ℕ

-- the fields at the front of bytes
abbrev pub header_of : List ℕ → Header
header_of bytes = record {
  len = little_number 4 bytes;
  stream = little_number 2 (drop 4 bytes);
  kind = slice_index bytes 6;
  zero = slice_index bytes 7;
  previous = little_number 8 (drop 8 bytes);
  undo_next = little_number 8 (drop 16 bytes);
  new_base = little_number 8 (drop 24 bytes);
}

-- a new base that no record of this kind at this LSN has
abbrev pub is_wrong_base : ℕ → ℕ → ℕ → Bool
is_wrong_base kind lsn base = if kind == 1 then not (base == 0) else nat_lt lsn base

-- The first byte at which a header is wrong: the stream is one of the log's, the kind is 1 or 2, the byte after it is 0,
-- both links are below the record's own LSN, and the new base is one that its kind may have.
abbrev pub header_fault : ℕ → ℕ → Header → Option ℕ
header_fault lsn streams h =
    if (h.stream == 0) || nat_lt streams h.stream then Some 4
    else if not ((h.kind == 1) || (h.kind == 2)) then Some 6
    else if not (h.zero == 0) then Some 7
    else if nat_le lsn h.previous then Some 8
    else if nat_le lsn h.undo_next then Some 16
    else if is_wrong_base h.kind lsn h.new_base then Some 24
    else None

-- the first byte after the data that isn't 0, counted from the record's first byte
abbrev pub filling_fault : ℕ → List ℕ → Option ℕ
filling_fault len bytes = option_map (λ at. record_header + len + at) (position (λ b. not (b == 0)) (take (filling len) (drop (record_header + len) bytes)))

-- the record that a header and the bytes after it stand for
abbrev pub entry_of : ℕ → List ℕ → LogEntry
entry_of lsn bytes = let h = header_of bytes in record {
  lsn = lsn;
  stream = h.stream;
  kind = if h.kind == 1 then Plain else Restart;
  previous = h.previous;
  undo_next = h.undo_next;
  new_base = h.new_base;
  bytes = take h.len (drop record_header bytes);
}

-- The record at the front of bytes and the number of its bytes, or the first wrong byte. A header that isn't there whole, or
-- whose length reaches past the bytes, is told at the record's first byte.
unfoldable pub record_at : ℕ → ℕ → List ℕ → Result (LogEntry × ℕ) ℕ
record_at lsn streams bytes =
    let len = (header_of bytes).len in
    if nat_lt (length bytes) record_header then Err 0
    else if nat_lt (length bytes) (size len) then Err 0
    else unless_wrong (λ at. at) (header_fault lsn streams (header_of bytes))
    (unless_wrong (λ at. at) (filling_fault len bytes) (Ok (entry_of lsn bytes, size len)))
