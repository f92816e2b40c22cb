-- What is known of the records that are read of a block.
use Rattle.clfs_block.proofs.Words.{◌≡◌, ℕ, zero, suc, ◌+◌, ◌*◌, ◌≤◌, Bool, true, false, cond, eqb, ltb, leb, not, ◌||◌, List, [], ◌∷◌, length, take, drop}
use Rattle.clfs_block.proofs.Words.{Option, Some, None, Result, Ok, Err, refl, sym, ◌∙◌, ap, subst, arith, length-drop, length-take, ltb-false, nat_tests}
use Rattle.clfs_block.proofs.Words.{unless_wrong, unless_ok, no_fault, pass_check, guard_ok, size, Shape, payload_of, little_number, AreJudgedAlone, head_of}
use Rattle.clfs_block.proofs.Words.{frame_at, rest_at, block_same, BlockHead, BlockRefusal, BadByte}
use Rattle.std.proofs.Common.{inl}
use Rattle.std.specs.Prelude.{slice_get, if◌then◌else◌}
use Rattle.std.proofs.lemmas.Option.{slice_get_within}
use Rattle.clfs_lsn.specs.Size.{longest}
use Rattle.clfs_lsn.specs.Spelling.{Header, record_at, header_of, header_fault, filling_fault, is_wrong_base, entry_of}
use Rattle.clfs_lsn.specs.declared.entry.LogEntry.{LogEntry}
use Rattle.clfs_block.specs.Records.{◌>>=◌, told_as, records_from, block_records}
use Rattle.clfs_block.proofs.Fronts.{two}
use Rattle.clfs_block.specs.RecordLaws.{behind, block_refused, block_framed, block_read, record_taken, record_wrong}
use Rattle.clfs_block.proofs.Frames.{length-payload_of}
use Rattle.clfs_block.proofs.Reading.{has_frame}

-- ---- one record

abbrev answer : LogEntry × ℕ → Result (LogEntry × ℕ) ℕ
answer x = Ok x

one_answer : (x y : LogEntry × ℕ) → answer x ≡ answer y → x ≡ y
one_answer x y e = cc e

-- a stream that a log has, a log of more streams has too
stream_more : (stream streams more : ℕ) → streams ≤ more → (eqb stream 0 || ltb streams stream) ≡ false → (eqb stream 0 || ltb more stream) ≡ false
stream_more stream streams more le e = grind (arith, nat_tests)

-- what a record's checks say after a header's, which alone look at the streams
abbrev behind_header : ℕ → List ℕ → Result (LogEntry × ℕ) ℕ
behind_header lsn bytes = let len = (header_of bytes).len in unless_wrong (λ at. at) (filling_fault len bytes) (Ok (entry_of lsn bytes, size len))

abbrev behind_size : ℕ → List ℕ → Option ℕ → Result (LogEntry × ℕ) ℕ
behind_size lsn bytes fault = unless_wrong (λ at. at) fault (behind_header lsn bytes)

abbrev behind_length : ℕ → List ℕ → Option ℕ → Result (LogEntry × ℕ) ℕ
behind_length lsn bytes fault = if ltb (length bytes) (size (header_of bytes).len) then Err 0 else behind_size lsn bytes fault

abbrev judged : ℕ → List ℕ → Option ℕ → Result (LogEntry × ℕ) ℕ
judged lsn bytes fault = if ltb (length bytes) 32 then Err 0 else behind_length lsn bytes fault

judged_is : (lsn streams : ℕ) (bytes : List ℕ) → record_at lsn streams bytes ≡ judged lsn bytes (header_fault lsn streams (header_of bytes))
unfolding record_at
judged_is lsn streams bytes = refl

-- what holds of a record that is read
record IsRight (lsn : ℕ) (bytes : List ℕ) (fault : Option ℕ) (x : LogEntry × ℕ) : Type 0 where
  right : fault ≡ None
  is : (entry_of lsn bytes, size (header_of bytes).len) ≡ x
  whole : size (header_of bytes).len ≤ length bytes

right_record : (lsn : ℕ) (bytes : List ℕ) (fault : Option ℕ) (x : LogEntry × ℕ) → judged lsn bytes fault ≡ Ok x → IsRight lsn bytes fault x
right_record lsn bytes fault x is =
    let len = (header_of bytes).len in
    let a = guard_ok (ltb (length bytes) 32) 0 (behind_length lsn bytes fault) x is in
    let b = guard_ok (ltb (length bytes) (size len)) 0 (behind_size lsn bytes fault) x a.1 in
    let c = unless_ok (λ at. at) fault (behind_header lsn bytes) x b.1 in
    let d = unless_ok (λ at. at) (filling_fault len bytes) (answer (entry_of lsn bytes, size len)) x c.1 in
    record { right = c.0; is = one_answer (entry_of lsn bytes, size len) x d.1; whole = ltb-false (length bytes) (size len) b.0 }

-- a header's checks after that of the stream
abbrev behind_stream : ℕ → Header → Option ℕ
behind_stream lsn h =
    if not (eqb h.kind 1 || eqb h.kind 2) then Some 6
    else if not (eqb h.zero 0) then Some 7
    else if leb lsn h.previous then Some 8
    else if leb lsn h.undo_next then Some 16
    else if is_wrong_base h.kind lsn h.new_base then Some 24
    else None

header_more : (lsn streams more : ℕ) (h : Header) → streams ≤ more → header_fault lsn streams h ≡ None → header_fault lsn more h ≡ None
header_more lsn streams more h le e =
    let first = no_fault (eqb h.stream 0 || ltb streams h.stream) 4 (behind_stream lsn h) e in
    pass_check (eqb h.stream 0 || ltb more h.stream) 4 (behind_stream lsn h) (stream_more h.stream streams more le first.0) first.1

-- so a record that is read is read in a log of more streams
record_more : (lsn streams more : ℕ) (bytes : List ℕ) (x : LogEntry × ℕ) → streams ≤ more → record_at lsn streams bytes ≡ Ok x → record_at lsn more bytes ≡ Ok x
record_more lsn streams more bytes x le is =
    let right = (right_record lsn bytes (header_fault lsn streams (header_of bytes)) x (sym (judged_is lsn streams bytes) ∙ is)).right in
    judged_is lsn more bytes ∙ ap (judged lsn bytes) (header_more lsn streams more (header_of bytes) le right ∙ sym right) ∙ sym (judged_is lsn streams bytes) ∙ is

-- it has the LSN that it is read at, and its header and data lie within the bytes
record_within : (lsn streams : ℕ) (bytes : List ℕ) (x : LogEntry × ℕ) → record_at lsn streams bytes ≡ Ok x
    → (x.0.lsn ≡ lsn) × (32 + length x.0.bytes ≤ length bytes)
record_within lsn streams bytes x is =
    let right = right_record lsn bytes (header_fault lsn streams (header_of bytes)) x (sym (judged_is lsn streams bytes) ∙ is) in
    let len = (header_of bytes).len in
    let whole = right.whole in
    let long : length (take len (drop 32 bytes)) ≤ len = omega (arith, length-take len (drop 32 bytes)) in
    subst (λ (y : LogEntry × ℕ). (y.0.lsn ≡ lsn) × (32 + length y.0.bytes ≤ length bytes)) right.is (refl, omega (arith, whole, long))

-- ---- records one after the other

-- the first of some records, and those after it
record IsSplit (streams : ℕ) (payload : List ℕ) (n lsn p : ℕ) (entries : List LogEntry) : Type 0 where
  entry : LogEntry
  size : ℕ
  others : List LogEntry
  is : entries ≡ entry ∷ others
  there : record_at lsn streams (drop p payload) ≡ Ok (entry, size)
  rest : records_from streams payload n (lsn + 1) (p + size) ≡ Ok others

split_at : (streams : ℕ) (payload : List ℕ) (n lsn p : ℕ) (entries : List LogEntry) → records_from streams payload (suc n) lsn p ≡ Ok entries
    → IsSplit streams payload n lsn p entries
split_at streams payload n lsn p entries is = by_record (record_at lsn streams (drop p payload)) refl
  where
    by_rest : (e : LogEntry) (r : Result (List LogEntry) ℕ) → behind (e ∷ []) r ≡ Ok entries → (others : List LogEntry) × (r ≡ Ok others) × (entries ≡ e ∷ others)
    by_rest e (Ok others) h = (others, refl, cc h)
    by_rest e (Err at) h = absurd (cc h)

    by_record : (r : Result (LogEntry × ℕ) ℕ) → record_at lsn streams (drop p payload) ≡ r → IsSplit streams payload n lsn p entries
    by_record (Err at) e = let wrong = sym (record_wrong streams payload n lsn p at e) ∙ is in absurd (cc wrong)
    by_record (Ok (entry, size)) e =
        let rest = by_rest entry (records_from streams payload n (lsn + 1) (p + size)) (sym (record_taken streams payload n lsn p entry size e) ∙ is) in
        record { entry = entry; size = size; others = rest.0; is = rest.2; there = e; rest = rest.1 }

abbrev ended : Bool → Result (List LogEntry) ℕ
ended b = cond b (Ok []) (Err 8)

module _ (streams : ℕ) (payload : List ℕ) where
  -- they are read in a log of more streams
  records_more : (more : ℕ) → streams ≤ more → (n lsn p : ℕ) (entries : List LogEntry) → records_from streams payload n lsn p ≡ Ok entries
      → records_from more payload n lsn p ≡ Ok entries
  records_more more le zero lsn p entries is = is
  records_more more le (suc n) lsn p entries is =
      let first = split_at streams payload n lsn p entries is in
      record_taken more payload n lsn p first.entry first.size (record_more lsn streams more (drop p payload) (first.entry, first.size) le first.there)
      ∙ ap (behind (first.entry ∷ [])) (records_more more le n (lsn + 1) (p + first.size) first.others first.rest)
      ∙ ap (λ (l : List LogEntry). Ok l) (sym first.is)

  -- they are as many as are asked for
  records_count : (n lsn p : ℕ) (entries : List LogEntry) → records_from streams payload n lsn p ≡ Ok entries → length entries ≡ n
  records_count zero lsn p entries is = by_end (eqb p (length payload)) is
    where
      by_end : (b : Bool) → ended b ≡ Ok entries → length entries ≡ 0
      by_end true h = let none : [] ≡ entries = cc h in ap length (sym none)
      by_end false h = absurd (cc h)
  records_count (suc n) lsn p entries is =
      let first = split_at streams payload n lsn p entries is in
      let others = records_count n (lsn + 1) (p + first.size) first.others first.rest in
      ap length first.is ∙ ap suc others

  -- the one at a position has its LSN, and its data lie in the payload after the header
  records_each : (n lsn p : ℕ) (entries : List LogEntry) → records_from streams payload n lsn p ≡ Ok entries
      → (i : ℕ) (entry : LogEntry) → slice_get entries i ≡ Some entry → (entry.lsn ≡ lsn + i) × (p + 32 + length entry.bytes ≤ length payload)
  records_each zero lsn p entries is i entry found =
      let few = records_count zero lsn p entries is in
      let within = slice_get_within entries i entry found in
      absurd (omega (arith, few, within))
  records_each (suc n) lsn p entries is i entry found =
      let first = split_at streams payload n lsn p entries is in
      at_place (records_each n) first i (subst (λ (l : List LogEntry). slice_get l i ≡ Some entry) first.is found)
    where
      at_place : ((lsn p : ℕ) (entries : List LogEntry) → records_from streams payload n lsn p ≡ Ok entries
          → (i : ℕ) (entry : LogEntry) → slice_get entries i ≡ Some entry → (entry.lsn ≡ lsn + i) × (p + 32 + length entry.bytes ≤ length payload))
          → (first : IsSplit streams payload n lsn p entries) (k : ℕ) → slice_get (first.entry ∷ first.others) k ≡ Some entry
          → (entry.lsn ≡ lsn + k) × (p + 32 + length entry.bytes ≤ length payload)
      at_place each first zero h =
          let same : first.entry ≡ entry = cc h in
          let within = record_within lsn streams (drop p payload) (first.entry, first.size) first.there in
          let long = length-drop p payload in
          let own : first.entry.lsn ≡ lsn + 0 = omega (arith, within.0) in
          let end : p + 32 + length first.entry.bytes ≤ length payload = omega (arith, within.1, long) in
          subst (λ (e : LogEntry). (e.lsn ≡ lsn + 0) × (p + 32 + length e.bytes ≤ length payload)) same (own, end)
      at_place each first (suc k) h =
          let other = each (lsn + 1) (p + first.size) first.others first.rest k entry h in
          (omega (arith, other.0), omega (arith, other.1))

-- ---- the records of a block

-- the head of a block that is read, and its records
record IsReadOf (shape : Shape) (streams start : ℕ) (bytes : List ℕ) (entries : List LogEntry) : Type 0 where
  head : BlockHead
  frame : frame_at shape start bytes ≡ Ok head
  records : records_from streams (payload_of head.used bytes) head.records start 16 ≡ Ok entries
  clean : BlockHead
  rest : rest_at bytes head ≡ Ok clean

read_of : (shape : Shape) (streams start : ℕ) (bytes : List ℕ) (entries : List LogEntry) → block_records shape streams start bytes ≡ Ok entries
    → IsReadOf shape streams start bytes entries
read_of shape streams start bytes entries is = by_frame (frame_at shape start bytes) refl
  where
    by_rest : (head : BlockHead) → frame_at shape start bytes ≡ Ok head → (r : Result (List LogEntry) ℕ) (s : Result BlockHead BlockRefusal)
        → records_from streams (payload_of head.used bytes) head.records start 16 ≡ r → rest_at bytes head ≡ s
        → (told_as BadByte r >>= λ (es : List LogEntry). (s >>= λ (clean : BlockHead). Ok es)) ≡ Ok entries → IsReadOf shape streams start bytes entries
    by_rest head frame (Err at) s records rest h = absurd (cc h)
    by_rest head frame (Ok es) (Err refusal) records rest h = absurd (cc h)
    by_rest head frame (Ok es) (Ok clean) records rest h =
        let same : es ≡ entries = cc h in
        record { head = head; frame = frame; records = records ∙ ap (λ (l : List LogEntry). Ok l) same; clean = clean; rest = rest }

    by_frame : (r : Result BlockHead BlockRefusal) → frame_at shape start bytes ≡ r → IsReadOf shape streams start bytes entries
    by_frame (Err refusal) e = let none = sym (block_refused shape streams start bytes refusal e) ∙ is in absurd (cc none)
    by_frame (Ok head) e = by_rest head e (records_from streams (payload_of head.used bytes) head.records start 16) (rest_at bytes head) refl refl
        (sym (block_framed shape streams start bytes head e) ∙ is)

-- in a log of more streams they are the same
pub block_more : (shape : Shape) (streams more start : ℕ) (bytes : List ℕ) (entries : List LogEntry) → streams ≤ more
    → block_records shape streams start bytes ≡ Ok entries → block_records shape more start bytes ≡ Ok entries
block_more shape streams more start bytes entries le is =
    let read = read_of shape streams start bytes entries is in
    block_read shape more start bytes read.head read.frame entries
    (records_more streams (payload_of read.head.used bytes) more le read.head.records start 16 entries read.records) read.clean read.rest

-- there are some, and no more than a block has
pub block_count : (shape : Shape) (streams start : ℕ) (bytes : List ℕ) (entries : List LogEntry)
    → block_records shape streams start bytes ≡ Ok entries → (1 ≤ length entries) × (length entries ≤ 511)
block_count shape streams start bytes entries is =
    let read = read_of shape streams start bytes entries is in
    let frame = has_frame shape start bytes read.head read.frame in
    let count = records_count streams (payload_of read.head.used bytes) read.head.records start 16 entries read.records in
    (omega (arith, count, frame.records.0), omega (arith, count, frame.records.1))

-- each has its own LSN and no more data than the longest record
pub block_each : (shape : Shape) (streams start : ℕ) (bytes : List ℕ) (entries : List LogEntry) → block_records shape streams start bytes ≡ Ok entries
    → (i : ℕ) (entry : LogEntry) → slice_get entries i ≡ Some entry → (entry.lsn ≡ start + i) × (length entry.bytes ≤ longest shape)
block_each shape streams start bytes entries is i entry found =
    let read = read_of shape streams start bytes entries is in
    let frame = has_frame shape start bytes read.head read.frame in
    let one = records_each streams (payload_of read.head.used bytes) read.head.records start 16 entries read.records i entry found in
    let long = length-payload_of read.head.used bytes in
    (one.0, omega (arith, one.1, long, frame.used, frame.largest))

-- they are read of any bytes that agree on the block's own
pub block_agrees : AreJudgedAlone → (shape : Shape) (streams start : ℕ) (bytes other : List ℕ) (count : ℕ) (entries : List LogEntry)
    → block_records shape streams start bytes ≡ Ok entries → 512 * (head_of bytes).sectors ≤ count → take count other ≡ take count bytes
    → block_records shape streams start other ≡ Ok entries
block_agrees judged shape streams start bytes other count entries is enough same =
    let read = read_of shape streams start bytes entries is in
    let frame = has_frame shape start bytes read.head read.frame in
    let said : read.head.sectors ≡ (head_of bytes).sectors = ap (λ (h : BlockHead). h.sectors) frame.numbers in
    let first : 512 ≤ count = omega (arith, frame.some, said, enough) in
    let near : 2 + 2 ≤ count = omega (arith, first) in
    let alike : (head_of other).sectors ≡ (head_of bytes).sectors =
    sym (two other count 2 near) ∙ ap (λ (l : List ℕ). little_number 2 (drop 2 l)) same ∙ two bytes count 2 near in
    sym (block_same judged has_frame shape streams start other count (record { first = first; all = inl (omega (arith, enough, alike)) }))
    ∙ ap (block_records shape streams start) same
    ∙ block_same judged has_frame shape streams start bytes count (record { first = first; all = inl enough }) ∙ is
