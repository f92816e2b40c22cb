-- The records that are read from a block: each fits its LSN, and with the header they take the bytes that the block says to use.
use Rattle.clfs_archive_form.proofs.Words.{◌≡◌, ℕ, zero, suc, ◌+◌, ◌*◌, ◌^◌, ◌<◌, ◌≤◌, Bool, true, false, cond, eqb, List, [], ◌∷◌, length, drop, Result, Ok}
use Rattle.clfs_archive_form.proofs.Words.{Err, refl, sym, ◌∙◌, ap, subst, arith, eqb-true, length-drop, length-map-range_with_len, size, sectors, FitsAt}
use Rattle.clfs_archive_form.proofs.Words.{record_at, LogEntry, Shape, block_sectors, frame_at, AreReadAsWritten, BlockHead, BlockRefusal, ◌>>=◌, told_as}
use Rattle.clfs_archive_form.proofs.Words.{block_records, FitFrom}
use Rattle.std.specs.Prelude.{slice_index}
use Rattle.clfs_block.specs.Frame.{place_of, payload_of}
use Rattle.clfs_block.specs.Checks.{left_from, rest_at}
use Rattle.clfs_block.specs.declared.head.BlockRefusal.TheVariants as blocks
use Rattle.clfs_block.specs.Records.{records_from}
use Rattle.clfs_archive_form.proofs.OpenEnds.{sectors_said}

-- ---- answers that come of earlier ones

-- where a later answer is a value, the earlier one was
pub record IsBound {A B E : Type 0} (r : Result A E) (next : A → Result B E) (value : B) : Type 0 where
  pub first : A
  pub is : r ≡ Ok first
  pub then : next first ≡ Ok value

pub bound : {A B E : Type 0} (r : Result A E) (next : A → Result B E) (value : B) → (r >>= next) ≡ Ok value → IsBound r next value
bound (Ok a) next value e = record { first = a; is = refl; then = e }
bound (Err x) next value e = absurd (cc e)

-- an answer has one value
pub one_value : {A E : Type 0} (r : Result A E) (a b : A) → r ≡ Ok a → r ≡ Ok b → a ≡ b
one_value (Ok x) a b p q = (let first : x ≡ a = cc in let other : x ≡ b = cc in sym first ∙ other)
one_value (Err e) a b p q = absurd (cc p)

-- an answer that is a value needs no other words
pub told_value : {A E F : Type 0} (told : E → F) (r : Result A E) (value : A) → told_as told r ≡ Ok value → r ≡ Ok value
told_value told (Ok a) value e = cc e
told_value told (Err x) value e = absurd (cc e)

-- ---- the records of a payload

-- a record that was read fits its LSN, and lies whole in the bytes
abbrev pub ReadsFit : Type 0
ReadsFit = (lsn streams : ℕ) (bytes : List ℕ) (entry : LogEntry) (count : ℕ) → length bytes < 2 ^ 32 → record_at lsn streams bytes ≡ Ok (entry, count)
    → FitsAt lsn streams entry × (count ≡ size (length entry.bytes)) × (count ≤ length bytes)

-- the bytes that records take in a payload
abbrev pub taken_bytes : List LogEntry → ℕ
taken_bytes [] = 0
taken_bytes (entry ∷ entries) = size (length entry.bytes) + taken_bytes entries

-- so many records that were read of a payload, from a byte on up to its end
record AreRead (streams count lsn p end : ℕ) (entries : List LogEntry) : Type 0 where
  count_is : length entries ≡ count
  fit : FitFrom lsn streams entries
  all : p + taken_bytes entries ≡ end

abbrev read : List LogEntry → Result (List LogEntry) ℕ
read entries = Ok entries

abbrev read_whole : List LogEntry → Result (List LogEntry) BlockRefusal
read_whole entries = Ok entries

at_end : (b : Bool) (entries : List LogEntry) → cond b (read []) (Err 8) ≡ Ok entries → (b ≡ true) × ([] ≡ entries)
at_end true entries e = (refl, one_value (read []) [] entries refl e)
at_end false entries e = absurd (cc e)

module _ (reads : ReadsFit) (streams : ℕ) (payload : List ℕ) (small : length payload < 2 ^ 32) where
  records_read : (count lsn p : ℕ) (entries : List LogEntry) → records_from streams payload count lsn p ≡ Ok entries
      → AreRead streams count lsn p (length payload) entries
  records_read zero lsn p entries is =
      let end = at_end (eqb p (length payload)) entries is in
      subst (AreRead streams 0 lsn p (length payload)) end.1
      (record { count_is = refl; fit = tt; all = omega (arith, eqb-true p (length payload) end.0) })
  records_read (suc count) lsn p entries is =
      let first = bound (told_as (λ at. place_of (p + at)) (record_at lsn streams (drop p payload)))
      (λ (x : LogEntry × ℕ). records_from streams payload count (lsn + 1) (p + x.1) >>= λ (es : List LogEntry). Ok (x.0 ∷ es)) entries is in
      let entry : LogEntry = first.first.0 in
      let n : ℕ = first.first.1 in
      let there = told_value (λ at. place_of (p + at)) (record_at lsn streams (drop p payload)) first.first first.is in
      let rest = bound (records_from streams payload count (lsn + 1) (p + n)) (λ (es : List LogEntry). Ok (entry ∷ es)) entries first.then in
      let fits = reads lsn streams (drop p payload) entry n (omega (arith, small, length-drop p payload)) there in
      let more = records_read count (lsn + 1) (p + n) rest.first rest.is in
      subst (AreRead streams (suc count) lsn p (length payload)) (one_value (read (entry ∷ rest.first)) (entry ∷ rest.first) entries refl rest.then) (record {
        count_is = omega (arith, more.count_is);
        fit = (fits.0, more.fit);
        all = omega (arith, fits.1, more.all);
      })

-- ---- the records of a block

-- A block from which these records were read: they fit LSNs in a row, and with the header they take the sectors that it says to have.
pub record HasRead (shape : Shape) (streams start : ℕ) (entries : List LogEntry) (block : List ℕ) : Type 0 where
  pub gate : slice_index block 0 ≡ 165
  pub some : 1 ≤ length entries
  pub few : length entries ≤ 511
  pub fit : FitFrom start streams entries
  pub some_sectors : 1 ≤ block_sectors block
  pub sectors_are : sectors (16 + taken_bytes entries) ≡ block_sectors block
  pub largest : block_sectors block ≤ shape.block_sectors
  pub left : block_sectors block ≤ left_from shape start
  pub long : 512 * block_sectors block ≤ length block
  -- and a head that the checks of its frame give says so
  pub heads : (head : BlockHead) → frame_at shape start block ≡ Ok head → (length entries ≡ head.records) × (block_sectors block ≡ head.sectors)

pub has_read : AreReadAsWritten → ReadsFit → (shape : Shape) → shape.block_sectors ≤ 128 → (streams start : ℕ) (entries : List LogEntry) (block : List ℕ)
    → block_records shape streams start block ≡ Ok entries → HasRead shape streams start entries block
unfolding block_records
has_read written reads shape small streams start entries block is =
    let framed = bound (frame_at shape start block) (λ (head : BlockHead).
    told_as blocks.BadByte (records_from streams (payload_of head.used block) head.records start 16) >>= λ (es : List LogEntry).
    (rest_at block head >>= λ (clean : BlockHead). Ok es)) entries is in
    let head : BlockHead = framed.first in
    let frame = written.holds shape start block head framed.is in
    let payload : List ℕ = payload_of head.used block in
    let found = bound (told_as blocks.BadByte (records_from streams payload head.records start 16))
    (λ (es : List LogEntry). rest_at block head >>= λ (clean : BlockHead). Ok es) entries framed.then in
    let behind = bound (rest_at block head) (λ (clean : BlockHead). Ok found.first) entries found.then in
    let long : length payload ≡ head.used = length-map-range_with_len (λ p. slice_index block (place_of p)) 0 head.used in
    let said : head.sectors ≡ block_sectors block = ap (λ (h : BlockHead). h.sectors) frame.numbers ∙ sectors_said block in
    let read = records_read reads streams payload (omega (arith, long, frame.used, frame.largest, small)) head.records start 16 found.first
    (told_value blocks.BadByte (records_from streams payload head.records start 16) found.first found.is) in
    let all : 16 + taken_bytes found.first ≡ head.used = omega (arith, read.all, long) in
    subst (λ (es : List LogEntry). HasRead shape streams start es block) (one_value (read_whole found.first) found.first entries refl behind.then) (record {
      gate = frame.gate;
      some = omega (arith, read.count_is, frame.records.0);
      few = omega (arith, read.count_is, frame.records.1);
      fit = read.fit;
      some_sectors = omega (arith, frame.some, said);
      sectors_are = ap sectors all ∙ frame.used ∙ said;
      largest = omega (arith, frame.largest, said);
      left = omega (arith, frame.left, said);
      long = omega (arith, frame.whole, said);
      heads = λ other there.
          let same : head ≡ other = one_value (frame_at shape start block) head other framed.is there in
          (read.count_is ∙ ap (λ (h : BlockHead). h.records) same, sym said ∙ ap (λ (h : BlockHead). h.sectors) same);
    })
