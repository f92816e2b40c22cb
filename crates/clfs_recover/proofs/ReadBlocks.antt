-- The records that are read from a block: each fits its LSN, and with the header they take the bytes that the block says to use.
use Rattle.clfs_recover.proofs.Words.{◌≡◌, ℕ, zero, suc, ◌+◌, ◌^◌, ◌<◌, ◌≤◌, Bool, true, false, cond, eqb, List, [], ◌∷◌, length, drop, Result, Ok, Err, refl}
use Rattle.clfs_recover.proofs.Words.{◌∙◌, ap, subst, arith, length-drop, eqb-true, length-map-range_with_len, slice_index, size, sectors, FitsAt, record_at}
use Rattle.clfs_recover.proofs.Words.{LogEntry, Shape, block_sectors, place_of, payload_of, left_from, frame_at, rest_at, AreReadAsWritten, BlockHead}
use Rattle.clfs_recover.proofs.Words.{BlockRefusal, ◌>>=◌, told_as, records_from, block_records, FitFrom}
use Rattle.clfs_block.specs.declared.head.BlockRefusal.TheVariants as blocks
use Rattle.clfs_recover.proofs.Binding.{bound, one_value, told_value}
use Rattle.clfs_recover.proofs.Containers.{sectors_said}

-- a record that was read fits its LSN, and lies whole in the bytes
abbrev pub ReadsFit : Type 0
ReadsFit = (lsn streams : ℕ) (bytes : List ℕ) (entry : LogEntry) (count : ℕ) → length bytes < 2 ^ 32 → record_at lsn streams bytes ≡ Ok (entry, count)
    → FitsAt lsn streams entry × (count ≡ size (length entry.bytes)) × (count ≤ length bytes)

-- the bytes that records take in a payload
abbrev pub taken_bytes : List LogEntry → ℕ
taken_bytes [] = 0
taken_bytes (entry ∷ entries) = size (length entry.bytes) + taken_bytes entries

-- ---- the records of a payload

-- so many records that were read of a payload, from a byte on up to its end
record AreRead (streams count lsn p end : ℕ) (entries : List LogEntry) : Type 0 where
  count_is : length entries ≡ count
  fit : FitFrom lsn streams entries
  all : p + taken_bytes entries ≡ end

abbrev read : List LogEntry → Result (List LogEntry) ℕ
read entries = Ok entries

abbrev read_whole : List LogEntry → Result (List LogEntry) BlockRefusal
read_whole entries = Ok entries

at_end : (b : Bool) (entries : List LogEntry) → cond b (read []) (Err 8) ≡ Ok entries → (b ≡ true) × ([] ≡ entries)
at_end true entries e = (refl, one_value (read []) [] entries refl e)
at_end false entries e = absurd (cc e)

module _ (reads : ReadsFit) (streams : ℕ) (payload : List ℕ) (small : length payload < 2 ^ 32) where
  records_read : (count lsn p : ℕ) (entries : List LogEntry) → records_from streams payload count lsn p ≡ Ok entries
      → AreRead streams count lsn p (length payload) entries
  records_read zero lsn p entries is =
      let end = at_end (eqb p (length payload)) entries is in
      subst (AreRead streams 0 lsn p (length payload)) end.1
      (record { count_is = refl; fit = tt; all = omega (arith, eqb-true p (length payload) end.0) })
  records_read (suc count) lsn p entries is =
      let first = bound (told_as (λ at. place_of (p + at)) (record_at lsn streams (drop p payload)))
      (λ (x : LogEntry × ℕ). records_from streams payload count (lsn + 1) (p + x.1) >>= λ (es : List LogEntry). Ok (x.0 ∷ es)) entries is in
      let entry : LogEntry = first.first.0 in
      let n : ℕ = first.first.1 in
      let there = told_value (λ at. place_of (p + at)) (record_at lsn streams (drop p payload)) first.first first.is in
      let rest = bound (records_from streams payload count (lsn + 1) (p + n)) (λ (es : List LogEntry). Ok (entry ∷ es)) entries first.then in
      let fits = reads lsn streams (drop p payload) entry n (omega (arith, small, length-drop p payload)) there in
      let more = records_read count (lsn + 1) (p + n) rest.first rest.is in
      subst (AreRead streams (suc count) lsn p (length payload)) (one_value (read (entry ∷ rest.first)) (entry ∷ rest.first) entries refl rest.then) (record {
        count_is = omega (arith, more.count_is);
        fit = (fits.0, more.fit);
        all = omega (arith, fits.1, more.all);
      })

-- ---- the records of a block

-- A block from which these records were read: they fit LSNs in a row, and with the header they take the sectors that it says to have.
pub record HasRead (shape : Shape) (streams start : ℕ) (entries : List LogEntry) (block : List ℕ) : Type 0 where
  pub some : 1 ≤ length entries
  pub few : length entries ≤ 511
  pub fit : FitFrom start streams entries
  pub some_sectors : 1 ≤ block_sectors block
  pub sectors_are : sectors (16 + taken_bytes entries) ≡ block_sectors block
  pub largest : block_sectors block ≤ shape.block_sectors
  pub left : block_sectors block ≤ left_from shape start
  pub long : 512 ≤ length block

pub block_read : AreReadAsWritten → ReadsFit → (shape : Shape) → shape.block_sectors ≤ 128 → (streams start : ℕ) (entries : List LogEntry) (block : List ℕ)
    → block_records shape streams start block ≡ Ok entries → HasRead shape streams start entries block
unfolding block_records
block_read written reads shape small streams start entries block is =
    let framed = bound (frame_at shape start block) (λ (head : BlockHead).
    told_as blocks.BadByte (records_from streams (payload_of head.used block) head.records start 16) >>= λ (es : List LogEntry).
    (rest_at block head >>= λ (clean : BlockHead). Ok es)) entries is in
    let head : BlockHead = framed.first in
    let frame = written.holds shape start block head framed.is in
    let payload : List ℕ = payload_of head.used block in
    let found = bound (told_as blocks.BadByte (records_from streams payload head.records start 16))
    (λ (es : List LogEntry). rest_at block head >>= λ (clean : BlockHead). Ok es) entries framed.then in
    let behind = bound (rest_at block head) (λ (clean : BlockHead). Ok found.first) entries found.then in
    let long : length payload ≡ head.used = length-map-range_with_len (λ p. slice_index block (place_of p)) 0 head.used in
    let said : head.sectors ≡ block_sectors block = ap (λ (h : BlockHead). h.sectors) frame.numbers ∙ sectors_said block in
    let read = records_read reads streams payload (omega (arith, long, frame.used, frame.largest, small)) head.records start 16 found.first
    (told_value blocks.BadByte (records_from streams payload head.records start 16) found.first found.is) in
    let all : 16 + taken_bytes found.first ≡ head.used = omega (arith, read.all, long) in
    subst (λ (es : List LogEntry). HasRead shape streams start es block) (one_value (read_whole found.first) found.first entries refl behind.then) (record {
      some = omega (arith, read.count_is, frame.records.0);
      few = omega (arith, read.count_is, frame.records.1);
      fit = read.fit;
      some_sectors = omega (arith, frame.some, said);
      sectors_are = ap sectors all ∙ frame.used ∙ said;
      largest = omega (arith, frame.largest, said);
      left = omega (arith, frame.left, said);
      long = omega (arith, frame.whole, frame.some);
    })
