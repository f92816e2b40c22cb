-- How many records a log can have.
use Rattle.clfs_recover.proofs.Words.{◌≡◌, ℕ, zero, suc, ◌+◌, ◌-◌, ◌*◌, ◌^◌, ◌<◌, ◌≤◌, Bool, true, false, cond, eqb, List, [], ◌∷◌, length, drop, Result, Ok}
use Rattle.clfs_recover.proofs.Words.{Err, refl, sym, ◌∙◌, ap, arith, length-append, AllByRecursion, recursion_from_All, lsn_number, record_at, LogEntry}
use Rattle.clfs_recover.proofs.Words.{Shape, block_sectors, place_of, payload_of, frame_at, rest_at, AreReadAsWritten, BlockHead, BlockRefusal, ◌>>=◌}
use Rattle.clfs_recover.proofs.Words.{told_as, records_from, block_records, shape_of, damage_at, stored_in, stored_records, LieIn, IsLogOf, Parts}
use Rattle.clfs_recover.proofs.Words.{block_framed, block_refused}
use Rattle.clfs_block.specs.declared.head.BlockRefusal.TheVariants as blocks
use Rattle.clfs_recover.proofs.Joined.{AreBoth, both_there}

-- ---- of a block

abbrev Read : Type 0
Read = Result (List LogEntry) ℕ

abbrev ended : Bool → Read
ended b = cond b (Ok []) (Err 8)

-- as many records are read as were to be
records_count : (streams : ℕ) (payload : List ℕ) (count lsn p : ℕ) (entries : List LogEntry) → records_from streams payload count lsn p ≡ Ok entries
    → length entries ≡ count
records_count streams payload zero lsn p entries is = by_end (eqb p (length payload)) is
  where
    by_end : (b : Bool) → ended b ≡ Ok entries → length entries ≡ 0
    by_end true e = let none : [] ≡ entries = cc e in ap length (sym none)
    by_end false e = absurd (cc e)
records_count streams payload (suc n) lsn p entries is = by_record (records_count streams payload n (lsn + 1)) (record_at lsn streams (drop p payload)) is
  where
    by_rest : (entry : LogEntry) (s : Read) → ((es : List LogEntry) → s ≡ Ok es → length es ≡ n)
        → (s >>= λ (es : List LogEntry). Ok (entry ∷ es)) ≡ Ok entries → length entries ≡ suc n
    by_rest entry (Err at) few e = absurd (cc e)
    by_rest entry (Ok es) few e = let all : entry ∷ es ≡ entries = cc e in ap length (sym all) ∙ ap (λ (k : ℕ). suc k) (few es refl)

    by_record : ((q : ℕ) (es : List LogEntry) → records_from streams payload n (lsn + 1) q ≡ Ok es → length es ≡ n) → (r : Result (LogEntry × ℕ) ℕ)
        → (told_as (λ at. place_of (p + at)) r >>= λ (x : LogEntry × ℕ).
        (records_from streams payload n (lsn + 1) (p + x.1) >>= λ (es : List LogEntry). Ok (x.0 ∷ es))) ≡ Ok entries
        → length entries ≡ suc n
    by_record few (Err at) e = absurd (cc e)
    by_record few (Ok x) e = by_rest x.0 (records_from streams payload n (lsn + 1) (p + x.1)) (few (p + x.1)) e

-- a block has no more than 511
block_count : AreReadAsWritten → (shape : Shape) (streams start : ℕ) (bytes : List ℕ) (entries : List LogEntry)
    → block_records shape streams start bytes ≡ Ok entries → length entries ≤ 511
block_count written shape streams start bytes entries is = by_answer (frame_at shape start bytes) refl
  where
    by_records : (head : BlockHead) (r : Read) (s : Result BlockHead BlockRefusal) → ((es : List LogEntry) → r ≡ Ok es → length es ≡ head.records)
        → (told_as blocks.BadByte r >>= λ (es : List LogEntry). (s >>= λ (clean : BlockHead). Ok es)) ≡ Ok entries → length entries ≡ head.records
    by_records head (Err at) s count e = absurd (cc e)
    by_records head (Ok es) (Err refusal) count e = absurd (cc e)
    by_records head (Ok es) (Ok clean) count e = let all : es ≡ entries = cc e in ap length (sym all) ∙ count es refl

    by_answer : (r : Result BlockHead BlockRefusal) → frame_at shape start bytes ≡ r → length entries ≤ 511
    by_answer (Err refusal) frame = let e = sym (block_refused shape streams start bytes refusal frame) ∙ is in absurd (cc e)
    by_answer (Ok head) frame =
        let count = by_records head (records_from streams (payload_of head.used bytes) head.records start 16) (rest_at bytes head)
        (records_count streams (payload_of head.used bytes) head.records start 16) (sym (block_framed shape streams start bytes head frame) ∙ is) in
        omega (arith, count, (written.holds shape start bytes head frame).records.1)

-- ---- of a log

told_count : (container offset : ℕ) (r : Result (List LogEntry) BlockRefusal) (entries : List LogEntry)
    → told_as (damage_at container offset) r ≡ Ok entries → r ≡ Ok entries
told_count container offset (Err refusal) entries e = absurd (cc e)
told_count container offset (Ok es) entries e = cc e

module _ (written : AreReadAsWritten) (shape : Shape) (streams : ℕ) where
  -- each block has a sector at least
  blocks_count : (id offset left : ℕ) (some : List (List ℕ)) (entries : List LogEntry) → LieIn left some
      → stored_in shape streams id offset some ≡ Ok entries → length entries ≤ 511 * left
  blocks_count id offset left [] entries lie is = let none : [] ≡ entries = cc is in omega (arith, ap length none)
  blocks_count id offset left (block ∷ others) entries lie is =
      let own = told_as (damage_at id offset) (block_records shape streams (lsn_number id offset 0) block) in
      let both : AreBoth own (stored_in shape streams id (offset + length block) others) entries =
      both_there own (stored_in shape streams id (offset + length block) others) entries is in
      let few = block_count written shape streams (lsn_number id offset 0) block both.own
      (told_count id offset (block_records shape streams (lsn_number id offset 0) block) both.own both.first) in
      let rest = blocks_count id (offset + length block) (left - block_sectors block) others both.others lie.2 both.second in
      omega (arith, ap length both.is, length-append both.own both.others, few, rest, lie.1.some, lie.1.fits)

  containers_count : (id : ℕ) (some : List (List (List ℕ))) (entries : List LogEntry) → shape.container_sectors ≤ 16384
      → AllByRecursion (LieIn shape.container_sectors) some → stored_records shape streams id some ≡ Ok entries
      → length entries ≤ 8372224 * length some
  containers_count id [] entries small lie is = let none : [] ≡ entries = cc is in omega (arith, ap length none)
  containers_count id (container ∷ others) entries small lie is =
      let both : AreBoth (stored_in shape streams id 0 container) (stored_records shape streams (id + 1) others) entries =
      both_there (stored_in shape streams id 0 container) (stored_records shape streams (id + 1) others) entries is in
      let few = blocks_count id 0 shape.container_sectors container both.own lie.0 both.first in
      let rest = containers_count (id + 1) others both.others small lie.1 both.second in
      omega (arith, ap length both.is, length-append both.own both.others, few, rest, small)

-- a log has fewer than 2 ^ 31 records
pub few_records : AreReadAsWritten → (parts : Parts) → IsLogOf parts → length parts.entries < 2 ^ 31
few_records written parts log =
    let few = containers_count written (shape_of parts.image) (length parts.image.streams) parts.image.first log.blocks parts.entries
    log.image.shape.largest_container (recursion_from_All (LieIn parts.image.container_sectors) log.blocks log.lie) log.records in
    omega (arith, few, log.listed, log.image.few_listed, log.image.containers_made, log.image.few_made)
