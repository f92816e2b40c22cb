-- Laws of the records of a block: what the answers of its checks make of them, one record after the other, and by which bytes they are
-- judged. They stand beside the definitions, so that whoever reads blocks can cite them.
use Rattle.std.specs.Prelude.{◌≡◌, ℕ, suc, ◌+◌, ◌-◌, ◌*◌, ◌<◌, ◌≤◌, Bool, cond, eqb, List, [], ◌∷◌, ◌++◌, length, take, drop, Result, Ok, Err}
use Rattle.std.proofs.Common.{refl, sym, ◌∙◌, ap, ⊎_elim, arith, append_assoc}
use Rattle.std.proofs.lemmas.List.{append-nil}
use Rattle.std.proofs.lemmas.Bool.{lt-ltb, eq-eqb, ne_eqb}
use Rattle.clfs_lsn.specs.Format.{block_header, record_header, sector_bytes}
use Rattle.clfs_lsn.specs.Spelling.{record_at}
use Rattle.clfs_lsn.specs.declared.entry.LogEntry.{LogEntry}
use Rattle.clfs_lsn.specs.declared.shape.Shape.{Shape}
use Rattle.clfs_block.specs.Frame.{place_of, payload_of}
use Rattle.clfs_block.specs.Checks.{head_of, frame_at, rest_at, HasFrame, IsEnough}
use Rattle.clfs_block.specs.Judging.{AreJudgedAlone}
use Rattle.clfs_block.specs.Records.{◌>>=◌, told_as, records_from, block_records}
use Rattle.clfs_block.specs.declared.head.BlockHead.{BlockHead}
use Rattle.clfs_block.specs.declared.head.BlockRefusal.{BlockRefusal}
use Rattle.clfs_block.specs.declared.head.BlockRefusal.TheVariants.{BadByte}

-- ---- by the answers of a block's checks

-- the records of a block whose frame is right, by its payload and what is found after the used bytes
abbrev pub framed_records : ℕ → ℕ → BlockHead → List ℕ → Result BlockHead BlockRefusal → Result (List LogEntry) BlockRefusal
framed_records streams start head payload rest =
    told_as BadByte (records_from streams payload head.records start block_header)
    >>= λ (entries : List LogEntry). (rest >>= λ (clean : BlockHead). Ok entries)

module _ (shape : Shape) (streams start : ℕ) (bytes : List ℕ) where
  -- a frame that is refused
  pub block_refused : (refusal : BlockRefusal) → frame_at shape start bytes ≡ Err refusal → block_records shape streams start bytes ≡ Err refusal
  unfolding block_records
  block_refused refusal is = rw is refl

  module _ (head : BlockHead) (is : frame_at shape start bytes ≡ Ok head) where
    -- a frame that is right
    pub block_framed : block_records shape streams start bytes ≡ framed_records streams start head (payload_of head.used bytes) (rest_at bytes head)
    unfolding block_records
    block_framed = rw is refl

    -- a record that is wrong
    pub records_refused : (at : ℕ) → records_from streams (payload_of head.used bytes) head.records start block_header ≡ Err at
        → block_records shape streams start bytes ≡ Err (BadByte at)
    records_refused at wrong = block_framed ∙ ap (λ (r : Result (List LogEntry) ℕ).
        told_as BadByte r >>= λ (entries : List LogEntry). (rest_at bytes head >>= λ (clean : BlockHead). Ok entries)) wrong

    module _ (entries : List LogEntry) (right : records_from streams (payload_of head.used bytes) head.records start block_header ≡ Ok entries) where
      -- after right records all is as what is found there
      judged_behind : block_records shape streams start bytes ≡ (rest_at bytes head >>= λ (clean : BlockHead). Ok entries)
      judged_behind = block_framed ∙ ap (λ (r : Result (List LogEntry) ℕ).
          told_as BadByte r >>= λ (es : List LogEntry). (rest_at bytes head >>= λ (clean : BlockHead). Ok es)) right

      -- a byte after the records that is wrong
      pub rest_refused : (refusal : BlockRefusal) → rest_at bytes head ≡ Err refusal → block_records shape streams start bytes ≡ Err refusal
      rest_refused refusal wrong = judged_behind ∙ ap (λ (r : Result BlockHead BlockRefusal). r >>= λ (clean : BlockHead). Ok entries) wrong

      -- nothing is wrong
      pub block_read : (other : BlockHead) → rest_at bytes head ≡ Ok other → block_records shape streams start bytes ≡ Ok entries
      block_read other clean_is = judged_behind ∙ ap (λ (r : Result BlockHead BlockRefusal). r >>= λ (clean : BlockHead). Ok entries) clean_is

-- ---- one record after the other

-- what reading gives with records before it
abbrev pub behind : {E : Type 0} → List LogEntry → Result (List LogEntry) E → Result (List LogEntry) E
behind entries (Ok more) = Ok (entries ++ more)
behind entries (Err e) = Err e

-- two lists before it are one
pub behind-append : {E : Type 0} (a b : List LogEntry) (r : Result (List LogEntry) E) → behind (a ++ b) r ≡ behind a (behind b r)
behind-append a b (Ok more) = ap (λ (l : List LogEntry). Ok l) (append_assoc a b more)
behind-append a b (Err e) = refl

-- with none before it, it is as it was
pub behind-nil : {E : Type 0} (r : Result (List LogEntry) E) → behind [] r ≡ r
behind-nil (Ok more) = refl
behind-nil (Err e) = refl

-- a record before those that reading gives
consed : {E : Type 0} (e : LogEntry) (r : Result (List LogEntry) E) → (r >>= λ (es : List LogEntry). Ok (e ∷ es)) ≡ behind (e ∷ []) r
consed e (Ok es) = refl
consed e (Err x) = refl

module _ (streams : ℕ) (payload : List ℕ) (n lsn p : ℕ) where
  -- a record that is right is taken, and reading goes on after it
  pub record_taken : (e : LogEntry) (size : ℕ) → record_at lsn streams (drop p payload) ≡ Ok (e, size)
      → records_from streams payload (suc n) lsn p ≡ behind (e ∷ []) (records_from streams payload n (lsn + 1) (p + size))
  record_taken e size is =
      ap (λ (r : Result (LogEntry × ℕ) ℕ). told_as (λ at. place_of (p + at)) r >>= λ (x : LogEntry × ℕ).
      (records_from streams payload n (lsn + 1) (p + x.1) >>= λ (es : List LogEntry). Ok (x.0 ∷ es))) is
      ∙ consed e (records_from streams payload n (lsn + 1) (p + size))

  -- and a wrong one is told
  pub record_wrong : (at : ℕ) → record_at lsn streams (drop p payload) ≡ Err at → records_from streams payload (suc n) lsn p ≡ Err (place_of (p + at))
  record_wrong at is =
      ap (λ (r : Result (LogEntry × ℕ) ℕ). told_as (λ at. place_of (p + at)) r >>= λ (x : LogEntry × ℕ).
      (records_from streams payload n (lsn + 1) (p + x.1) >>= λ (es : List LogEntry). Ok (x.0 ∷ es))) is

-- the answer at the end of the records
abbrev ended : Bool → Result (List LogEntry) ℕ
ended b = cond b (Ok []) (Err 8)

-- the answer with these records
abbrev taken : List LogEntry → Result (List LogEntry) ℕ
taken l = Ok l

-- bytes that are too few for a header are no record
pub no_header : (lsn streams : ℕ) (bytes : List ℕ) → length bytes < record_header → record_at lsn streams bytes ≡ Err 0
unfolding record_at
no_header lsn streams bytes short = rw (lt-ltb (length bytes) record_header short) refl

module _ (streams : ℕ) (payload : List ℕ) (count start : ℕ) where
  -- what is left to read at a position of the block, from a byte of the payload on
  abbrev from_here : ℕ → ℕ → Result (List LogEntry) ℕ
  from_here sequence p = records_from streams payload (count - sequence) (start + sequence) p

  -- one of them is the next
  one_more : (sequence p : ℕ) → sequence < count
      → from_here sequence p ≡ records_from streams payload (suc (count - (sequence + 1))) (start + sequence) p
  one_more sequence p lt =
      let e : count - sequence ≡ suc (count - (sequence + 1)) = omega (arith, lt) in
      ap (λ (n : ℕ). records_from streams payload n (start + sequence) p) e

  -- a record more was taken
  pub records_step : (sequence p size : ℕ) (entry : LogEntry) (entries : List LogEntry) (all : Result (List LogEntry) ℕ) → sequence < count
      → behind entries (from_here sequence p) ≡ all → record_at (start + sequence) streams (drop p payload) ≡ Ok (entry, size)
      → behind (entries ++ entry ∷ []) (from_here (sequence + 1) (p + size)) ≡ all
  records_step sequence p size entry entries all lt so_far is =
      let n : ℕ = count - (sequence + 1) in
      let next : start + sequence + 1 ≡ start + (sequence + 1) = omega arith in
      behind-append entries (entry ∷ []) (from_here (sequence + 1) (p + size))
      ∙ ap (λ (k : ℕ). behind entries (behind (entry ∷ []) (records_from streams payload n k (p + size)))) (sym next)
      ∙ ap (λ (r : Result (List LogEntry) ℕ). behind entries r)
      (sym (one_more sequence p lt ∙ record_taken streams payload n (start + sequence) p entry size is))
      ∙ so_far

  -- a record was wrong
  pub records_stop : (sequence p at : ℕ) (entries : List LogEntry) (all : Result (List LogEntry) ℕ) → sequence < count
      → behind entries (from_here sequence p) ≡ all → record_at (start + sequence) streams (drop p payload) ≡ Err at
      → all ≡ Err (place_of (p + at))
  records_stop sequence p at entries all lt so_far is =
      sym so_far ∙ ap (λ (r : Result (List LogEntry) ℕ). behind entries r)
      (one_more sequence p lt ∙ record_wrong streams payload (count - (sequence + 1)) (start + sequence) p at is)

  -- no record is left
  at_end : (sequence p : ℕ) → count ≤ sequence → from_here sequence p ≡ cond (eqb p (length payload)) (Ok []) (Err 8)
  at_end sequence p le =
      let e : count - sequence ≡ 0 = omega (arith, le) in ap (λ (n : ℕ). records_from streams payload n (start + sequence) p) e

  -- all were taken, and the payload ends after them
  pub records_done : (sequence p : ℕ) (entries : List LogEntry) (all : Result (List LogEntry) ℕ) → count ≤ sequence
      → behind entries (from_here sequence p) ≡ all → p ≡ length payload → all ≡ Ok entries
  records_done sequence p entries all le so_far is =
      sym so_far ∙ ap (λ (r : Result (List LogEntry) ℕ). behind entries r)
      (at_end sequence p le ∙ ap (λ b. ended b) (eq-eqb p (length payload) is))
      ∙ ap (λ (l : List LogEntry). taken l) (append-nil entries)

  -- and where it doesn't
  pub records_uneven : (sequence p : ℕ) (entries : List LogEntry) (all : Result (List LogEntry) ℕ) → count ≤ sequence
      → behind entries (from_here sequence p) ≡ all → (p ≡ length payload → ⊥) → all ≡ Err 8
  records_uneven sequence p entries all le so_far not =
      sym so_far ∙ ap (λ (r : Result (List LogEntry) ℕ). behind entries r)
      (at_end sequence p le ∙ ap (λ b. ended b) (ne_eqb p (length payload) not))

-- ---- by which bytes they are judged

-- what the checks of a block's frame say where they hold
abbrev pub Holds : Type 0
Holds = (shape : Shape) (start : ℕ) (bytes : List ℕ) (head : BlockHead) → frame_at shape start bytes ≡ Ok head → HasFrame shape start bytes head

module _ (judged : AreJudgedAlone) (holds : Holds) (shape : Shape) (streams start : ℕ) where
  -- The records of a block are judged by its own bytes: what follows them, or that nothing does, changes nothing.
  pub block_same : (bytes : List ℕ) (count : ℕ) → IsEnough shape bytes count
      → block_records shape streams start (take count bytes) ≡ block_records shape streams start bytes
  block_same bytes count enough = by_answer (frame_at shape start bytes) refl
    where
      same : frame_at shape start (take count bytes) ≡ frame_at shape start bytes
      same = judged.frame shape start bytes count enough

      by_answer : (r : Result BlockHead BlockRefusal) → frame_at shape start bytes ≡ r
          → block_records shape streams start (take count bytes) ≡ block_records shape streams start bytes
      by_answer (Err refusal) is =
          block_refused shape streams start (take count bytes) refusal (same ∙ is) ∙ sym (block_refused shape streams start bytes refusal is)
      by_answer (Ok head) is =
          let frame = holds shape start bytes head is in
          let said : head.sectors ≡ (head_of bytes).sectors = ap (λ (h : BlockHead). h.sectors) frame.numbers in
          let all : sector_bytes * head.sectors ≤ count = ⊎_elim (λ (own : sector_bytes * (head_of bytes).sectors ≤ count). omega (arith, own, said))
          (λ (largest : sector_bytes * shape.block_sectors ≤ count). omega (arith, largest, frame.largest)) enough.all in
          block_framed shape streams start (take count bytes) head (same ∙ is)
          ∙ ap (λ (l : List ℕ). framed_records streams start head l (rest_at (take count bytes) head)) (judged.payload bytes head count frame.used all)
          ∙ ap (framed_records streams start head (payload_of head.used bytes)) (judged.rest bytes head count frame.used all)
          ∙ sym (block_framed shape streams start bytes head is)
