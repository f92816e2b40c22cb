-- A log whose open block has ended: its place, and what is on the disk up to there.
use Rattle.clfs_manager.proofs.Words.{◌≡◌, ℕ, ◌+◌, ◌*◌, ◌%◌, ◌<◌, ◌≤◌, true, false, refl, sym, ap, ◌∙◌, inl, inr, List, [], ◌∷◌, ◌++◌, arith, All, nat_lt}
use Rattle.clfs_manager.proofs.Words.{cases_Bool, cases_lt, lt-ltb, le-ltb, All-head, All-weaker, lsn_number, container_of, offset_of, sequence_of, IsWithin}
use Rattle.clfs_manager.proofs.Words.{block_end, frontier, sealed, LogEntry, Place, Shape, total, IsLaid, State, block_start, first_or, flush, flushed}
use Rattle.clfs_manager.proofs.Words.{IsValid, IsRecord, IsWaiting, HasRanges, HasWaiting, IsGroupOf, Queued, AreBlocks, BeginsAt}
use Rattle.std.proofs.Common.{if◌then◌else◌}
use Rattle.clfs_lsn.specs.Place.{IsOpen}
use Rattle.clfs_queue.specs.Queued.{seal}
use Rattle.clfs_manager.proofs.Ending.{opened, parts_at}

-- the place once its block, where one is open, takes no more records
abbrev pub closed_place : Place → Place
closed_place place = if nat_lt 0 place.records then sealed place else place

pub flush_is : (s : State) → flush s ≡ record s { waiting = []; place = closed_place s.place }
flush_is s = elim (cases_Bool (nat_lt 0 s.place.records)) [
  | inl some ↦ rw some refl
  | inr none ↦ rw none refl
]

-- What a queue has once its open block has ended.
pub record IsEnded (q : Queued) : Type 0 where
  pub shape : (seal q).shape ≡ q.shape
  pub buffers : (seal q).buffers ≡ q.buffers
  pub place : (seal q).place ≡ closed_place q.place
  pub records : (seal q).records ≡ q.records
  pub starts : first_or (block_start (closed_place q.place)) (seal q).waiting ≡ first_or (block_start q.place) q.waiting

first_behind : (other start : ℕ) (starts : List ℕ) → first_or other (starts ++ start ∷ []) ≡ first_or start starts
first_behind other start [] = refl
first_behind other start (first ∷ starts) = refl

pub is_ended : (q : Queued) → IsEnded q
is_ended q = elim (cases_Bool (nat_lt 0 q.place.records)) [
  | inl some ↦ record {
    shape = rw some refl;
    buffers = rw some refl;
    place = rw some refl;
    records = rw some refl;
    starts = rw some (first_behind (block_start (sealed q.place)) (block_start q.place) q.waiting);
  }
  | inr none ↦ record { shape = rw none refl; buffers = rw none refl; place = rw none refl; records = rw none refl; starts = rw none refl }
]

-- The closed place against the one before.
pub record IsClosedOf (shape : Shape) (place : Place) : Type 0 where
  pub container : (closed_place place).container ≡ place.container
  pub offset : (closed_place place).offset % 512 ≡ 0
  pub low : (closed_place place).offset ≤ 512 * shape.container_sectors
  pub records : (closed_place place).records ≡ 0
  pub front : frontier place ≤ block_start (closed_place place)
  pub start : block_start place ≤ block_start (closed_place place)

pub is_closed_of : (shape : Shape) (place : Place) → IsWithin shape place → IsClosedOf shape place
is_closed_of shape place within = elim (cases_lt 0 place.records) [
  | inl some ↦
      let t : nat_lt 0 place.records ≡ true = lt-ltb 0 place.records some in
      let at : closed_place place ≡ sealed place = rw t refl in
      let container : (closed_place place).container ≡ place.container = ap (λ (p : Place). p.container) at in
      let offset : (closed_place place).offset ≡ 512 * block_end place = ap (λ (p : Place). p.offset) at in
      let is : IsOpen shape place = opened shape place within some in
      record {
        container = container;
        offset = omega (arith, offset);
        low = omega (arith, within.end, offset);
        records = ap (λ (p : Place). p.records) at;
        front = omega (arith, within.offset, is.few_records, is.some_sectors, offset, container);
        start = omega (arith, within.offset, offset, container);
      }
  | inr none ↦
      let t : nat_lt 0 place.records ≡ false = le-ltb 0 place.records none in
      let at : closed_place place ≡ place = rw t refl in
      let container : (closed_place place).container ≡ place.container = ap (λ (p : Place). p.container) at in
      let offset : (closed_place place).offset ≡ place.offset = ap (λ (p : Place). p.offset) at in
      record {
        container = container;
        offset = omega (arith, within.offset, offset);
        low = omega (arith, within.end, within.offset, offset);
        records = omega (arith, none, ap (λ (p : Place). p.records) at);
        front = omega (arith, none, offset, container);
        start = omega (arith, offset, container);
      }
]

-- what is on the disk ends where a block begins, at or below the open one
pub record IsStart (s : State) : Type 0 where
  pub container : container_of (flushed s) ≡ s.place.container
  pub sequence : sequence_of (flushed s) ≡ 0
  pub below : flushed s ≤ block_start s.place

pub starts_at : (s : State) → HasRanges s → HasWaiting s → IsStart s
starts_at s ranges waits = by_waiting s.waiting waits.blocks
  where
    small : s.place.offset ≤ 8388608
    small = omega (arith, ranges.place.end, ranges.shape.largest_container)

    by_waiting : (waiting : List ℕ) → All (IsWaiting s) waiting
        → IsStart (record s { waiting = waiting })
    by_waiting [] blocks = record { container = omega (arith, small); sequence = omega (arith, ranges.place.offset); below = omega arith }
    by_waiting (start ∷ starts) blocks =
        let first = All-head (IsWaiting s) start starts blocks in
        record { container = first.container; sequence = first.sequence; below = omega (arith, first.below) }

pub is_start : (s : State) → IsValid s → IsStart s
is_start s valid = starts_at s valid.ranges valid.waiting

first_start : (shape : Shape) (id at : ℕ) (starts : List ℕ) (entries : List LogEntry) (blocks : List (List ℕ)) → AreBlocks shape id at starts entries blocks
    → first_or (lsn_number id (at + total blocks) 0) starts ≡ lsn_number id at 0
first_start shape id at [] entries [] are = omega arith
first_start shape id at [] entries (block ∷ blocks) are = absurd are
first_start shape id at (start ∷ starts) entries [] are = absurd are
first_start shape id at (start ∷ starts) entries (block ∷ blocks) are = are.0

-- A group of what waits begins where what is on the disk ends.
pub begins_at : (s : State) (q : Queued) (at : ℕ) (body : List ℕ) → IsLaid s → q.place ≡ s.place → q.waiting ≡ s.waiting → IsGroupOf (seal q) at body
    → BeginsAt s at
begins_at s q at body laid place waiting group =
    let ended = is_ended q in
    let closed = is_closed_of s.shape s.place laid.ranges.place in
    let to : at + total group.blocks ≡ (closed_place s.place).offset = group.end ∙ ap (λ (p : Place). p.offset) (ended.place ∙ ap closed_place place) in
    let id : (seal q).place.container ≡ s.place.container = ap (λ (p : Place). p.container) (ended.place ∙ ap closed_place place) ∙ closed.container in
    let first = first_start (seal q).shape (seal q).place.container at (seal q).waiting (seal q).records group.blocks group.waiting in
    let end : lsn_number (seal q).place.container (at + total group.blocks) 0 ≡ block_start (closed_place q.place) =
    omega (arith, to, id, closed.container, ap (λ (p : Place). block_start (closed_place p)) place) in
    let flushed_here : first_or (block_start q.place) q.waiting ≡ flushed s =
    ap (λ (p : Place). first_or (block_start p) q.waiting) place ∙ ap (first_or (block_start s.place)) waiting in
    let is : flushed s ≡ lsn_number (seal q).place.container at 0 =
    sym flushed_here ∙ sym ended.starts ∙ sym (ap (λ (n : ℕ). first_or n (seal q).waiting) end) ∙ first in
    let here : flushed s ≡ lsn_number s.place.container at 0 = omega (arith, is, id) in
    let start = starts_at s laid.ranges laid.waiting in
    let few : at ≤ 8388608 = omega (arith, to, closed.low, laid.ranges.shape.largest_container) in
    let even : at % 512 ≡ 0 = omega (arith, here, start.sequence) in
    let parts = parts_at s.place.container at 0 even few (omega arith) in
    record { flushed_is = here; container = ap container_of here ∙ parts.0; offset = ap offset_of here ∙ parts.1 }

-- all records lie below the closed place's block
pub all_below_closed : (s : State) → IsLaid s → All (λ (entry : LogEntry). entry.lsn < block_start (closed_place s.place)) s.records
all_below_closed s laid =
    let closed = is_closed_of s.shape s.place laid.ranges.place in
    All-weaker (IsRecord s) (λ (entry : LogEntry). entry.lsn < block_start (closed_place s.place)) (λ entry is. omega (arith, is.below, closed.front)) s.records laid.records.records
