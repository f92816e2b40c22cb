-- What the numbers of a valid state are, so that they fit their types and the calls that compute with them can be made.
use Rattle.clfs_manager.proofs.Words.{◌≡◌, ℕ, ◌+◌, ◌-◌, ◌<◌, ◌≤◌, ◌^◌, true, false, refl, inl, inr, ⊎_elim, List, [], ◌∷◌, ◌++◌, length, arith, All, filter}
use Rattle.clfs_manager.proofs.Words.{min, fold, Option, Some, None, IfSome, IsSome, slice_get, option_to_list, All-nil, All-cons, All-head, All-map}
use Rattle.clfs_manager.proofs.Words.{All-filter, All-append, All-weaker, slice_get_within, lsn_number, container_of, sequence_of, IsWithin, IsClosed}
use Rattle.clfs_manager.proofs.Words.{frontier, IsShape, Place, Shape, LogEntry, State, Stream, stream_at, block_start, flushed, first_or, live_lsns, hold}
use Rattle.clfs_manager.proofs.Words.{is_live, least_or, IsValid, IsRecord, IsWaiting, HasRanges, HasWaiting, IsNumber}
use Rattle.std.proofs.lemmas.Nat.{mul-le}
use Rattle.std.proofs.lemmas.Bool.Decides.{eqb_tells}
use Rattle.clfs_lsn.specs.Limits.{most_containers}
use Rattle.clfs_lsn.specs.Place.{IsSmall, IsOpen}
use Rattle.clfs_lsn.specs.Space.{free_sectors, next_containers}
use Rattle.clfs_model.specs.Valid.{HasRecords}

small_by : (shape : Shape) (place : Place) → IsShape shape → IsWithin shape place → place.used ≤ 64512 → place.records ≤ 511 → IsSmall place
small_by shape place is within used records = record {
  offset = within.offset;
  low = omega (arith, is.largest_container, within.end, within.offset);
  used = used;
  records = records;
}

-- the numbers of a place within its container
pub small_place : (shape : Shape) (place : Place) → IsShape shape → IsWithin shape place → IsSmall place
small_place shape place is within = ⊎_elim
    (λ (closed : IsClosed place). small_by shape place is within (omega (arith, closed.0)) (omega (arith, closed.1)))
    (λ (block : IsOpen shape place). small_by shape place is within (omega (arith, block.few_sectors, is.largest_block)) block.few_records)
    within.block

start_of_waiting : (s : State) (waiting : List ℕ) → All (IsWaiting s) waiting
    → (first_or (block_start s.place) waiting ≤ block_start s.place) × ((sequence_of (block_start s.place) ≡ 0) → sequence_of (first_or (block_start s.place) waiting) ≡ 0)
start_of_waiting s [] all = (omega arith, λ is. is)
start_of_waiting s (start ∷ others) all =
    let first = All-head (IsWaiting s) start others all in (omega (arith, first.below), λ is. first.sequence)

place_is_small : (s : State) → IsValid s → IsSmall s.place
place_is_small s valid = small_place s.shape s.place valid.ranges.shape valid.ranges.place

-- all that is on the disk lies below the start of the open block, or of the next one
pub flushed_below : (s : State) → IsValid s → flushed s ≤ block_start s.place
flushed_below s valid = (start_of_waiting s s.waiting valid.waiting.blocks).0

-- and ends with a block
pub flushed_starts : (s : State) → IsValid s → sequence_of (flushed s) ≡ 0
flushed_starts s valid =
    let small = place_is_small s valid in
    (start_of_waiting s s.waiting valid.waiting.blocks).1 (omega (arith, small.offset))

fold_up_to : (n : ℕ) (ns : List ℕ) → fold min n ns ≤ n
fold_up_to n [] = omega arith
fold_up_to n (m ∷ ns) = omega (arith, fold_up_to (min n m) ns)

least_up_to : (other : ℕ) (ns : List ℕ) → All (λ m. m ≤ other) ns → least_or other ns ≤ other
least_up_to other [] all = omega arith
least_up_to other (n ∷ ns) all = omega (arith, fold_up_to n ns, All-head (λ m. m ≤ other) n ns all)

tail_up_to : (other : ℕ) (tail : Option ℕ) → IfSome tail (λ lsn. lsn ≤ other) → All (λ m. m ≤ other) (option_to_list tail)
tail_up_to other None is = All-nil (λ m. m ≤ other)
tail_up_to other (Some tail) is = All-cons (λ m. m ≤ other) tail [] is (All-nil (λ m. m ≤ other))

tail_weaker : (low high : ℕ) (tail : Option ℕ) → low ≤ high → IfSome tail (λ lsn. lsn ≤ low) → IfSome tail (λ lsn. lsn ≤ high)
tail_weaker low high None le is = tt
tail_weaker low high (Some tail) le is = omega (arith, is)

-- the hold lies at or below the frontier
pub hold_up_to_end : (s : State) → HasRecords s → HasWaiting s → IfSome s.archive (λ tail. tail ≤ flushed s) → hold s ≤ frontier s.place
hold_up_to_end s has waits stable =
    let end : ℕ = frontier s.place in
    let low : flushed s ≤ block_start s.place = (start_of_waiting s s.waiting waits.blocks).0 in
    let tail : IfSome s.archive (λ lsn. lsn ≤ end) = tail_weaker (flushed s) end s.archive (omega (arith, low)) stable in
    let records : All (λ (entry : LogEntry). entry.lsn ≤ end) s.records =
    All-weaker (IsRecord s) (λ (entry : LogEntry). entry.lsn ≤ end) (λ entry is. omega (arith, is.below)) s.records has.records in
    least_up_to end (option_to_list s.archive ++ live_lsns s)
    (All-append (λ m. m ≤ end) (option_to_list s.archive) (live_lsns s) (tail_up_to end s.archive tail)
    (All-map (λ m. m ≤ end) (λ (entry : LogEntry). entry.lsn) (filter (is_live s) s.records)
    (All-filter (is_live s) (λ (entry : LogEntry). entry.lsn ≤ end) s.records records)))

pub hold_below : (s : State) → IsValid s → hold s ≤ frontier s.place
hold_below s valid = hold_up_to_end s valid.records valid.waiting valid.stable.tail

within_container : (n container offset records : ℕ) → n ≤ lsn_number container offset records → offset + records < 2 ^ 32 → container_of n ≤ container
within_container n container offset records le small = omega (arith, le, small)

-- the hold's container is the place's, or one before it
pub hold_in_place : (s : State) → HasRanges s → hold s ≤ frontier s.place → container_of (hold s) ≤ s.place.container
hold_in_place s ranges below =
    let small = small_place s.shape s.place ranges.shape ranges.place in
    within_container (hold s) s.place.container s.place.offset s.place.records below (omega (arith, small.low, small.records))

pub hold_within : (s : State) → IsValid s → container_of (hold s) ≤ s.place.container
hold_within s valid = hold_in_place s valid.ranges (hold_below s valid)

-- the hold lies at or below an archive tail
pub hold_up_to_tail : (s : State) → IfSome s.archive (λ tail. hold s ≤ tail)
hold_up_to_tail s = up_to_tail (frontier s.place) s.archive (live_lsns s)
  where
    up_to_tail : (other : ℕ) (tail : Option ℕ) (ns : List ℕ) → IfSome tail (λ lsn. least_or other (option_to_list tail ++ ns) ≤ lsn)
    up_to_tail other None ns = tt
    up_to_tail other (Some tail) ns = fold_up_to tail ns

-- the free sectors of no more containers than a log can have
pub free_is_small : (shape : Shape) (place : Place) (hold containers : ℕ) → IsShape shape → containers ≤ most_containers
    → free_sectors shape place hold containers < 2 ^ 31
free_is_small shape place hold containers is few =
    let next = mul-le (next_containers place hold containers) (shape.container_sectors - shape.block_sectors + 1) 256 16384
    (omega (arith, few)) (omega (arith, is.some_sectors, is.two_blocks, is.largest_container)) in
    omega (arith, next, is.largest_container)

-- the number of a stream that is there
pub number_of : (s : State) (number : ℕ) → IsSome (stream_at s number) → IsNumber s.streams number
number_of s number there = elim (eqb_tells number 0) [
  | inl none ↦ absurd (no_stream (rw none.0 at there))
  | inr some ↦ (omega (arith, some.1), within (slice_get s.streams (number - 1)) refl (rw some.0 at there))
]
  where
    no_stream : false ≡ true → ⊥
    no_stream is = cc

    within : (found : Option Stream) → slice_get s.streams (number - 1) ≡ found → IsSome found → number ≤ length s.streams
    within None is there = cc
    within (Some stream) is there = omega (arith, slice_get_within s.streams (number - 1) stream is)
