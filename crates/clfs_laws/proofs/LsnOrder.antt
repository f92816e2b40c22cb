-- How LSNs lie to blocks and containers.
use Rattle.clfs_laws.proofs.Words.{◌≡◌, ℕ, ◌*◌, ◌%◌, ◌^◌, ◌<◌, ◌≤◌, Bool, true, false, refl, inl, inr, ◌⊎◌, arith, List, [], ◌∷◌, filter, map, find, IsSome}
use Rattle.clfs_laws.proofs.Words.{◌&&◌, ◌==◌, AllByRecursion, cases_Bool, eqb-true, nat_tests, lsn_number, container_of, offset_of, sequence_of, IsShape}
use Rattle.clfs_laws.proofs.Words.{IsWithin, IsClosed, IsOpen, sealed, frontier, block_end, Place, Shape, LogEntry, block_start}

-- an LSN below the start of a block isn't of this block
pub below_block : (lsn container offset : ℕ) → offset % 512 ≡ 0 → offset < 2 ^ 32 → lsn < lsn_number container offset 0
    → ((container_of lsn == container) && (offset_of lsn == offset)) ≡ false
below_block lsn container offset whole low below = elim (cases_Bool (container_of lsn == container)) [
  | inl same ↦ rw same (elim (cases_Bool (offset_of lsn == offset)) [
    | inl at ↦ absurd (
        let of_container : container_of lsn ≡ container = eqb-true (container_of lsn) container same in
        let of_offset : offset_of lsn ≡ offset = eqb-true (offset_of lsn) offset at in
        omega (arith, of_container, of_offset, below))
    | inr other ↦ other
  ])
  | inr other ↦ rw other refl
]

-- the parts of an LSN determine it
pub of_parts : (lsn container offset : ℕ) → container_of lsn ≡ container → offset_of lsn ≡ offset → sequence_of lsn ≡ 0 → lsn ≡ lsn_number container offset 0
of_parts lsn container offset of_container of_offset first = omega (arith, of_container, of_offset, first)

-- offsets are small
pub small_offset : (shape : Shape) (place : Place) → IsShape shape → IsWithin shape place → place.offset ≤ 8388608
small_offset shape place is within = omega (arith, within.end, within.offset, is.largest_container)

pub small_end : (shape : Shape) (place : Place) → IsShape shape → IsWithin shape place → 512 * block_end place ≤ 8388608
small_end shape place is within = omega (arith, within.end, is.largest_container)

-- few records
pub few_records : (shape : Shape) (place : Place) → IsWithin shape place → place.records ≤ 511
few_records shape place within = by_block shape place within.block
  where
    by_block : (shape : Shape) (place : Place) → (IsClosed place) ⊎ (IsOpen shape place) → place.records ≤ 511
    by_block shape place (inl closed) = omega (arith, closed.1)
    by_block shape place (inr opened) = opened.few_records

-- the next block begins after all records of the open one
pub frontier_sealed : (shape : Shape) (place : Place) → IsWithin shape place → frontier place ≤ block_start (sealed place)
frontier_sealed shape place within = by_block shape place within.offset within.block
  where
    by_block : (shape : Shape) (place : Place) → place.offset % 512 ≡ 0 → (IsClosed place) ⊎ (IsOpen shape place) → frontier place ≤ block_start (sealed place)
    by_block shape place whole (inl closed) = omega (arith, whole, closed.1)
    by_block shape place whole (inr opened) = omega (arith, whole, opened.some_sectors, opened.few_records)

-- a place without an open block is where the next block begins
pub closed_end : (shape : Shape) (place : Place) → IsWithin shape place → place.records ≡ 0 → place.offset ≡ 512 * block_end place
closed_end shape place within empty = by_block shape place within.offset empty within.block
  where
    by_block : (shape : Shape) (place : Place) → place.offset % 512 ≡ 0 → place.records ≡ 0 → (IsClosed place) ⊎ (IsOpen shape place) → place.offset ≡ 512 * block_end place
    by_block shape place whole empty (inl closed) = omega (arith, whole, closed.0)
    by_block shape place whole empty (inr opened) = absurd (omega (arith, empty, opened.some_records))

-- with a record in it, an open block begins below the next one
pub start_below_sealed : (shape : Shape) (place : Place) → IsWithin shape place → 0 < place.records → block_start place < block_start (sealed place)
start_below_sealed shape place within some = omega (arith, some, frontier_sealed shape place within)

-- the container of a frontier
pub container_of_frontier : (shape : Shape) (place : Place) → IsShape shape → IsWithin shape place → container_of (frontier place) ≡ place.container
container_of_frontier shape place is within = omega (arith, small_offset shape place is within, few_records shape place within)

-- the test that a record is of a block
abbrev pub is_of_block : ℕ → ℕ → LogEntry → Bool
is_of_block container offset entry = (container_of entry.lsn == container) && (offset_of entry.lsn == offset)

-- no record of a block that begins above them all
pub none_of_block : (container offset : ℕ) (entries : List LogEntry) → offset % 512 ≡ 0 → offset < 2 ^ 32
    → AllByRecursion (λ (entry : LogEntry). entry.lsn < lsn_number container offset 0) entries → filter (is_of_block container offset) entries ≡ []
none_of_block container offset [] whole low all = refl
none_of_block container offset (entry ∷ entries) whole low all =
    rw (below_block entry.lsn container offset whole low all.0) (none_of_block container offset entries whole low all.1)

-- both parts of a test that passes
pub both_true : (a b : Bool) → (a && b) ≡ true → (a ≡ true) × (b ≡ true)
both_true true b passes = (refl, passes)
both_true false b passes = absurd (cc)

pub equal_true : (m n : ℕ) → m ≡ n → (m == n) ≡ true
equal_true m n same = grind (arith, nat_tests, same)

first_of : {n m : ℕ} {ns ms : List ℕ} → n ∷ ns ≡ m ∷ ms → n ≡ m
first_of same = cc

-- a block's first record is found at the block's start
pub first_of_block : (container offset : ℕ) (entries : List LogEntry) (rest : List ℕ)
    → map (λ (entry : LogEntry). sequence_of entry.lsn) (filter (is_of_block container offset) entries) ≡ 0 ∷ rest
    → IsSome (find (λ (entry : LogEntry). entry.lsn == lsn_number container offset 0) entries)
first_of_block container offset [] rest is = absurd (cc)
first_of_block container offset (entry ∷ entries) rest is = elim (cases_Bool (entry.lsn == lsn_number container offset 0)) [
  | inl here ↦ rw here refl
  | inr there ↦ rw there (elim (cases_Bool (is_of_block container offset entry)) [
    | inl of_block ↦ absurd (
        let parts = both_true _ _ of_block in
        let sequence : sequence_of entry.lsn ≡ 0 = first_of (rw of_block at is) in
        let same = of_parts entry.lsn container offset (eqb-true (container_of entry.lsn) container parts.0) (eqb-true (offset_of entry.lsn) offset parts.1) sequence in
        let equal = equal_true entry.lsn (lsn_number container offset 0) same in
        cc)
    | inr other ↦ first_of_block container offset entries rest (rw other at is)
  ])
]
