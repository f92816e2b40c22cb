-- The end of the open block, against the heads of its records.
use Rattle.clfs_manager.proofs.Words.{◌≡◌, ℕ, ◌+◌, ◌*◌, ◌%◌, ◌<◌, ◌≤◌, true, refl, sym, ap, subst, ◌∙◌, inl, inr, List, map, arith, All, nat_lt, Any, lt-ltb}
use Rattle.clfs_manager.proofs.Words.{nat_tests, get_or-map, length-map, All-map, All-weaker, head_of, lsn_number, container_of, offset_of, sequence_of}
use Rattle.clfs_manager.proofs.Words.{IsWithin, block_end, frontier, sealed, Head, LogEntry, Place, Shape, IsBlock, BlockEnd, State, is_in_block}
use Rattle.clfs_manager.proofs.Words.{end_of_block, block_start, heads_of, IsLaid, IsRecord, Queued}
use Rattle.clfs_lsn.specs.Place.{IsOpen}
use Rattle.clfs_queue.specs.Queued.{seal}
use Rattle.clfs_manager.proofs.Heads.{ends_as_heads}

-- where an LSN lies in a block at an offset of a container
pub parts_at : (container offset sequence : ℕ) → offset % 512 ≡ 0 → offset ≤ 8388608 → sequence < 512
    → (container_of (lsn_number container offset sequence) ≡ container) × (offset_of (lsn_number container offset sequence) ≡ offset)
parts_at container offset sequence even low few = (omega (arith, low, few), omega (arith, even, low, few))

-- two LSNs with the same container and offset lie in one block
pub in_one_block : (a b : ℕ) → container_of a ≡ container_of b → offset_of a ≡ offset_of b → is_in_block a b ≡ true
in_one_block a b container offset = grind (arith, nat_tests, container, offset)

-- the open block of a place within its container
pub opened : (shape : Shape) (place : Place) → IsWithin shape place → 1 ≤ place.records → IsOpen shape place
opened shape place within some = elim within.block [
  | inl closed ↦ absurd (omega (arith, some, closed.1))
  | inr here ↦ here
]

any_head : (lsn : ℕ) (entries : List LogEntry) → Any (λ (entry : LogEntry). entry.lsn + 1 ≡ lsn + 1) entries → Any (λ (head : Head). head.lsn ≡ lsn) (map head_of entries)
any_head lsn entries there = (
  there.0,
  head_of there.1,
  omega (arith, there.2, length-map entries head_of),
  get_or-map head_of entries there.0 there.1 (head_of there.1) there.2 ∙ ap head_of there.3,
  omega (arith, there.4),
)

-- What is true of the end of the open block.
pub record Ends (s : State) (block : BlockEnd) : Type 0 where
  pub is : IsBlock (heads_of s) block
  pub behind : block_start s.place ≤ block_start (sealed s.place)
  pub below : block.last < block_start (sealed s.place)
  pub start : sequence_of (block_start (sealed s.place)) ≡ 0
  pub own : All (λ (head : Head). block_start s.place ≤ head.lsn → is_in_block head.lsn block.last ≡ true) (heads_of s)

pub ends : (s : State) (block : BlockEnd) → IsLaid s → 1 ≤ s.place.records → block.last + 1 ≡ frontier s.place → block.end ≡ 512 * block_end s.place
    → Any (λ (entry : LogEntry). entry.lsn + 1 ≡ frontier s.place) s.records
    → ((lsn : ℕ) → container_of lsn ≡ s.place.container → offset_of lsn ≡ s.place.offset → end_of_block s.records lsn ≡ 512 * block_end s.place)
    → Ends s block
ends s block laid some last end newest of_records =
    let within = laid.ranges.place in
    let open_block = opened s.shape s.place within some in
    let low : s.place.offset ≤ 8388608 = omega (arith, within.end, laid.ranges.shape.largest_container) in
    let here : (lsn : ℕ) → block_start s.place ≤ lsn → lsn < frontier s.place → (container_of lsn ≡ s.place.container) × (offset_of lsn ≡ s.place.offset)
    = λ lsn from below. (omega (arith, from, below, low, open_block.few_records), omega (arith, from, below, low, open_block.few_records, within.offset)) in
    let at_last = here block.last (omega (arith, last, some)) (omega (arith, last)) in
    let each = laid.records.records in
    record {
      is = record {
        last = any_head block.last s.records (subst (λ (n : ℕ). Any (λ (entry : LogEntry). entry.lsn + 1 ≡ n) s.records) (sym last) newest);
        others = All-map (λ (head : Head). is_in_block head.lsn block.last ≡ true → head.lsn ≤ block.last) head_of s.records
            (All-weaker (IsRecord s) (λ (entry : LogEntry). is_in_block entry.lsn block.last ≡ true → entry.lsn ≤ block.last)
            (λ entry is _. omega (arith, is.below, last)) s.records each);
        behind = end ∙ sym (of_records block.last at_last.0 at_last.1) ∙ ends_as_heads s.records block.last;
      };
      behind = omega (arith, within.offset);
      below = omega (arith, last, open_block.few_records, open_block.some_sectors, within.offset);
      start = omega arith;
      own = All-map (λ (head : Head). block_start s.place ≤ head.lsn → is_in_block head.lsn block.last ≡ true) head_of s.records
          (All-weaker (IsRecord s) (λ (entry : LogEntry). block_start s.place ≤ entry.lsn → is_in_block entry.lsn block.last ≡ true)
          (λ entry is from. let at = here entry.lsn from is.below in
          in_one_block entry.lsn block.last (at.0 ∙ sym at_last.0) (at.1 ∙ sym at_last.1)) s.records each);
    }

-- the queue's place once its open block has ended
pub sealed_place : (q : Queued) → 1 ≤ q.place.records → (seal q).place ≡ sealed q.place
sealed_place q some = let t : nat_lt 0 q.place.records ≡ true = lt-ltb 0 q.place.records some in rw t refl
