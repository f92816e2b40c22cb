-- What a queue keeps while nothing waits, and how much memory it has left.
use Rattle.clfs_queue.proofs.Words.{◌≡◌, inl, inr, ℕ, ◌+◌, ◌-◌, ◌*◌, ◌≤◌, List, [], ◌∷◌, length, take, drop, refl, sym, ◌∙◌, ap, subst, arith, length-append}
use Rattle.clfs_queue.proofs.Words.{concat, take_at, drop_at, IsWithin, IsClosed, Place, LogEntry, Queued, AreBlocks, IsOpenPart, EndsWith, IsKept}
use Rattle.std.proofs.Math.Nat.{mul-le-mul_left}
use Rattle.clfs_lsn.specs.Size.{IsShape}
use Rattle.clfs_queue.proofs.Blocks.{length-concat, total_few}

-- a queue with nothing in it
pub kept_empty : (q : Queued) (bytes : List ℕ) (memory starts_memory : ℕ) → IsShape q.shape → 1 ≤ q.buffers → q.buffers ≤ 64 → IsWithin q.shape q.place
    → IsClosed q.place → 512 * q.shape.block_sectors * (q.buffers + 1) + 1 ≤ memory → q.buffers + 1 ≤ starts_memory
    → q.waiting ≡ [] → q.records ≡ [] → bytes ≡ 0 ∷ [] → IsKept q bytes 0 memory starts_memory
kept_empty q bytes memory starts_memory shape some few place closed room starts waiting records is = record {
  shape = shape;
  some_buffers = some;
  few_buffers = few;
  place = place;
  memory_is = room;
  starts_memory_is = starts;
  few = omega (arith, ap (λ (l : List ℕ). length l) waiting);
  few_sealed = λ _. omega (arith, ap (λ (l : List ℕ). length l) waiting);
  blocks = [];
  done = [];
  opened = [];
  part = 0 ∷ [];
  records = records;
  bytes_are = is;
  sealed_is = refl;
  behind = omega arith;
  waiting = subst (λ (l : List ℕ). AreBlocks q.shape q.place.container (q.place.offset - 0) l [] []) (sym waiting) refl;
  end = inl (closed, refl, refl);
}

-- where an open block ends the bytes
pub open_end : (place : Place) (opened : List LogEntry) (part : List ℕ) → EndsWith place opened part → 1 ≤ place.records → IsOpenPart place opened part
open_end place opened part (inl closed) some = absurd (omega (arith, some, closed.0.1))
open_end place opened part (inr here) some = here

-- and where none does
pub closed_end : (place : Place) (opened : List LogEntry) (part : List ℕ) → EndsWith place opened part → place.records ≡ 0
    → IsClosed place × (opened ≡ []) × (part ≡ 0 ∷ [])
closed_end place opened part (inl closed) none = closed
closed_end place opened part (inr here) none = absurd (omega (arith, none, here.some))

module _ (q : Queued) (bytes : List ℕ) (sealed memory starts_memory : ℕ) (kept : IsKept q bytes sealed memory starts_memory) where
  -- the bytes are those of the waiting blocks and what stands after them
  pub kept_length : length bytes ≡ sealed + length kept.part
  kept_length = ap (λ (l : List ℕ). length l) kept.bytes_are ∙ omega (arith, length-append (concat kept.blocks) kept.part, length-concat kept.blocks, kept.sealed_is)

  -- what stands after the waiting blocks
  pub kept_part : drop sealed bytes ≡ kept.part
  kept_part = ap (λ (l : List ℕ). drop sealed l) kept.bytes_are
      ∙ drop_at (concat kept.blocks) kept.part sealed (length-concat kept.blocks ∙ sym kept.sealed_is)

  -- the bytes of the waiting blocks
  pub kept_front : take sealed bytes ≡ concat kept.blocks
  kept_front = ap (λ (l : List ℕ). take sealed l) kept.bytes_are
      ∙ take_at (concat kept.blocks) kept.part sealed (length-concat kept.blocks ∙ sym kept.sealed_is)

  -- while no more blocks wait than there are write buffers, a largest block and a gate have room after them
  pub room_left : length q.waiting ≤ q.buffers → sealed + 512 * q.shape.block_sectors + 1 ≤ memory
  room_left few =
      let x = 512 * q.shape.block_sectors in
      let most : x * length q.waiting ≤ x * q.buffers = mul-le-mul_left x few in
      omega (arith, most, kept.memory_is, kept.sealed_is, total_few q.shape q.place.container (q.place.offset - sealed) q.waiting kept.done kept.blocks kept.waiting)
