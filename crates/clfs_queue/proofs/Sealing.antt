-- The open block becomes one that waits.
use Rattle.clfs_queue.proofs.Words.{◌≡◌, inl, ⊎_elim, ℕ, ◌+◌, ◌-◌, ◌*◌, ◌≤◌, List, [], ◌∷◌, ◌++◌, length, take, drop, refl, sym, ◌∙◌, ap, subst, arith}
use Rattle.clfs_queue.proofs.Words.{length-drop, flat_map, append-nil, length_push, lsn_number, offset_of, IsWithin, sectors, record_bytes, Shape, Place}
use Rattle.clfs_queue.proofs.Words.{LogEntry, total, place_of, payload_of, used_bytes, SpellsBlock, Queued, AreInRow, IsBlock, AreBlocks, IsOpenPart, IsKept}
use Rattle.clfs_lsn.specs.Place.{IsOpen, sealed}
use Rattle.clfs_queue.proofs.Blocks.{concat_push, total_push, blocks_push}
use Rattle.clfs_queue.proofs.Contents.{length-payload}
use Rattle.clfs_queue.proofs.Keeping.{open_end, kept_front, kept_part, kept_length, room_left}

-- an open block within its container
pub is_open : (shape : Shape) (place : Place) → IsWithin shape place → 1 ≤ place.records → IsOpen shape place
is_open shape place within some = ⊎_elim {C = IsOpen shape place} (λ closed. absurd (omega (arith, closed.1, some))) (λ here. here) within.block

-- the used bytes of an open block are those of its records and of the header
pub used_is : (place : Place) (opened : List LogEntry) (part : List ℕ) → IsOpenPart place opened part
    → used_bytes (flat_map record_bytes opened) ≡ place.used
used_is place opened part here = omega (
  arith,
  here.header,
  ap (λ (l : List ℕ). length l) here.content,
  length-drop 16 (payload_of place.used part),
  length-payload place.used part,
)

-- the place after a sealed block is within its container
pub sealed_within : (shape : Shape) (place : Place) → IsWithin shape place → IsWithin shape (sealed place)
sealed_within shape place within = record {
  container = within.container;
  offset = omega arith;
  end = omega (arith, within.end);
  block = inl (refl, refl);
}

module _ (q : Queued) (bytes : List ℕ) (sealed_bytes memory starts_memory : ℕ) (kept : IsKept q bytes sealed_bytes memory starts_memory)
    (some : 1 ≤ q.place.records) where
  -- the open block among the bytes
  here : IsOpenPart q.place kept.opened kept.part
  here = open_end q.place kept.opened kept.part kept.end some

  -- the open block's bytes come right after the sealed ones
  pub open_length : length bytes ≡ sealed_bytes + place_of q.place.used
  open_length = omega (arith, kept_length q bytes sealed_bytes memory starts_memory kept, here.length_is)

  -- there is room for its whole sectors and a gate after them
  pub sealed_room : sealed_bytes + 512 * sectors q.place.used + 1 ≤ memory
  sealed_room = omega (
    arith,
    room_left q bytes sealed_bytes memory starts_memory kept (kept.few_sealed some),
    (is_open q.shape q.place kept.place some).few_sectors,
  )

  module _ (start : ℕ) (block new : List ℕ) (more_memory more_starts : ℕ) (start_is : start ≡ lsn_number q.place.container q.place.offset 0)
      (spelled : SpellsBlock start 165 q.place.records (drop 16 (payload_of q.place.used (drop sealed_bytes bytes))) block)
      (new_is : new ≡ take sealed_bytes bytes ++ block ++ 0 ∷ []) (memory_le : memory ≤ more_memory) (starts_le : starts_memory ≤ more_starts) where
    -- its records' bytes
    content_is : drop 16 (payload_of q.place.used (drop sealed_bytes bytes)) ≡ flat_map record_bytes kept.opened
    content_is = ap (λ (l : List ℕ). drop 16 (payload_of q.place.used l)) (kept_part q bytes sealed_bytes memory starts_memory kept) ∙ here.content

    -- its offset in the container
    offset_is : offset_of start ≡ q.place.offset
    offset_is = omega (arith, start_is, kept.place.offset, kept.place.end, kept.shape.largest_container)

    -- the sealed bytes are a block with its records
    is_block : IsBlock q.shape start kept.opened block
    is_block =
        let size : used_bytes (flat_map record_bytes kept.opened) ≡ q.place.used = used_is q.place kept.opened kept.part here in
        let open_is = is_open q.shape q.place kept.place some in
        record {
          some = omega (arith, some, here.count);
          few = omega (arith, open_is.few_records, here.count);
          row = subst (λ (n : ℕ). AreInRow n kept.opened) (sym start_is) here.row;
          count = record {
            largest = omega (arith, open_is.few_sectors, size);
            left = omega (arith, kept.place.end, size, offset_is);
            field = omega (arith, open_is.few_sectors, size, kept.shape.largest_block);
          };
          spelled = subst (λ (r : ℕ). SpellsBlock start 165 r (flat_map record_bytes kept.opened) block) here.count
              (subst (λ (l : List ℕ). SpellsBlock start 165 q.place.records l block) content_is spelled);
        }

    -- they are whole sectors
    block_length : length block ≡ 512 * sectors q.place.used
    block_length = spelled.whole ∙ ap (λ (n : ℕ). 512 * sectors n)
        (ap (λ (l : List ℕ). used_bytes l) content_is ∙ used_is q.place kept.opened kept.part here)

    -- the queue once they wait
    pub kept_sealed : IsKept (record q { waiting = q.waiting ++ start ∷ []; place = sealed q.place }) new (sealed_bytes + length block) more_memory more_starts
    kept_sealed =
        let base = q.place.offset - sealed_bytes in
        let before : base + total kept.blocks ≡ q.place.offset = omega (arith, kept.sealed_is, kept.behind) in
        let all : AreBlocks q.shape q.place.container base (q.waiting ++ start ∷ []) (kept.done ++ kept.opened) (kept.blocks ++ block ∷ []) =
        blocks_push q.shape q.place.container base q.waiting kept.done kept.blocks start kept.opened block kept.waiting
        (start_is ∙ ap (λ (n : ℕ). lsn_number q.place.container n 0) (sym before)) is_block in
        let same : base ≡ (sealed q.place).offset - (sealed_bytes + length block) =
        omega (arith, block_length, kept.behind, kept.place.offset) in
        record {
          shape = kept.shape;
          some_buffers = kept.some_buffers;
          few_buffers = kept.few_buffers;
          place = sealed_within q.shape q.place kept.place;
          memory_is = omega (arith, kept.memory_is, memory_le);
          starts_memory_is = omega (arith, kept.starts_memory_is, starts_le);
          few = omega (arith, length_push q.waiting start, kept.few_sealed some);
          few_sealed = λ none. absurd (omega (arith, none));
          blocks = kept.blocks ++ block ∷ [];
          done = kept.done ++ kept.opened;
          opened = [];
          part = 0 ∷ [];
          records = kept.records ∙ sym (append-nil (kept.done ++ kept.opened));
          bytes_are = new_is ∙ ap (λ (l : List ℕ). l ++ block ++ 0 ∷ []) (kept_front q bytes sealed_bytes memory starts_memory kept)
              ∙ ap (λ (l : List ℕ). l ++ 0 ∷ []) (sym (concat_push kept.blocks block));
          sealed_is = omega (arith, kept.sealed_is, total_push kept.blocks block);
          behind = omega (arith, block_length, kept.behind, kept.place.offset);
          waiting = subst (λ (n : ℕ). AreBlocks q.shape q.place.container n (q.waiting ++ start ∷ []) (kept.done ++ kept.opened) (kept.blocks ++ block ∷ [])) same all;
          end = inl ((refl, refl), refl, refl);
        }
