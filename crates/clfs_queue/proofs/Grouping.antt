-- The bytes of the blocks that wait are those of a group.
use Rattle.clfs_queue.proofs.Words.{◌≡◌, inl, inr, ℕ, ◌+◌, ◌-◌, ◌*◌, ◌%◌, ◌<◌, ◌≤◌, ◌^◌, List, [], ◌∷◌, ◌++◌, length, get_or, take, drop, refl, sym, ◌∙◌, ap}
use Rattle.clfs_queue.proofs.Words.{subst, arith, append_assoc, length-append, length-drop, flat_map, concat, append-nil, take_at, take_all, drop_at}
use Rattle.clfs_queue.proofs.Words.{drop_more, IsClosed, sectors, record_bytes, Shape, LogEntry, used_bytes, SpellsBlock, total, Queued, IsBlock, AreBlocks}
use Rattle.clfs_queue.proofs.Words.{IsGroupOf, IsKept}
use Rattle.std.proofs.Common.{◌≢◌, ◌/◌}
use Rattle.std.proofs.lemmas.List.{get_or_append_left, get_or_at}
use Rattle.clfs_container.specs.OpenBlocks.{block_sectors, BeginsWith, Opens}
use Rattle.clfs_queue.specs.Group.{EndsAt}
use Rattle.clfs_queue.proofs.Blocks.{length-concat, total_whole, no_bytes}
use Rattle.clfs_queue.proofs.Keeping.{closed_end, kept_length}

-- what a block says of itself in its bytes
module _ (gate_said : (start gate records : ℕ) (content block : List ℕ) → SpellsBlock start gate records content block → get_or block 0 0 ≡ gate)
    (sectors_said : (start gate records : ℕ) (content block : List ℕ) → SpellsBlock start gate records content block → sectors (used_bytes content) < 2 ^ 16
    → get_or block 2 0 + 256 * get_or block 3 0 ≡ sectors (used_bytes content)) where
  -- a block's bytes begin with an open block, whatever follows
  begins_with : (shape : Shape) (start left : ℕ) (own : List LogEntry) (block rest : List ℕ) → IsBlock shape start own block
      → length block ≤ 512 * left → (512 * block_sectors (block ++ rest) ≡ length block) × BeginsWith left (block ++ rest) block
  begins_with shape start left own block rest is fits =
      let content : List ℕ = flat_map record_bytes own in
      let k = sectors (used_bytes content) in
      let whole : length block ≡ 512 * k = is.spelled.whole in
      let some : 1 ≤ k = omega arith in
      let gate : get_or (block ++ rest) 0 0 ≡ 165 =
      get_or_append_left block rest 0 0 (omega (arith, whole, some)) ∙ gate_said start 165 (length own) content block is.spelled in
      let count : block_sectors (block ++ rest) ≡ k =
      omega (
        arith,
        get_or_append_left block rest 0 2 (omega (arith, whole, some)),
        get_or_append_left block rest 0 3 (omega (arith, whole, some)),
        sectors_said start 165 (length own) content block is.spelled is.count.field,
      ) in
      let size : 512 * block_sectors (block ++ rest) ≡ length block = omega (arith, whole, count) in (
        size,
        record {
          gate = gate;
          some = omega (arith, count, some);
          fits = omega (arith, count, whole, fits);
          whole = omega (arith, size, length-append block rest);
          is = sym (take_at block rest (512 * block_sectors (block ++ rest)) (sym size));
        },
      )

  -- blocks one after the other are the open blocks of their bytes
  pub opens_all : (shape : Shape) (id offset : ℕ) (starts : List ℕ) (done : List LogEntry) (blocks : List (List ℕ)) (tail : List ℕ)
      → AreBlocks shape id offset starts done blocks → offset % 512 ≡ 0 → offset + total blocks ≤ 512 * shape.container_sectors
      → Opens (shape.container_sectors - offset / 512) (concat blocks ++ tail) blocks (shape.container_sectors - (offset + total blocks) / 512)
  opens_all shape id offset [] done [] tail none whole within = omega arith
  opens_all shape id offset [] done (b ∷ blocks) tail none whole within = absurd none
  opens_all shape id offset (s ∷ starts) done [] tail none whole within = absurd none
  opens_all shape id offset (s ∷ starts) done (b ∷ blocks) tail all whole within =
      let left = shape.container_sectors - offset / 512 in
      let rest : List ℕ = concat blocks ++ tail in
      let bytes : List ℕ = b ++ concat blocks ++ tail in
      let regrouped : b ++ rest ≡ bytes = sym (append_assoc b (concat blocks) tail) in
      let own : IsBlock shape s all.1.0 b = all.1.3 in
      let block_whole : length b % 512 ≡ 0 = omega (arith, own.spelled.whole) in
      let first = begins_with shape s left all.1.0 b rest own (omega (arith, within, whole)) in
      let others = opens_all shape id (offset + length b) starts all.1.1 blocks tail all.1.4 (omega (arith, whole, block_whole)) (omega (arith, within)) in
      let step : shape.container_sectors - (offset + length b) / 512 ≡ left - block_sectors (b ++ rest) = omega (arith, whole, first.0, within) in
      let behind : drop (512 * block_sectors (b ++ rest)) (b ++ rest) ≡ rest = drop_at b rest (512 * block_sectors (b ++ rest)) (sym first.0) in
      let last : offset + length b + total blocks ≡ offset + total (b ∷ blocks) = omega arith in
      subst (λ (l : List ℕ). Opens left l (b ∷ blocks) (shape.container_sectors - (offset + total (b ∷ blocks)) / 512)) regrouped (
        first.1,
        subst (λ (l : List ℕ). Opens (left - block_sectors (b ++ rest)) l blocks (shape.container_sectors - (offset + total (b ∷ blocks)) / 512)) (sym behind)
            (subst (λ (n : ℕ). Opens n rest blocks (shape.container_sectors - (offset + total (b ∷ blocks)) / 512)) step
            (subst (λ (n : ℕ). Opens (shape.container_sectors - (offset + length b) / 512) rest blocks (shape.container_sectors - n / 512)) last others)),
      )

  -- the first of their bytes is an open gate
  first_gate : (shape : Shape) (id offset : ℕ) (starts : List ℕ) (done : List LogEntry) (blocks : List (List ℕ))
      → AreBlocks shape id offset starts done blocks → 0 < total blocks → concat blocks ≡ 165 ∷ drop 1 (concat blocks)
  first_gate shape id offset [] done [] none some = absurd (omega (arith, some))
  first_gate shape id offset [] done (b ∷ blocks) none some = absurd none
  first_gate shape id offset (s ∷ starts) done [] none some = absurd none
  first_gate shape id offset (s ∷ starts) done (b ∷ blocks) all some =
      let own : IsBlock shape s all.1.0 b = all.1.3 in
      let long : 1 ≤ length b = omega (arith, own.spelled.whole) in
      let gate : get_or (b ++ concat blocks) 0 0 ≡ 165 =
      get_or_append_left b (concat blocks) 0 0 (omega (arith, long)) ∙ gate_said s 165 (length all.1.0) (flat_map record_bytes all.1.0) b own.spelled in
      drop_more (b ++ concat blocks) 0 0 (omega (arith, long, length-append b (concat blocks))) ∙ ap (λ (x : ℕ). x ∷ drop 1 (b ++ concat blocks)) gate

  module _ (q : Queued) (bytes : List ℕ) (sealed_bytes memory starts_memory : ℕ) (kept : IsKept q bytes sealed_bytes memory starts_memory)
      (closed : IsClosed q.place) where
    -- the waiting blocks, with all the records
    all_blocks : AreBlocks q.shape q.place.container (q.place.offset - sealed_bytes) q.waiting q.records kept.blocks
    all_blocks =
        let end = closed_end q.place kept.opened kept.part kept.end closed.1 in
        let records : kept.done ≡ q.records =
        sym (kept.records ∙ ap (λ (l : List LogEntry). kept.done ++ l) end.1 ∙ append-nil kept.done) in
        subst (λ (l : List LogEntry). AreBlocks q.shape q.place.container (q.place.offset - sealed_bytes) q.waiting l kept.blocks) records kept.waiting

    -- they end at the place
    ends_at : q.place.offset - sealed_bytes + total kept.blocks ≡ q.place.offset
    ends_at = omega (arith, kept.sealed_is, kept.behind)

    -- no bytes where none waits
    pub no_group : sealed_bytes ≡ 0 → IsGroupOf q (q.place.offset - sealed_bytes) []
    no_group none = record {
      blocks = kept.blocks;
      waiting = all_blocks;
      end = ends_at;
      bytes = inl (
        refl,
        (no_bytes q.shape q.place.container (q.place.offset - sealed_bytes) q.waiting q.records kept.blocks all_blocks
            (omega (arith, none, kept.sealed_is))).1,
      );
    }

    -- the length of what is kept, and its bytes after the first gate
    pub closed_length : length bytes ≡ sealed_bytes + 1
    closed_length = omega (
      arith,
      kept_length q bytes sealed_bytes memory starts_memory kept,
      ap (λ (l : List ℕ). length l) (closed_end q.place kept.opened kept.part kept.end closed.1).2,
    )

    module _ (some : 0 < sealed_bytes) where
      -- the first of their bytes is an open gate
      first_is : concat kept.blocks ≡ 165 ∷ drop 1 (concat kept.blocks)
      first_is = first_gate q.shape q.place.container (q.place.offset - sealed_bytes) q.waiting q.records kept.blocks all_blocks (omega (arith, some, kept.sealed_is))

      -- the bytes after it
      rest_length : length (drop 1 (concat kept.blocks)) ≡ sealed_bytes - 1
      rest_length = omega (arith, length-drop 1 (concat kept.blocks), length-concat kept.blocks, kept.sealed_is)

      -- with the closed gate after the blocks
      bytes_behind : drop 1 bytes ≡ drop 1 (concat kept.blocks) ++ 0 ∷ []
      bytes_behind = ap (λ (l : List ℕ). drop 1 l) (kept.bytes_are
          ∙ ap (λ (l : List ℕ). concat kept.blocks ++ l) (closed_end q.place kept.opened kept.part kept.end closed.1).2
          ∙ ap (λ (l : List ℕ). l ++ 0 ∷ []) first_is)

      -- once that gate is open, these begin with the waiting blocks, whatever follows
      opened : (tail : List ℕ) → Opens (q.shape.container_sectors - (q.place.offset - sealed_bytes) / 512) (165 ∷ (drop 1 (concat kept.blocks) ++ tail)) kept.blocks
          (q.shape.container_sectors - q.place.offset / 512)
      opened tail =
          let base = q.place.offset - sealed_bytes in
          let whole : base % 512 ≡ 0 = omega (
            arith,
            kept.place.offset,
            kept.sealed_is,
            total_whole q.shape q.place.container base q.waiting q.records kept.blocks all_blocks,
          ) in
          subst (λ (n : ℕ). Opens (q.shape.container_sectors - base / 512) (165 ∷ (drop 1 (concat kept.blocks) ++ tail)) kept.blocks (q.shape.container_sectors - n / 512)) ends_at
          (subst (λ (l : List ℕ). Opens (q.shape.container_sectors - base / 512) (l ++ tail) kept.blocks (q.shape.container_sectors - (base + total kept.blocks) / 512)) first_is
          (opens_all q.shape q.place.container base q.waiting q.records kept.blocks tail all_blocks whole (omega (arith, ends_at, kept.place.end, kept.place.offset))))

      -- the group that ends with the container
      pub last_group : q.place.offset ≡ 512 * q.shape.container_sectors → (n : ℕ) → n ≡ sealed_bytes - 1 → IsGroupOf q (q.place.offset - sealed_bytes) (take n (drop 1 bytes))
      last_group last n n_is =
          let is : take n (drop 1 bytes) ≡ drop 1 (concat kept.blocks) ++ [] =
          ap (λ (l : List ℕ). take n l) bytes_behind ∙ take_at (drop 1 (concat kept.blocks)) (0 ∷ []) n (rest_length ∙ sym n_is)
          ∙ sym (append-nil (drop 1 (concat kept.blocks))) in
          record {
            blocks = kept.blocks;
            waiting = all_blocks;
            end = ends_at;
            bytes = inr (subst (λ (l : List ℕ). EndsAt q.shape q.place (q.place.offset - sealed_bytes) l kept.blocks) (sym is) (record {
              group = record {
                opens = opened [];
                some = omega (arith, some, kept.sealed_is);
                whole = omega (arith, kept.sealed_is, rest_length, length-append (drop 1 (concat kept.blocks)) []);
                shut = inl (omega (arith, last));
              };
              within = omega (arith, last, kept.behind, rest_length, some, length-append (drop 1 (concat kept.blocks)) []);
            }));
          }

      -- the group with a closed gate after it
      pub shut_group : q.place.offset ≢ 512 * q.shape.container_sectors → (n : ℕ) → n ≡ sealed_bytes → IsGroupOf q (q.place.offset - sealed_bytes) (take n (drop 1 bytes))
      shut_group before n n_is =
          let long : length (drop 1 (concat kept.blocks) ++ 0 ∷ []) ≡ sealed_bytes = omega (arith, rest_length, some, length-append (drop 1 (concat kept.blocks)) (0 ∷ [])) in
          let is : take n (drop 1 bytes) ≡ drop 1 (concat kept.blocks) ++ 0 ∷ [] =
          ap (λ (l : List ℕ). take n l) bytes_behind ∙ take_all n (drop 1 (concat kept.blocks) ++ 0 ∷ []) (omega (arith, long, n_is)) in
          let gate : get_or (165 ∷ (drop 1 (concat kept.blocks) ++ 0 ∷ [])) (total kept.blocks) 0 ≡ 0 =
          get_or_at (165 ∷ drop 1 (concat kept.blocks)) 0 [] 0 (total kept.blocks) (omega (arith, rest_length, some, kept.sealed_is)) in
          record {
            blocks = kept.blocks;
            waiting = all_blocks;
            end = ends_at;
            bytes = inr (subst (λ (l : List ℕ). EndsAt q.shape q.place (q.place.offset - sealed_bytes) l kept.blocks) (sym is) (record {
              group = record {
                opens = opened (0 ∷ []);
                some = omega (arith, some, kept.sealed_is);
                whole = omega (arith, kept.sealed_is, long);
                shut = inr (omega (arith, kept.sealed_is, long), λ e. absurd (omega (arith, e, gate)));
              };
              within = omega (arith, before, kept.behind, long, kept.place.end, kept.place.offset, closed.0);
            }));
          }
