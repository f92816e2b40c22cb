-- Blocks that wait, one after the other.
use Rattle.clfs_queue.proofs.Words.{◌≡◌, ℕ, ◌+◌, ◌*◌, ◌%◌, ◌≤◌, List, [], ◌∷◌, ◌++◌, length, refl, sym, ◌∙◌, ap, arith, append_assoc, length-append, concat}
use Rattle.clfs_queue.proofs.Words.{append-nil, lsn_number, Shape, LogEntry, total, IsBlock, AreBlocks}

-- the length of blocks together
pub length-concat : (blocks : List (List ℕ)) → length (concat blocks) ≡ total blocks
length-concat [] = refl
length-concat (block ∷ blocks) = length-append block (concat blocks) ∙ ap (λ (n : ℕ). length block + n) (length-concat blocks)

-- the bytes with one more block
pub concat_push : (blocks : List (List ℕ)) (block : List ℕ) → concat (blocks ++ block ∷ []) ≡ concat blocks ++ block
concat_push [] block = append-nil block
concat_push (first ∷ blocks) block = ap (λ (l : List ℕ). first ++ l) (concat_push blocks block) ∙ sym (append_assoc first (concat blocks) block)

-- and their length
pub total_push : (blocks : List (List ℕ)) (block : List ℕ) → total (blocks ++ block ∷ []) ≡ total blocks + length block
total_push [] block = omega arith
total_push (first ∷ blocks) block = omega (arith, total_push blocks block)

-- after blocks that wait one more can wait
pub blocks_push : (shape : Shape) (id offset : ℕ) (starts : List ℕ) (done : List LogEntry) (blocks : List (List ℕ)) (start : ℕ) (own : List LogEntry) (block : List ℕ)
    → AreBlocks shape id offset starts done blocks → start ≡ lsn_number id (offset + total blocks) 0 → IsBlock shape start own block
    → AreBlocks shape id offset (starts ++ start ∷ []) (done ++ own) (blocks ++ block ∷ [])
blocks_push shape id offset [] done [] start own block none is new =
    (is ∙ ap (λ (n : ℕ). lsn_number id n 0) (omega arith), (own, [], ap (λ (l : List LogEntry). l ++ own) none ∙ sym (append-nil own), new, refl))
blocks_push shape id offset [] done (b ∷ blocks) start own block none is new = absurd none
blocks_push shape id offset (s ∷ starts) done [] start own block none is new = absurd none
blocks_push shape id offset (s ∷ starts) done (b ∷ blocks) start own block all is new =
    let others : List LogEntry = all.1.1 in (
      all.0,
      (
        all.1.0,
        others ++ own,
        ap (λ (l : List LogEntry). l ++ own) all.1.2 ∙ append_assoc all.1.0 others own,
        all.1.3,
        blocks_push shape id (offset + length b) starts others blocks start own block all.1.4
            (is ∙ ap (λ (n : ℕ). lsn_number id n 0) (omega arith)) new,
      ),
    )

-- they have no more bytes than as many largest blocks
pub total_few : (shape : Shape) (id offset : ℕ) (starts : List ℕ) (done : List LogEntry) (blocks : List (List ℕ)) → AreBlocks shape id offset starts done blocks
    → total blocks ≤ 512 * shape.block_sectors * length starts
total_few shape id offset [] done [] none = omega arith
total_few shape id offset [] done (b ∷ blocks) none = absurd none
total_few shape id offset (s ∷ starts) done [] none = absurd none
total_few shape id offset (s ∷ starts) done (b ∷ blocks) all =
    let new = all.1.3 in
    let rest = total_few shape id (offset + length b) starts all.1.1 blocks all.1.4 in
    omega (arith, rest, new.spelled.whole, new.count.largest)

-- they take whole sectors
pub total_whole : (shape : Shape) (id offset : ℕ) (starts : List ℕ) (done : List LogEntry) (blocks : List (List ℕ)) → AreBlocks shape id offset starts done blocks
    → total blocks % 512 ≡ 0
total_whole shape id offset [] done [] none = refl
total_whole shape id offset [] done (b ∷ blocks) none = absurd none
total_whole shape id offset (s ∷ starts) done [] none = absurd none
total_whole shape id offset (s ∷ starts) done (b ∷ blocks) all =
    omega (arith, total_whole shape id (offset + length b) starts all.1.1 blocks all.1.4, all.1.3.spelled.whole)

-- where there are no bytes none waits
pub no_bytes : (shape : Shape) (id offset : ℕ) (starts : List ℕ) (done : List LogEntry) (blocks : List (List ℕ)) → AreBlocks shape id offset starts done blocks
    → total blocks ≡ 0 → (starts ≡ []) × (blocks ≡ [])
no_bytes shape id offset [] done [] none is = (refl, refl)
no_bytes shape id offset [] done (b ∷ blocks) none is = absurd none
no_bytes shape id offset (s ∷ starts) done [] none is = absurd none
no_bytes shape id offset (s ∷ starts) done (b ∷ blocks) all is = absurd (omega (arith, is, all.1.3.spelled.whole))
