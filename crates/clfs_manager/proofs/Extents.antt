-- The ends of blocks that memory has suffice for the extents that are to be archived.
use Rattle.clfs_manager.proofs.Words.{◌≡◌, ℕ, ◌<◌, ◌≤◌, true, sym, ap, subst, ◌∙◌, List, arith, Option, Some, None, IfSome, Any, All-weaker, lsn_number}
use Rattle.clfs_manager.proofs.Words.{container_of, Head, State, is_in_block, extents, Extent, block_start, flushed, heads_of, extents_of, hold, IsValid}
use Rattle.clfs_manager.proofs.Words.{AreSealed, BlocksGoOn, BlockEnd}
use Rattle.clfs_archive.specs.Blocks.{AreBlocks}
use Rattle.clfs_manager.proofs.Numbers.{flushed_below, flushed_starts, hold_up_to_tail}

-- blocks that are told from an LSN on are told from every later one on
pub told_later : (low high stable : ℕ) (blocks : List BlockEnd) (heads : List Head) → low ≤ high → AreBlocks low stable blocks heads → AreBlocks high stable blocks heads
told_later low high stable blocks heads le are = record {
  rising = are.rising;
  each = are.each;
  told = All-weaker
      (λ (head : Head). low ≤ head.lsn → head.lsn < stable → Any (λ (block : BlockEnd). (is_in_block head.lsn block.last ≡ true) × (block.last < stable)) blocks)
      (λ (head : Head). high ≤ head.lsn → head.lsn < stable → Any (λ (block : BlockEnd). (is_in_block head.lsn block.last ≡ true) × (block.last < stable)) blocks)
      (λ head told from below. told (omega (arith, le, from)) below) heads are.told;
}

start_below : (n : ℕ) → lsn_number (container_of n) 0 0 ≤ n
start_below n = omega arith

-- the blocks on the disk from the archive tail on are told
told_from_tail : (s : State) (low : ℕ) (blocks : List BlockEnd) (tail : Option ℕ) → BlocksGoOn → IsValid s → low ≤ lsn_number (container_of (hold s)) 0 0
    → AreSealed low (block_start s.place) blocks (heads_of s) → IfSome tail (λ lsn. hold s ≤ lsn)
    → IfSome tail (λ lsn. AreBlocks lsn (flushed s) blocks (heads_of s))
told_from_tail s low blocks None law valid below sealed is = tt
told_from_tail s low blocks (Some tail) law valid below sealed is =
    told_later low tail (flushed s) blocks (heads_of s) (omega (arith, below, is, start_below (hold s)))
    (law.stable low (block_start s.place) (flushed s) blocks (heads_of s) sealed (flushed_below s valid) (flushed_starts s valid))

-- the same as memory has the archive tail and the LSN below which all is on the disk
pub told_by : (s : State) (low stable : ℕ) (blocks : List BlockEnd) (tail : Option ℕ) → BlocksGoOn → IsValid s → low ≤ lsn_number (container_of (hold s)) 0 0
    → AreSealed low (block_start s.place) blocks (heads_of s) → tail ≡ s.archive → stable ≡ flushed s
    → IfSome tail (λ lsn. AreBlocks lsn stable blocks (heads_of s))
told_by s low stable blocks tail law valid below sealed of_tail of_stable =
    let held : IfSome tail (λ lsn. hold s ≤ lsn) = subst (λ (t : Option ℕ). IfSome t (λ lsn. hold s ≤ lsn)) (sym of_tail) (hold_up_to_tail s) in
    subst (λ (n : ℕ). IfSome tail (λ lsn. AreBlocks lsn n blocks (heads_of s))) (sym of_stable) (told_from_tail s low blocks tail law valid below sealed held)

-- the extents, by what they are computed from
pub extents_are : (s : State) (stable container : ℕ) (tail : Option ℕ) (result : List Extent) → result ≡ extents_of stable container tail (heads_of s)
    → extents s ≡ extents_of (flushed s) s.place.container s.archive (heads_of s)
    → stable ≡ flushed s → container ≡ s.place.container → tail ≡ s.archive → result ≡ extents s
extents_are s stable container tail result is law of_stable of_container of_tail =
    is ∙ ap (λ (n : ℕ). extents_of n container tail (heads_of s)) of_stable ∙ ap (λ (n : ℕ). extents_of (flushed s) n tail (heads_of s)) of_container
    ∙ ap (λ (t : Option ℕ). extents_of (flushed s) s.place.container t (heads_of s)) of_tail ∙ sym law
