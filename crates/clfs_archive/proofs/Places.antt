-- What is told of blocks once the first of them have gone.
use Rattle.std.proofs.Common.{◌≡◌, ℕ, ◌+◌, ◌-◌, ◌<◌, ◌≤◌, ap, ◌∙◌, inl, inr, arith, List, length, get_or, drop}
use Rattle.std.specs.List.{AllWithin}
use Rattle.std.proofs.lemmas.Bool.{cases_lt}
use Rattle.std.proofs.lemmas.List.{get_or-drop, length-drop}
use Rattle.std.proofs.lemmas.List.Elements.{All-drop}
use Rattle.clfs_lsn.specs.declared.entry.Head.{Head}
use Rattle.clfs_archive.specs.declared.block.BlockEnd.{BlockEnd}
use Rattle.clfs_archive.specs.Blocks.{IsBlock, AreBlocks}

-- What lies from an LSN on is still told where the blocks below it went.
pub still_told : (blocks new : List BlockEnd) (lsn place from stable : ℕ) (heads : List Head) → AllWithin (λ (block : BlockEnd). block.last < lsn) blocks 0 place → new ≡ drop place blocks → lsn ≤ from
    → AreBlocks from stable blocks heads → AreBlocks from stable new heads
still_told blocks new lsn place from stable heads at is up are = record {
  rising = are.rising;
  each = rw is (All-drop (IsBlock heads) place blocks are.each);
  told = λ k d inside high below.
      let block = are.told k d inside high below in
      let right : IsBlock heads block.1 = rw block.3 at (are.each block.0 block.1 block.2) in
      let up_to = right.others k d inside block.4.0 in
      let behind : place ≤ block.0 = elim (cases_lt block.0 place) [
        | inr over ↦ over
        | inl before ↦ absurd (let under = rw block.3 at (at block.0 block.1 (omega arith) before) in omega (arith, under, up_to, high, up))
      ] in
      let back : place + (block.0 - place) ≡ block.0 = omega (arith, behind) in
      let there : get_or new (block.0 - place) block.1 ≡ block.1
      = rw is (get_or-drop place blocks (block.0 - place) block.1 ∙ ap (λ n. get_or blocks n block.1) back ∙ block.3) in
      let long = ap length is ∙ length-drop place blocks in
      let within : block.0 - place < length new = (let end = block.2 in omega (arith, end, behind, long)) in
      (block.0 - place, block.1, within, there, block.4);
}
