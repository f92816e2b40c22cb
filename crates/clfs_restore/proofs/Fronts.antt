-- A container's front, as it was read: its open blocks are those of its file.
use Rattle.clfs_restore.proofs.Words.{⊎_elim, inl, inr, ◌≡◌, ◌≢◌, ℕ, zero, suc, ◌+◌, ◌-◌, ◌*◌, ◌<◌, ◌≤◌, List, [], ◌∷◌, ◌++◌, length, take, drop, get_or}
use Rattle.clfs_restore.proofs.Words.{refl, sym, ◌∙◌, ap, subst, arith, flat_map, drop-take, take-take, length-take, length-take-le, AreWhole, total}
use Rattle.std.proofs.Math.Seq.{take-add}
use Rattle.std.proofs.lemmas.List.{get_or-take}
use Rattle.clfs_container.specs.OpenBlocks.{block_sectors, BeginsWith, Opens, EndsCleanly}

-- a front that has all sectors that are left says as much of the first block
module _ (left : ℕ) (bytes : List ℕ) (some : 0 < left) where
  front_byte : (i : ℕ) → i < 4 → get_or (take (512 * left) bytes) i 0 ≡ get_or bytes i 0
  front_byte i near = get_or-take (512 * left) bytes i 0 (omega (arith, near, some))

  same_sectors : block_sectors (take (512 * left) bytes) ≡ block_sectors bytes
  same_sectors = let a = front_byte 2 (omega arith) in let b = front_byte 3 (omega arith) in omega (arith, a, b)

  same_gate : get_or (take (512 * left) bytes) 0 0 ≡ get_or bytes 0 0
  same_gate = front_byte 0 (omega arith)

  begins : (block : List ℕ) → BeginsWith left bytes block → BeginsWith left (take (512 * left) bytes) block
  begins block b =
      let n = block_sectors bytes in
      let f = take (512 * left) bytes in record {
        gate = same_gate ∙ b.gate;
        some = omega (arith, b.some, same_sectors);
        fits = omega (arith, b.fits, same_sectors);
        whole = omega (arith, same_sectors, b.whole, b.fits, length-take (512 * left) bytes);
        is = b.is ∙ sym (take-take (512 * n) (512 * left) bytes (omega (arith, b.fits))) ∙ ap (λ (k : ℕ). take (512 * k) f) (sym same_sectors);
      }

  behind : (block : List ℕ) → BeginsWith left bytes block
      → drop (512 * block_sectors (take (512 * left) bytes)) (take (512 * left) bytes) ≡ take (512 * (left - block_sectors bytes)) (drop (512 * block_sectors bytes) bytes)
  behind block b =
      let n = block_sectors bytes in
      let sum : 512 * left ≡ 512 * n + 512 * (left - n) = omega (arith, b.fits) in
      ap (λ (k : ℕ). drop (512 * k) (take (512 * left) bytes)) same_sectors
      ∙ ap (λ (k : ℕ). drop (512 * n) (take k bytes)) sum
      ∙ drop-take (512 * n) (512 * (left - n)) bytes

opens : (left : ℕ) (bytes : List ℕ) (here : List (List ℕ)) (rest : ℕ) → Opens left bytes here rest → Opens left (take (512 * left) bytes) here rest
opens left bytes [] rest o = o
opens left bytes (block ∷ others) rest o =
    let n = block_sectors bytes in
    let some : 0 < left = omega (arith, o.0.some, o.0.fits) in
    let next = opens (left - n) (drop (512 * n) bytes) others rest o.1 in (
      begins left bytes some block o.0,
      subst (λ (l : List ℕ). Opens (left - block_sectors (take (512 * left) bytes)) l others rest) (sym (behind left bytes some block o.0))
          (subst (λ (k : ℕ). Opens (left - k) (take (512 * (left - n)) (drop (512 * n) bytes)) others rest) (sym (same_sectors left bytes some)) next),
    )

block_len : (left : ℕ) (bytes block : List ℕ) → BeginsWith left bytes block → length block ≡ 512 * block_sectors bytes
block_len left bytes block b = ap length b.is ∙ length-take-le (512 * block_sectors bytes) bytes b.whole

-- how many sectors are left after open blocks
sectors_left : (left : ℕ) (bytes : List ℕ) (here : List (List ℕ)) (rest : ℕ) → Opens left bytes here rest → 512 * left ≡ total here + 512 * rest
sectors_left left bytes [] rest o = omega (arith, o)
sectors_left left bytes (block ∷ others) rest o =
    let n = block_sectors bytes in
    omega (arith, sectors_left (left - n) (drop (512 * n) bytes) others rest o.1, block_len left bytes block o.0, o.0.fits)

-- and the bytes of the blocks stand in front
pub open_bytes : (left : ℕ) (bytes : List ℕ) (here : List (List ℕ)) (rest : ℕ) → Opens left bytes here rest
    → take (total here) bytes ≡ flat_map (λ (block : List ℕ). block) here
open_bytes left bytes [] rest o = refl
open_bytes left bytes (block ∷ others) rest o =
    let n = block_sectors bytes in
    let len = block_len left bytes block o.0 in
    ap (λ (k : ℕ). take (k + total others) bytes) len
    ∙ take-add (512 * n) (total others) bytes
    ∙ ap (λ (l : List ℕ). l ++ take (total others) (drop (512 * n) bytes)) (sym o.0.is)
    ∙ ap (λ (l : List ℕ). block ++ l) (open_bytes (left - n) (drop (512 * n) bytes) others rest o.1)

-- the bytes of a container that are there have its open blocks
pub whole_front : (sectors : ℕ) (bytes : List ℕ) (here : List (List ℕ)) → AreWhole sectors bytes here → AreWhole sectors (take (512 * sectors) bytes) here
whole_front sectors bytes here whole =
    let rest = whole.0 in
    let sum = sectors_left sectors bytes here rest whole.1 in (
      rest,
      opens sectors bytes here rest whole.1,
      ⊎_elim (λ (none : rest ≡ 0). inl none) (λ (closed : (0 < length (drop (total here) bytes)) × (get_or (drop (total here) bytes) 0 0 ≢ 165)).
          by_rest rest sum closed) whole.2,
    )
  where
    cut : (rest : ℕ) → 512 * sectors ≡ total here + 512 * rest → drop (total here) (take (512 * sectors) bytes) ≡ take (512 * rest) (drop (total here) bytes)
    cut rest sum = ap (λ (k : ℕ). drop (total here) (take k bytes)) sum ∙ drop-take (total here) (512 * rest) bytes

    by_rest : (rest : ℕ) → 512 * sectors ≡ total here + 512 * rest
        → (0 < length (drop (total here) bytes)) × (get_or (drop (total here) bytes) 0 0 ≢ 165)
        → EndsCleanly rest (drop (total here) (take (512 * sectors) bytes))
    by_rest zero sum closed = inl refl
    by_rest (suc k) sum closed =
        let R = drop (total here) bytes in
        subst (λ (l : List ℕ). EndsCleanly (suc k) l) (sym (cut (suc k) sum))
        (inr (inl_of (omega (arith, closed.0, length-take (512 * suc k) R)) (λ same. closed.1 (sym (get_or-take (512 * suc k) R 0 0 (omega arith)) ∙ same))))
      where
        inl_of : 0 < length (take (512 * suc k) (drop (total here) bytes)) → get_or (take (512 * suc k) (drop (total here) bytes)) 0 0 ≢ 165
            → (0 < length (take (512 * suc k) (drop (total here) bytes))) × (get_or (take (512 * suc k) (drop (total here) bytes)) 0 0 ≢ 165)
        inl_of a b = (a, b)

-- the bytes of the open blocks, in a piece that begins as the file does
pub read_blocks : (sectors end count : ℕ) (file piece : List ℕ) (here : List (List ℕ)) → AreWhole sectors file here
    → take count piece ≡ take (512 * sectors) file → end ≡ total here → end ≤ length (take count piece)
    → take end piece ≡ flat_map (λ (block : List ℕ). block) here
read_blocks sectors end count file piece here whole front ends within =
    let there = whole_front sectors file here whole in
    sym (take-take end count piece (omega (arith, within, length-take count piece)))
    ∙ ap (take end) front
    ∙ ap (λ (k : ℕ). take k (take (512 * sectors) file)) ends
    ∙ open_bytes sectors (take (512 * sectors) file) here there.0 there.1
