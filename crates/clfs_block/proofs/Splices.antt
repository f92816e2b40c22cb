-- Eight bytes that are written in their place.
use Rattle.clfs_block.proofs.Words.{◌≡◌, ℕ, zero, suc, ◌+◌, ◌-◌, ◌*◌, ◌^◌, ◌<◌, ◌≤◌, List, ◌++◌, length, get_or, take, drop, refl, sym, ◌∙◌, ap, arith}
use Rattle.clfs_block.proofs.Words.{append_assoc, length-append, length-drop, length-take-le, get_or-take, get_or-drop, get_or_append_left}
use Rattle.clfs_block.proofs.Words.{get_or-append_right, drop_at, take-append-le, little_number, little_from, address_in}
use Rattle.std.proofs.lemmas.List.{take-take}
use Rattle.byteorder.specs.Endian.{little_bytes}
use Rattle.byteorder.specs.Numbers.{little_number-reads_back}

module _ (old : List ℕ) (at number : ℕ) (room : at + 8 ≤ length old) (new : List ℕ)
    (put : new ≡ take at old ++ little_bytes 8 number ++ drop (at + 8) old) where
  is : new ≡ take at old ++ (little_bytes 8 number ++ drop (at + 8) old)
  is = put ∙ append_assoc (take at old) (little_bytes 8 number) (drop (at + 8) old)

  front_length : length (take at old) ≡ at
  front_length = length-take-le at old (omega (arith, room))

  pub length-spliced : length new ≡ length old
  length-spliced = ap (λ (l : List ℕ). length l) is
      ∙ omega (arith, room, front_length, length-append (take at old) (little_bytes 8 number ++ drop (at + 8) old), length-drop (at + 8) old)

  pub spliced_below : (k : ℕ) → k < at → get_or new k 0 ≡ get_or old k 0
  spliced_below k lt = ap (λ (l : List ℕ). get_or l k 0) is
      ∙ get_or_append_left (take at old) (little_bytes 8 number ++ drop (at + 8) old) 0 k (omega (arith, lt, front_length)) ∙ get_or-take at old k 0 lt

  pub spliced_above : (k : ℕ) → at + 8 ≤ k → get_or new k 0 ≡ get_or old k 0
  spliced_above k le =
      let index : at + 8 + (k - at - 8) ≡ k = omega (arith, le) in
      ap (λ (l : List ℕ). get_or l k 0) is
      ∙ get_or-append_right (take at old) (little_bytes 8 number ++ drop (at + 8) old) at k 0 front_length (omega (arith, le))
      ∙ get_or-append_right (little_bytes 8 number) (drop (at + 8) old) 8 (k - at) 0 refl (omega (arith, le))
      ∙ get_or-drop (at + 8) old (k - at - 8) 0 ∙ ap (λ (n : ℕ). get_or old n 0) index

  pub number_spliced : number < 2 ^ 64 → little_number 8 (drop at new) ≡ number
  number_spliced small = ap (λ (l : List ℕ). little_number 8 (drop at l)) is
      ∙ ap (λ (l : List ℕ). little_number 8 l) (drop_at (take at old) (little_bytes 8 number ++ drop (at + 8) old) at front_length)
      ∙ little_number-reads_back 8 number (drop (at + 8) old) small

  -- what stands before them stays
  pub take_spliced : (n : ℕ) → n ≤ at → take n new ≡ take n old
  take_spliced n le = ap (λ (l : List ℕ). take n l) is
      ∙ take-append-le n (take at old) (little_bytes 8 number ++ drop (at + 8) old) (omega (arith, le, front_length)) ∙ take-take n at old le

-- a number of the same bytes is the same
same_from : (i n : ℕ) (xs ys : List ℕ) → ((j : ℕ) → i ≤ j → j < i + n → get_or xs j 0 ≡ get_or ys j 0) → little_from i n xs ≡ little_from i n ys
same_from i zero xs ys each = refl
same_from i (suc n) xs ys each =
    let first : get_or xs i 0 ≡ get_or ys i 0 = each i (omega arith) (omega arith) in
    let others : little_from (suc i) n xs ≡ little_from (suc i) n ys = same_from (suc i) n xs ys (λ j le lt. each j (omega (arith, le)) (omega (arith, lt))) in
    omega (arith, first, others)

pub same_address : (xs ys : List ℕ) (i : ℕ) → ((k : ℕ) → 512 * i + 504 ≤ k → k < 512 * i + 512 → get_or xs k 0 ≡ get_or ys k 0)
    → address_in xs i ≡ address_in ys i
same_address xs ys i each = same_from 0 8 (drop (512 * i + 504) xs) (drop (512 * i + 504) ys)
    (λ j le lt. get_or-drop (512 * i + 504) xs j 0 ∙ each (512 * i + 504 + j) (omega arith) (omega (arith, lt)) ∙ sym (get_or-drop (512 * i + 504) ys j 0))
