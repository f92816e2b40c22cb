-- A block has one spelling.
use Rattle.clfs_block.proofs.Words.{◌≡◌, ⊎_elim, ℕ, zero, suc, ◌+◌, ◌-◌, ◌*◌, ◌/◌, ◌%◌, ◌<◌, ◌≤◌, List, get_or, drop, sym, ◌∙◌, ap, arith, ext_get_or}
use Rattle.clfs_block.proofs.Words.{get_or-drop, cases_lt, cases_eq, little_from, sectors, place_of, address_in, used_bytes, AreBytes, SpellsBlock}
use Rattle.clfs_block.proofs.Frames.{get_or-payload_of}

-- numbers are equal in their lowest byte and in what is above it
same_parts : (x y m n : ℕ) → x < 256 → y < 256 → x + 256 * m ≡ y + 256 * n → (x ≡ y) × (m ≡ n)
same_parts x y m n p q is = (omega (arith, p, q, is), omega (arith, p, q, is))

-- equal numbers have equal bytes
same_bytes : (from n : ℕ) (xs ys : List ℕ) → AreBytes xs → AreBytes ys → little_from from n xs ≡ little_from from n ys
    → (j : ℕ) → from ≤ j → j < from + n → get_or xs j 0 ≡ get_or ys j 0
same_bytes from zero xs ys p q is j le lt = absurd (omega (arith, le, lt))
same_bytes from (suc n) xs ys p q is j le lt =
    let parts = same_parts (get_or xs from 0) (get_or ys from 0) (little_from (suc from) n xs) (little_from (suc from) n ys) (p from) (q from) is in
    ⊎_elim
    (λ (here : j ≡ from). ap (λ (k : ℕ). get_or xs k 0) here ∙ parts.0 ∙ sym (ap (λ (k : ℕ). get_or ys k 0) here))
    (λ apart. same_bytes (suc from) n xs ys p q parts.1 j (omega (arith, le, apart)) (omega (arith, lt)))
    (cases_eq j from)

-- bytes with the same address in a sector agree there
same_in_address : (a b : List ℕ) (i : ℕ) → AreBytes a → AreBytes b → address_in a i ≡ address_in b i
    → (k : ℕ) → 512 * i + 504 ≤ k → k < 512 * i + 512 → get_or a k 0 ≡ get_or b k 0
same_in_address a b i p q is k from until =
    let at = 512 * i + 504 in
    let j = k - at in
    let place : at + j ≡ k = omega (arith, from) in
    let behind = λ (l : List ℕ). get_or-drop at l j 0 ∙ ap (λ (n : ℕ). get_or l n 0) place in
    sym (behind a)
    ∙ same_bytes 0 8 (drop at a) (drop at b) (λ n. omega (arith, get_or-drop at a n 0, p (at + n))) (λ n. omega (arith, get_or-drop at b n 0, q (at + n)))
    is j (omega arith) (omega (arith, from, until))
    ∙ behind b

pub one_spelling : (start gate records : ℕ) (content a b : List ℕ) → AreBytes a → AreBytes b → SpellsBlock start gate records content a
    → SpellsBlock start gate records content b → a ≡ b
one_spelling start gate records content a b p q s t = ext_get_or 0 a b (s.whole ∙ sym t.whole) (λ k lt. ⊎_elim
    (λ (low : k % 512 < 504). in_payload k (504 * (k / 512) + k % 512) (omega (arith, low)) (omega (arith, low, lt, s.whole)))
    (λ (high : 504 ≤ k % 512).
    let i = k / 512 in
    let within : i < sectors (used_bytes content) = omega (arith, lt, s.whole) in
    same_in_address a b i p q (s.addresses i within ∙ sym (t.addresses i within)) k (omega (arith, high)) (omega arith))
    (cases_lt (k % 512) 504))
  where
    in_payload : (k at : ℕ) → place_of at ≡ k → at < 504 * sectors (used_bytes content) → get_or a k 0 ≡ get_or b k 0
    in_payload k at place until = ⊎_elim
        (λ (used : at < used_bytes content).
        let of = λ (l : List ℕ). sym (ap (λ (n : ℕ). get_or l n 0) place) ∙ sym (get_or-payload_of (used_bytes content) l at used) in
        of a ∙ ap (λ (l : List ℕ). get_or l at 0) (s.used ∙ sym t.used) ∙ sym (of b))
        (λ (past : used_bytes content ≤ at).
        let of = λ (l : List ℕ). sym (ap (λ (n : ℕ). get_or l n 0) place) in
        of a ∙ s.zeros at (omega (arith, past)) until ∙ sym (t.zeros at (omega (arith, past)) until) ∙ sym (of b))
        (cases_lt at (used_bytes content))
