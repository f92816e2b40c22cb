-- What stands at a place of bytes, and what of it a check finds right.
use Rattle.clfs_base.proofs.Words.{◌≡◌, ℕ, zero, suc, ◌+◌, ◌-◌, ◌*◌, ◌<◌, ◌≤◌, Bool, true, false, not, ◌||◌, eqb, ltb, List, [], ◌∷◌, ◌++◌, length, get_or}
use Rattle.clfs_base.proofs.Words.{take, drop, map, replicate, None, refl, sym, ◌∙◌, ap, subst, arith, ⊎_elim, length-append, length-drop, append_assoc}
use Rattle.clfs_base.proofs.Words.{take-append-drop, cases_eq, nat_tests, length-replicate, get_or-replicate, get_or-drop, get_or-take, length-take-le}
use Rattle.clfs_base.proofs.Words.{drop_at, drop-drop, ext_get_or, append-nil, map-range_with_len_more, flat_map, range_with_len, list_any, told, is_other}
use Rattle.clfs_base.proofs.Words.{other_byte}
use Rattle.std.proofs.lemmas.List.{get_or_append_left}
use Rattle.std.proofs.lemmas.List.Concat.{flat_map-append}
use Rattle.clfs_base.proofs.Searches.{none_found, each_none}

-- after a part of what stands at a place
pub behind_part : (bytes p q : List ℕ) (at n : ℕ) → drop at bytes ≡ p ++ q → length p ≡ n → drop (at + n) bytes ≡ q
behind_part bytes p q at n is size = sym (drop-drop n at bytes) ∙ ap (λ (l : List ℕ). drop n l) is ∙ drop_at p q n size

pub byte_of : (bytes p : List ℕ) (at j : ℕ) → drop at bytes ≡ p → get_or bytes (at + j) 0 ≡ get_or p j 0
byte_of bytes p at j is = sym (get_or-drop at bytes j 0) ∙ ap (λ (l : List ℕ). get_or l j 0) is

-- some bytes that stand at a place are there
pub is_there : (bytes p q : List ℕ) (at : ℕ) → drop at bytes ≡ p ++ q → 1 ≤ length p → at + length p ≤ length bytes
is_there bytes p q at is some = omega (arith, ap (λ (l : List ℕ). length l) is, length-drop at bytes, length-append p q, some)

pub not_told : (b : Bool) (at : ℕ) → b ≡ false → told b at ≡ None
not_told b at is = ap (λ (x : Bool). told x at) is

pub told_none : (b : Bool) (at : ℕ) → told b at ≡ None → b ≡ false
told_none true at e = absurd (cc e)
told_none false at e = refl

zero_passes : (size at byte : ℕ) → at + 1 ≤ size → byte ≡ 0 → (ltb size (at + 1) || not (eqb byte 0)) ≡ false
zero_passes size at byte there is = grind (arith, nat_tests)

other_is : (size at byte : ℕ) → (ltb size (at + 1) || not (eqb byte 0)) ≡ false → (at + 1 ≤ size) × (byte ≡ 0)
other_is size at byte e = (grind (arith, nat_tests), grind (arith, nat_tests))

-- zeros pass
pub zeros_pass : (bytes q : List ℕ) (at k end : ℕ) → drop at bytes ≡ replicate k 0 ++ q → end ≡ at + k → other_byte bytes at end ≡ None
zeros_pass bytes q at k end is end_is = none_found (λ j. told (is_other bytes j) j) at (end - at)
    (λ j from until.
    let j_is : at + (j - at) ≡ j = omega (arith, from) in
    let within : j - at < k = omega (arith, from, until, end_is) in
    let size : length (replicate k 0) ≡ k = length-replicate k 0 in
    let there : at + k ≤ length bytes = subst (λ (n : ℕ). at + n ≤ length bytes) size (is_there bytes (replicate k 0) q at is (omega (arith, within, size))) in
    let byte : get_or bytes j 0 ≡ 0 =
    ap (λ (n : ℕ). get_or bytes n 0) (sym j_is) ∙ byte_of bytes (replicate k 0 ++ q) at (j - at) is
    ∙ get_or_append_left (replicate k 0) q 0 (j - at) (omega (arith, within, size)) ∙ get_or-replicate k (j - at) 0 0 within in
    not_told _ j (zero_passes (length bytes) j (get_or bytes j 0) (omega (arith, there, within, from)) byte))

-- what passes is zeros
pub passed_zeros : (bytes : List ℕ) (at end : ℕ) → at ≤ end → other_byte bytes at end ≡ None → drop at bytes ≡ replicate (end - at) 0 ++ drop end bytes
passed_zeros bytes at end le none =
    let k = end - at in
    let right = λ (j : ℕ) (from : at ≤ j) (until : j < at + k).
    other_is (length bytes) j (get_or bytes j 0) (told_none _ j (each_none (λ n. told (is_other bytes n) n) at k none j from until)) in
    let there : k ≤ length (drop at bytes) = room k right in
    let zeros : take k (drop at bytes) ≡ replicate k 0 =
    ext_get_or 0 (take k (drop at bytes)) (replicate k 0) (length-take-le k (drop at bytes) there ∙ sym (length-replicate k 0))
    (λ i lt.
    let within : i < k = omega (arith, lt, length-take-le k (drop at bytes) there) in
    get_or-take k (drop at bytes) i 0 within ∙ get_or-drop at bytes i 0 ∙ (right (at + i) (omega arith) (omega (arith, within))).1
    ∙ sym (get_or-replicate k i 0 0 within)) in
    let end_is : at + k ≡ end = omega (arith, le) in
    sym (take-append-drop k (drop at bytes)) ∙ ap (λ (l : List ℕ). l ++ drop k (drop at bytes)) zeros
    ∙ ap (λ (l : List ℕ). replicate k 0 ++ l) (drop-drop k at bytes ∙ ap (λ (n : ℕ). drop n bytes) end_is)
  where
    room : (n : ℕ) → ((j : ℕ) → at ≤ j → j < at + n → (j + 1 ≤ length bytes) × (get_or bytes j 0 ≡ 0)) → n ≤ length (drop at bytes)
    room zero each = omega arith
    room (suc n) each = omega (arith, (each (at + n) (omega arith) (omega arith)).0, length-drop at bytes)

-- a piece among pieces of one length
pub piece_at : {X : Type 0} (f : X → List ℕ) (w : ℕ) (d : X) (bytes q : List ℕ) (xs : List X) (at i : ℕ)
    → ((k : ℕ) → k < length xs → length (f (get_or xs k d)) ≡ w) → i < length xs → drop at bytes ≡ flat_map f xs ++ q
    → drop (at + w * i) bytes ≡ f (get_or xs i d) ++ (flat_map f (drop (i + 1) xs) ++ q)
piece_at f w d bytes q [] at i each lt is = absurd (omega (arith, lt))
piece_at f w d bytes q (x ∷ xs) at zero each lt is =
    let here : at + w * 0 ≡ at = omega arith in
    ap (λ (n : ℕ). drop n bytes) here ∙ is ∙ append_assoc (f x) (flat_map f xs) q
piece_at f w d bytes q (x ∷ xs) at (suc i) each lt is =
    let next = behind_part bytes (f x) (flat_map f xs ++ q) at w (is ∙ append_assoc (f x) (flat_map f xs) q) (each 0 (omega arith)) in
    let rest = piece_at f w d bytes q xs (at + w) i (λ k within. each (suc k) (omega (arith, within))) (omega (arith, lt)) next in
    let place : at + w * suc i ≡ at + w + w * i = omega arith in
    let more : suc i + 1 ≡ suc (i + 1) = omega arith in
    ap (λ (n : ℕ). drop n bytes) place ∙ rest
    ∙ ap (λ (n : ℕ). f (get_or xs i d) ++ (flat_map f (drop n (x ∷ xs)) ++ q)) (sym more)

-- pieces that stand one after the other
pub pieces_are : {X : Type 0} (f : X → List ℕ) (g : ℕ → X) (w at : ℕ) (bytes : List ℕ) (n : ℕ)
    → ((i : ℕ) → i < n → drop (at + w * i) bytes ≡ f (g i) ++ drop (at + w * (i + 1)) bytes)
    → drop at bytes ≡ flat_map f (map g (range_with_len 0 n)) ++ drop (at + w * n) bytes
pieces_are f g w at bytes zero each = let here : at ≡ at + w * 0 = omega arith in ap (λ (n : ℕ). drop n bytes) here
pieces_are f g w at bytes (suc n) each =
    let front : List ℕ = flat_map f (map g (range_with_len 0 n)) in
    let before = pieces_are f g w at bytes n (λ i lt. each i (omega (arith, lt))) in
    let more : n + 1 ≡ suc n = omega arith in
    let pieces : front ++ f (g n) ≡ flat_map f (map g (range_with_len 0 (suc n))) =
    ap (λ (l : List ℕ). front ++ l) (sym (append-nil (f (g n)))) ∙ sym (flat_map-append f (map g (range_with_len 0 n)) (g n ∷ []))
    ∙ ap (λ l. flat_map f l) (sym (map-range_with_len_more g 0 n n (omega arith))) ∙ ap (λ (k : ℕ). flat_map f (map g (range_with_len 0 k))) more in
    before ∙ ap (λ (l : List ℕ). front ++ l) (each n (omega arith))
    ∙ sym (append_assoc front (f (g n)) (drop (at + w * (n + 1)) bytes))
    ∙ ap (λ (l : List ℕ). l ++ drop (at + w * (n + 1)) bytes) pieces
    ∙ ap (λ (k : ℕ). flat_map f (map g (range_with_len 0 (suc n))) ++ drop (at + w * k) bytes) more

-- none of the first so many passes a test
pub none_passes : {X : Type 0} (p : X → Bool) (g : ℕ → X) (from n : ℕ) → ((k : ℕ) → from ≤ k → k < from + n → p (g k) ≡ false)
    → list_any p (map g (range_with_len from n)) ≡ false
none_passes p g from zero each = refl
none_passes p g from (suc n) each =
    ap (λ (b : Bool). b || list_any p (map g (range_with_len (from + 1) n))) (each from (omega arith) (omega arith))
    ∙ none_passes p g (from + 1) n (λ k le lt. each k (omega (arith, le)) (omega (arith, lt)))

either_false : (a b : Bool) → (a || b) ≡ false → (a ≡ false) × (b ≡ false)
either_false true b e = absurd (cc e)
either_false false b e = (refl, e)

pub each_fails : {X : Type 0} (p : X → Bool) (g : ℕ → X) (from n : ℕ) → list_any p (map g (range_with_len from n)) ≡ false
    → (k : ℕ) → from ≤ k → k < from + n → p (g k) ≡ false
each_fails p g from zero e k le lt = absurd (omega (arith, le, lt))
each_fails p g from (suc n) e k le lt =
    let parts = either_false (p (g from)) (list_any p (map g (range_with_len (from + 1) n))) e in
    ⊎_elim
    (λ (is : k ≡ from). ap (λ (j : ℕ). p (g j)) is ∙ parts.0)
    (λ apart. each_fails p g (from + 1) n parts.1 k (omega (arith, le, apart)) (omega (arith, lt)))
    (cases_eq k from)
