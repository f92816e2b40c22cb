-- The first number that fails a test.
use Rattle.clfs_block.proofs.Words.{◌≡◌, ℕ, zero, suc, ◌+◌, ◌-◌, ◌*◌, ◌<◌, ◌≤◌, Bool, true, false, cond, eqb, List, get_or, Option, Some, None, Result, Ok}
use Rattle.clfs_block.proofs.Words.{refl, sym, ◌∙◌, ap, arith, ⊎_elim, cases_eq, place_of, first_failing, payload_place, rest_at, unless_wrong, sectors}
use Rattle.clfs_block.proofs.Words.{BlockHead, BlockRefusal, BadByte}

abbrev answered : BlockHead → Result BlockHead BlockRefusal
answered head = Ok head

module _ (test : ℕ → Bool) (i end : ℕ) where
  one_more : i < end → first_failing test i (end - i) ≡ cond (test i) (first_failing test (i + 1) (end - (i + 1))) (Some i)
  one_more lt = let e : end - i ≡ suc (end - (i + 1)) = omega (arith, lt) in ap (λ (n : ℕ). first_failing test i n) e

  -- the number passes, and the search goes on after it
  pub passes_on : i < end → test i ≡ true → first_failing test (i + 1) (end - (i + 1)) ≡ first_failing test i (end - i)
  passes_on lt pass = sym (one_more lt ∙ ap (λ b. cond b (first_failing test (i + 1) (end - (i + 1))) (Some i)) pass)

  pub fails_here : i < end → test i ≡ false → first_failing test i (end - i) ≡ Some i
  fails_here lt fail = one_more lt ∙ ap (λ b. cond b (first_failing test (i + 1) (end - (i + 1))) (Some i)) fail

  pub ends_here : end ≤ i → first_failing test i (end - i) ≡ None
  ends_here le = let e : end - i ≡ 0 = omega (arith, le) in ap (λ (n : ℕ). first_failing test i n) e

none_or : (b : Bool) (i : ℕ) (o : Option ℕ) → cond b o (Some i) ≡ None → (b ≡ true) × (o ≡ None)
none_or true i o e = (refl, e)
none_or false i o e = absurd (cc e)

-- none fails where each passes, and the other way round
pub none_fails : (test : ℕ → Bool) (from n : ℕ) → ((j : ℕ) → from ≤ j → j < from + n → test j ≡ true) → first_failing test from n ≡ None
none_fails test from zero each = refl
none_fails test from (suc n) each =
    ap (λ b. cond b (first_failing test (from + 1) n) (Some from)) (each from (omega arith) (omega arith))
    ∙ none_fails test (from + 1) n (λ j le lt. each j (omega (arith, le)) (omega (arith, lt)))

pub each_passes : (test : ℕ → Bool) (from n : ℕ) → first_failing test from n ≡ None → (j : ℕ) → from ≤ j → j < from + n → test j ≡ true
each_passes test from zero e j le lt = absurd (omega (arith, le, lt))
each_passes test from (suc n) e j le lt =
    let parts = none_or (test from) from (first_failing test (from + 1) n) e in
    ⊎_elim
    (λ (is : j ≡ from). ap test is ∙ parts.0)
    (λ apart. each_passes test (from + 1) n parts.1 j (omega (arith, le, apart)) (omega (arith, lt)))
    (cases_eq j from)

-- payload bytes that stand in a row
pub payload_in_row : (bytes : List ℕ) (p at n : ℕ) → ((j : ℕ) → j < n → place_of (p + j) ≡ at + j)
    → payload_place (first_failing (λ q. eqb (get_or bytes (place_of q) 0) 0) p n) ≡ first_failing (λ q. eqb (get_or bytes q 0) 0) at n
payload_in_row bytes p at zero row = refl
payload_in_row bytes p at (suc n) row =
    let here : place_of p ≡ at = ap place_of (omega arith) ∙ row 0 (omega arith) ∙ omega arith in
    either (eqb (get_or bytes (place_of p) 0) 0) (eqb (get_or bytes at 0) 0) _ _ (ap (λ (k : ℕ). eqb (get_or bytes k 0) 0) here) here
    (payload_in_row bytes (p + 1) (at + 1) n (λ j lt. ap place_of (omega arith) ∙ row (j + 1) (omega (arith, lt)) ∙ omega arith))
  where
    either : (a b : Bool) (x y : Option ℕ) → a ≡ b → place_of p ≡ at → payload_place x ≡ y → payload_place (cond a x (Some p)) ≡ cond b y (Some at)
    either true true x y e here rest = rest
    either false false x y e here rest = ap (λ (k : ℕ). Some k) here
    either true false x y e here rest = absurd (cc e)
    either false true x y e here rest = absurd (cc e)

-- the unused payload stands in the last sector
pub rest_is : (bytes : List ℕ) (head : BlockHead) (answer : Option ℕ) (from end : ℕ) → sectors head.used ≡ head.sectors → 1 ≤ head.sectors
    → from ≡ 512 * (head.sectors - 1) + (head.used - 504 * (head.sectors - 1)) → end ≡ 512 * (head.sectors - 1) + 504
    → answer ≡ first_failing (λ q. eqb (get_or bytes q 0) 0) from (end - from) → rest_at bytes head ≡ unless_wrong BadByte answer (Ok head)
rest_is bytes head answer from end is some from_is end_is found =
    let count : 504 * head.sectors - head.used ≡ end - from = omega (arith, is, some, from_is, end_is) in
    let row = payload_in_row bytes head.used from (504 * head.sectors - head.used) (λ j lt. omega (arith, lt, is, some, from_is)) in
    ap (λ (o : Option ℕ). unless_wrong BadByte o (answered head))
    (row ∙ ap (λ (n : ℕ). first_failing (λ q. eqb (get_or bytes q 0) 0) from n) count ∙ sym found)
