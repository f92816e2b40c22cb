-- Numbers, one after the other.
use Rattle.std.proofs.Common.{◌≡◌, ℕ, zero, suc, ◌+◌, ◌<◌, ◌≤◌, Bool, true, false, refl, sym, ap, ◌∙◌, List, [], ◌∷◌, ◌++◌, length, arith, inl, inr}
use Rattle.clfs_lsn.specs.Limits.{most_clients}
use Rattle.clfs_model.specs.Conditions.{IsClient}
use Rattle.std.specs.Prelude.{◌==◌, ◌||◌, ◌&&◌, not}
use Rattle.std.specs.List.{range_with_len}
use Rattle.std.proofs.lemmas.Bool.Decides.{nat_tests}
use Rattle.std.proofs.lemmas.Bool.{cases_Bool, true≢false}
use Rattle.clfs_turn.specs.Lists.{is_in, are_distinct}

-- one number more
range_more : (from count : ℕ) → range_with_len from (suc count) ≡ range_with_len from count ++ (from + count) ∷ []
range_more from zero = let e : from + 0 ≡ from = omega arith in ap (λ (n : ℕ). n ∷ []) (sym e)
range_more from (suc count) =
    let e : from + 1 + count ≡ from + suc count = omega arith in
    ap (λ (z : List ℕ). from ∷ z) (range_more (from + 1) count ∙ ap (λ (n : ℕ). range_with_len (from + 1) count ++ n ∷ []) e)

-- the same of the numbers from 1
pub numbers_more : (count : ℕ) (items : List ℕ) → items ≡ range_with_len 1 count → items ++ (count + 1) ∷ [] ≡ range_with_len 1 (count + 1)
numbers_more count items are =
    let e : count + 1 ≡ 1 + count = omega arith in
    let next : count + 1 ≡ suc count = omega arith in
    ap (λ (z : List ℕ). z ++ (count + 1) ∷ []) are ∙ ap (λ (n : ℕ). range_with_len 1 count ++ n ∷ []) e ∙ sym (range_more 1 count)
    ∙ ap (λ (n : ℕ). range_with_len 1 n) (sym next)

equal_by : (a b : ℕ) → (a == b) ≡ true → a ≡ b
equal_by a b is = grind (arith, nat_tests)

unequal : (a b : ℕ) → a < b → (a == b) ≡ false
unequal a b below = grind (arith, nat_tests)

-- a number of them is none below the first, and none past the last
pub in_range : (from count n : ℕ) → is_in n (range_with_len from count) ≡ true → (from ≤ n) × (n < from + count)
in_range from zero n is = absurd (true≢false (sym is))
in_range from (suc count) n is = elim (cases_Bool (from == n)) [
  | inl same ↦ let e = equal_by from n same in (omega arith, omega arith)
  | inr other ↦
      let rest : is_in n (range_with_len (from + 1) count) ≡ true = sym (ap (λ (b : Bool). b || is_in n (range_with_len (from + 1) count)) other) ∙ is in
      let found = in_range (from + 1) count n rest in
      let least = found.0 in
      let most = found.1 in (omega arith, omega arith)
]

pub below_range : (from count n : ℕ) → n < from → is_in n (range_with_len from count) ≡ false
below_range from zero n below = refl
below_range from (suc count) n below =
    let other : (from == n) ≡ false = grind (arith, nat_tests) in
    ap (λ (b : Bool). b || is_in n (range_with_len (from + 1) count)) other ∙ below_range (from + 1) count n (omega arith)

none_past : (from count n : ℕ) → from + count ≤ n → is_in n (range_with_len from count) ≡ false
none_past from zero n past = refl
none_past from (suc count) n past =
    let other : (from == n) ≡ false = grind (arith, nat_tests) in
    ap (λ (b : Bool). b || is_in n (range_with_len (from + 1) count)) other ∙ none_past (from + 1) count n (omega arith)

-- a number past the last is none of them
pub past_range : (count n : ℕ) → count < n → is_in n (range_with_len 1 count) ≡ false
past_range count n past = none_past 1 count n (omega arith)

-- they are all different
pub range_distinct : (from count : ℕ) → are_distinct (range_with_len from count) ≡ true
range_distinct from zero = refl
range_distinct from (suc count) =
    ap (λ (b : Bool). not b && are_distinct (range_with_len (from + 1) count)) (below_range (from + 1) count from (omega arith))
    ∙ range_distinct (from + 1) count

-- as many as they are to be
pub range_length : (from count : ℕ) → length (range_with_len from count) ≡ count
range_length from zero = refl
range_length from (suc count) = ap (λ (n : ℕ). suc n) (range_length (from + 1) count)

-- a number of those of clients is one that a client can have
pub client_in : (count c : ℕ) → count ≤ most_clients → is_in c (range_with_len 1 count) ≡ true → IsClient c
client_in count c few is =
    let found = in_range 1 count c is in
    let least = found.0 in
    let most = found.1 in record { least = least; greatest = omega (arith, most, few) }
