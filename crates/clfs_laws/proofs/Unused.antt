-- A new number is new.
use Rattle.clfs_laws.proofs.Words.{◌≡◌, ℕ, zero, suc, ◌+◌, ◌≤◌, ◌<◌, Bool, true, false, refl, sym, ap, ◌∙◌, inl, inr, arith, List, [], ◌∷◌, length, Option}
use Rattle.clfs_laws.proofs.Words.{Some, None, find, filter, not, ◌==◌, unwrap_or, nat_lt, range_with_len, AllByRecursion, cases_Bool, eqb-true, eqb-false}
use Rattle.clfs_laws.proofs.Words.{ne_eqb, ltb-true, ltb-false, Area, is_area, least_unused}
use Rattle.std.specs.Prelude.{◌≢◌}
use Rattle.std.specs.List.{list_any}

-- whether one of some things has this number
abbrev pub has_number : {X : Type 0} → (X → ℕ) → List X → ℕ → Bool
has_number number_of xs number = list_any (λ x. number_of x == number) xs

-- those without this number
abbrev without : {X : Type 0} → (X → ℕ) → ℕ → List X → List X
without number_of number xs = filter (λ x. not (number_of x == number)) xs

filter_length : {X : Type 0} (number_of : X → ℕ) (number : ℕ) (xs : List X) → length (without number_of number xs) ≤ length xs
filter_length number_of number [] = omega arith
filter_length number_of number (x ∷ xs) = elim (cases_Bool (number_of x == number)) [
  | inl same ↦ rw same (omega (arith, filter_length number_of number xs))
  | inr other ↦ rw other (omega (arith, filter_length number_of number xs))
]

-- they are fewer where one has it
fewer : {X : Type 0} (number_of : X → ℕ) (number : ℕ) (xs : List X) → has_number number_of xs number ≡ true → length (without number_of number xs) < length xs
fewer number_of number [] has = absurd (cc)
fewer number_of number (x ∷ xs) has = elim (cases_Bool (number_of x == number)) [
  | inl same ↦ rw same (omega (arith, filter_length number_of number xs))
  | inr other ↦ rw other (let rest = fewer number_of number xs (rw other at has) in omega (arith, rest))
]

-- another number is still there
still_there : {X : Type 0} (number_of : X → ℕ) (number other : ℕ) (xs : List X) → (number == other) ≡ false
    → has_number number_of xs other ≡ true → has_number number_of (without number_of number xs) other ≡ true
still_there number_of number other [] differ has = has
still_there number_of number other (x ∷ xs) differ has = elim (cases_Bool (number_of x == number)) [
  | inl same ↦
      let is : number_of x ≡ number = eqb-true (number_of x) number same in
      let not_this : (number_of x == other) ≡ false = rw is differ in
      rw same (still_there number_of number other xs differ (rw not_this at has))
  | inr different ↦ rw different (elim (cases_Bool (number_of x == other)) [
    | inl here ↦ rw here refl
    | inr there ↦ rw there (still_there number_of number other xs differ (rw there at has))
  ])
]

-- so many numbers that are all there are at most as many as the things
all_there : {X : Type 0} (number_of : X → ℕ) (start count : ℕ) (xs : List X)
    → ((number : ℕ) → start ≤ number → number < start + count → has_number number_of xs number ≡ true) → count ≤ length xs
all_there number_of start zero xs has = omega arith
all_there number_of start (suc count) xs has =
    let first : has_number number_of xs start ≡ true = has start (omega arith) (omega arith) in
    let rest = all_there number_of (start + 1) count (without number_of start xs) (λ number low high.
    still_there number_of start number xs (ne_eqb start number (λ same. omega (arith, same, low))) (has number (omega (arith, low)) (omega (arith, high)))) in
    omega (arith, rest, fewer number_of start xs first)

-- a search that finds nothing shows that all fail
none_found : (p : ℕ → Bool) (start count : ℕ) → find p (range_with_len start count) ≡ None → (number : ℕ) → start ≤ number → number < start + count → p number ≡ false
none_found p start zero none number low high = absurd (omega (arith, low, high))
none_found p start (suc count) none number low high = elim (cases_Bool (p start)) [
  | inl found ↦ absurd (let here = rw found at none in cc)
  | inr fails ↦ elim (cases_Bool (start == number)) [
    | inl same ↦ ap p (sym (eqb-true start number same)) ∙ fails
    | inr other ↦ none_found p (start + 1) count (rw fails at none) number
        (let differ : start ≡ number → ⊥ = eqb-false start number other in omega (arith, low)) (omega (arith, high))
  ]
]

-- what a search finds passes
found_here : (p : ℕ → Bool) (start count number : ℕ) → find p (range_with_len start count) ≡ Some number → p number ≡ true
found_here p start zero number is = absurd (cc)
found_here p start (suc count) number is = elim (cases_Bool (p start)) [
  | inl found ↦ let here = rw found at is in let same : start ≡ number = cc in ap p (sym same) ∙ found
  | inr fails ↦ found_here p (start + 1) count number (rw fails at is)
]

-- a test that fails where its negation passes
not_passes : (b : Bool) → not b ≡ true → b ≡ false
not_passes true is = absurd (cc)
not_passes false is = refl

-- a test that passes where its negation fails
not_fails : (b : Bool) → not b ≡ false → b ≡ true
not_fails true is = refl
not_fails false is = absurd (cc)

-- what holds of each number up to one, and of the one after it
one_of : (has : ℕ → Bool) (number count : ℕ) → 1 ≤ number → number < 1 + (count + 1)
    → ((n : ℕ) → 1 ≤ n → n < 1 + count → has n ≡ true) → has (count + 1) ≡ true → has number ≡ true
one_of has number count low high below last = elim (cases_Bool (nat_lt number (1 + count))) [
  | inl less ↦ below number low (ltb-true number (1 + count) less)
  | inr more ↦
      let at_least : 1 + count ≤ number = ltb-false number (1 + count) more in
      let same : count + 1 ≡ number = omega (arith, at_least, high) in
      ap has (sym same) ∙ last
]

unused_by : {X : Type 0} (number_of : X → ℕ) (xs : List X) (found : Option ℕ)
    → find (λ number. not (has_number number_of xs number)) (range_with_len 1 (length xs)) ≡ found
    → has_number number_of xs (unwrap_or found (length xs + 1)) ≡ false
unused_by number_of xs None is = elim (cases_Bool (has_number number_of xs (length xs + 1))) [
  | inl used ↦ absurd (
      let below : (number : ℕ) → 1 ≤ number → number < 1 + length xs → has_number number_of xs number ≡ true =
      λ number low high. not_fails (has_number number_of xs number)
      (none_found (λ n. not (has_number number_of xs n)) 1 (length xs) is number low high) in
      let many = all_there number_of 1 (length xs + 1) xs
      (λ number low high. one_of (has_number number_of xs) number (length xs) low high below used) in omega (arith, many))
  | inr unused ↦ unused
]
unused_by number_of xs (Some number) is =
    not_passes (has_number number_of xs number) (found_here (λ n. not (has_number number_of xs n)) 1 (length xs) number is)

-- the least unused number is unused
pub unused_is_new : {X : Type 0} (number_of : X → ℕ) (xs : List X)
    → has_number number_of xs (least_unused (length xs) (has_number number_of xs)) ≡ false
unused_is_new number_of xs = unused_by number_of xs (find (λ number. not (has_number number_of xs number)) (range_with_len 1 (length xs))) refl

-- nothing has a number that is unused
pub none_has : {X : Type 0} (number_of : X → ℕ) (xs : List X) (number : ℕ) → has_number number_of xs number ≡ false
    → AllByRecursion (λ x. number_of x ≢ number) xs
none_has number_of [] number none = tt
none_has number_of (x ∷ xs) number none = elim (cases_Bool (number_of x == number)) [
  | inl same ↦ absurd (let wrong = rw same at none in cc)
  | inr other ↦ (eqb-false (number_of x) number other, none_has number_of xs number (rw other at none))
]

-- the number of an area
abbrev pub area_number_of : Area → ℕ
area_number_of area = area.number

-- a client's area of a number that none of its areas has isn't there
pub not_there : (client number : ℕ) (areas : List Area) → has_number area_number_of (filter (λ (area : Area). area.client == client) areas) number ≡ false
    → find (is_area client number) areas ≡ None
not_there client number [] none = refl
not_there client number (area ∷ areas) none = elim (cases_Bool (area.client == client)) [
  | inl mine ↦ let rest = rw mine at none in elim (cases_Bool (area.number == number)) [
    | inl same ↦ absurd (let wrong = rw same at rest in cc)
    | inr other ↦ rw (mine, other) (not_there client number areas (rw other at rest))
  ]
  | inr others ↦ rw others (not_there client number areas (rw others at none))
]
