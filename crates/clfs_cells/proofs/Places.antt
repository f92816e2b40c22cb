-- The first element of a list that passes a test: where it stands, and what a write to it or its removal makes of the list.
use Rattle.clfs_cells.proofs.Words.{◌≡◌, ℕ, zero, suc, ◌+◌, ◌<◌, ◌≤◌, if◌then◌else◌, Bool, true, false, List, [], ◌∷◌, length, Some, None, find, position}
use Rattle.clfs_cells.proofs.Words.{slice_set, slice_index_or, filter, not, refl, ap, ◌∙◌, arith, inl, inr, map, nat_lt, length-map, position_or_len}
use Rattle.clfs_cells.proofs.Words.{cases_Bool, change_first, Made}
use Rattle.std.specs.List.{prefix_len}
use Rattle.std.proofs.lemmas.Bool.{ltb-false}
use Rattle.std.proofs.lemmas.List.Quantifiers.{position-Some}

-- the element at this place is the first that passes
pub record StandsAt {X : Type 0} (p : X → Bool) (xs : List X) (place : ℕ) : Type 0 where
  pub inside : place < length xs
  pub there : (d : X) → p (slice_index_or xs place d) ≡ true
  pub first : (d : X) (before : ℕ) → before < place → p (slice_index_or xs before d) ≡ false

pub stands_at : {X : Type 0} (p : X → Bool) (xs : List X) (i : ℕ) → position p xs ≡ Some i → StandsAt p xs i
stands_at p [] i h = absurd (cc h)
stands_at p (x ∷ xs) i h = record {
  inside = (position-Some p (x ∷ xs) i x h).0;
  there = λ e. (position-Some p (x ∷ xs) i e h).1;
  first = λ e. (position-Some p (x ∷ xs) i e h).2;
}

pub rest : {X : Type 0} (p : X → Bool) (x : X) (xs : List X) (i : ℕ) → StandsAt p (x ∷ xs) (suc i) → StandsAt p xs i
rest p x xs i h = record { inside = omega (arith, h.inside); there = h.there; first = λ d k l. h.first d (suc k) (omega arith) }

-- it is the one that is found
pub found : {X : Type 0} (p : X → Bool) (xs : List X) (i : ℕ) (d : X) → StandsAt p xs i → find p xs ≡ Some (slice_index_or xs i d)
found p [] i d h = absurd (omega (arith, h.inside))
found p (x ∷ xs) zero d h = rw (h.there d) refl
found p (x ∷ xs) (suc i) d h = rw (h.first d 0 (omega arith)) (found p xs i d (rest p x xs i h))

-- a write to it is the change of the first that passes
pub changed_there : {X : Type 0} (p : X → Bool) (f : X → X) (xs : List X) (i : ℕ) (d : X) → StandsAt p xs i
    → slice_set xs i (f (slice_index_or xs i d)) ≡ change_first p f xs
changed_there p f [] i d h = absurd (omega (arith, h.inside))
changed_there p f (x ∷ xs) zero d h = rw (h.there d) refl
changed_there p f (x ∷ xs) (suc i) d h = rw (h.first d 0 (omega arith)) (ap (λ l. x ∷ l) (changed_there p f xs i d (rest p x xs i h)))

-- a place in a list that was mapped
prefix_len-map : {X Y : Type 0} (p : Y → Bool) (f : X → Y) (xs : List X) → prefix_len p (map f xs) ≡ prefix_len (λ x. p (f x)) xs
prefix_len-map p f [] = refl
prefix_len-map p f (x ∷ xs) = ap (λ (n : ℕ). if p (f x) then 1 + n else 0) (prefix_len-map p f xs)

pub position-map : {X Y : Type 0} (p : Y → Bool) (f : X → Y) (xs : List X) → position p (map f xs) ≡ position (λ x. p (f x)) xs
position-map p f xs =
    let place = prefix_len-map (λ y. not (p y)) f xs in
    let size = length-map xs f in
    ap (λ (n : ℕ). if nat_lt n (length (map f xs)) then Some n else None) place
    ∙ ap (λ (n : ℕ). if nat_lt (position_or_len (λ x. p (f x)) xs) n then Some (position_or_len (λ x. p (f x)) xs) else None) size

none_told : (b : Bool) (i : ℕ) → (if b then Some i else None) ≡ None → b ≡ false
none_told true i h = absurd (cc h)
none_told false i h = refl

-- where none passes, none is found
pub absent : {X : Type 0} (p : X → Bool) (xs : List X) → length xs ≤ position_or_len p xs → find p xs ≡ None
absent p [] far = refl
absent p (x ∷ xs) far = elim (cases_Bool (p x)) [
  | inl passes ↦ let none : length (x ∷ xs) ≤ 0 = rw passes at far in absurd (omega (arith, none))
  | inr fails ↦ let more : length (x ∷ xs) ≤ 1 + position_or_len p xs = rw fails at far in rw fails (absent p xs (omega (arith, more)))
]

-- and none is changed
pub unchanged : {X : Type 0} (p : X → Bool) (f : X → X) (xs : List X) → length xs ≤ position_or_len p xs → change_first p f xs ≡ xs
unchanged p f [] far = refl
unchanged p f (x ∷ xs) far = elim (cases_Bool (p x)) [
  | inl passes ↦ let none : length (x ∷ xs) ≤ 0 = rw passes at far in absurd (omega (arith, none))
  | inr fails ↦
      let more : length (x ∷ xs) ≤ 1 + position_or_len p xs = rw fails at far in rw fails (ap (λ l. x ∷ l) (unchanged p f xs (omega (arith, more))))
]

pub far : {X : Type 0} (p : X → Bool) (xs : List X) → position p xs ≡ None → length xs ≤ position_or_len p xs
far p xs none = ltb-false _ _ (none_told _ _ none)

-- the sets that stand and those that were taken back are all of them
pub standing_and_undone : (xs : List Made)
    → length (filter (λ (made : Made). not made.undone) xs) + length (filter (λ (made : Made). made.undone) xs) ≡ length xs
standing_and_undone [] = refl
standing_and_undone (x ∷ xs) = elim (cases_Bool x.undone) [
  | inl undone ↦ let more = standing_and_undone xs in rw undone (omega (arith, more))
  | inr stands ↦ let more = standing_and_undone xs in rw stands (omega (arith, more))
]
