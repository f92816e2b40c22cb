-- The first element that passes a test.
use Rattle.clfs_areas.proofs.Words.{◌≡◌, ℕ, ◌+◌, ◌<◌, ◌≤◌, Bool, true, false, refl, sym, ap, ap₂, ◌∙◌, arith, zero, suc, List, [], ◌∷◌, length, map, get_or}
use Rattle.clfs_areas.proofs.Words.{Some, None, ◌⊎◌, inl, inr, cond, find, filter, position, slice_set, remove, option_map, length-map, change_first}
use Rattle.std.specs.Prelude.{not, nat_lt, slice_get}
use Rattle.std.specs.List.{position_or_len, prefix_len}
use Rattle.std.proofs.lemmas.Bool.{cases_lt, lt-ltb, le-ltb}
use Rattle.std.proofs.lemmas.List.Folds.{find_at}
use Rattle.std.proofs.lemmas.List.Quantifiers.{position-Some}

-- the element at this place is the first that passes
pub record IsFirst {X : Type 0} (p : X → Bool) (xs : List X) (place : ℕ) (d : X) : Type 0 where
  pub within : place < length xs
  pub passes : p (get_or xs place d) ≡ true
  pub before : (k : ℕ) → k < place → p (get_or xs k d) ≡ false

-- the one that was found
pub found_first : {X : Type 0} (p : X → Bool) (xs : List X) (place : ℕ) (d : X) → position p xs ≡ Some place → IsFirst p xs place d
found_first p xs place d found =
    let all = position-Some p xs place d found in record { within = all.0; passes = all.1; before = all.2 }

pub first_rest : {X : Type 0} (p : X → Bool) (x : X) (xs : List X) (place : ℕ) (d : X) → IsFirst p (x ∷ xs) (suc place) d → IsFirst p xs place d
first_rest p x xs place d first =
    record { within = omega (arith, first.within); passes = first.passes; before = λ k less. first.before (suc k) (omega arith) }

-- what a change of the first makes of all
pub change_at : {A : Type 0} (p : A → Bool) (change : A → A) (xs : List A) (place : ℕ) (d : A) → IsFirst p xs place d
    → change_first p change xs ≡ slice_set xs place (change (get_or xs place d))
change_at p change [] place d first = absurd (omega (arith, first.within))
change_at p change (x ∷ xs) zero d first = rw first.passes refl
change_at {A} p change (x ∷ xs) (suc place) d first =
    rw (first.before 0 (omega arith)) (ap (λ (rest : List A). x ∷ rest) (change_at p change xs place d (first_rest p x xs place d first)))

-- what the change leaves of each stays
pub change_leaves : {A B : Type 0} (f : A → B) (p : A → Bool) (change : A → A) → ((x : A) → f (change x) ≡ f x) → (xs : List A)
    → map f (change_first p change xs) ≡ map f xs
change_leaves f p change same [] = refl
change_leaves {A} {B} f p change same (x ∷ xs) = go (p x) refl (change_leaves f p change same xs)
  where
    go : (b : Bool) → p x ≡ b → map f (change_first p change xs) ≡ map f xs → map f (change_first p change (x ∷ xs)) ≡ map f (x ∷ xs)
    go true here rest = rw here (ap (λ (y : B). y ∷ map f xs) (same x))
    go false here rest = rw here (ap (λ (ys : List B). f x ∷ ys) rest)

get_at : {X : Type 0} (xs : List X) (place : ℕ) (d : X) → place < length xs → slice_get xs place ≡ Some (get_or xs place d)
get_at [] place d there = absurd (omega (arith, there))
get_at (x ∷ xs) zero d there = refl
get_at (x ∷ xs) (suc place) d there = get_at xs place d (omega (arith, there))

get_past : {X : Type 0} (xs : List X) (place : ℕ) → length xs ≤ place → slice_get xs place ≡ None
get_past [] place past = refl
get_past (x ∷ xs) zero past = absurd (omega (arith, past))
get_past (x ∷ xs) (suc place) past = get_past xs place (omega (arith, past))

-- the element that is found is the one at the place that is found
pub find_at_place : {X : Type 0} (p : X → Bool) (xs : List X) (d : X) → find p xs ≡ option_map (λ place. get_or xs place d) (position p xs)
find_at_place {X} p xs d = go (cases_lt (position_or_len p xs) (length xs))
  where
    go : (position_or_len p xs < length xs) ⊎ (length xs ≤ position_or_len p xs) → find p xs ≡ option_map (λ place. get_or xs place d) (position p xs)
    go (inl less) = find_at p xs ∙ get_at xs (position_or_len p xs) d less
        ∙ sym (ap (λ (b : Bool). option_map (λ (place : ℕ). get_or xs place d) (cond b (Some (position_or_len p xs)) None)) (lt-ltb _ _ less))
    go (inr past) = find_at p xs ∙ get_past xs (position_or_len p xs) past
        ∙ sym (ap (λ (b : Bool). option_map (λ (place : ℕ). get_or xs place d) (cond b (Some (position_or_len p xs)) None)) (le-ltb _ _ past))

-- a place among what f gives
prefix_of_map : {X Y : Type 0} (f : X → Y) (p : Y → Bool) (xs : List X) → prefix_len p (map f xs) ≡ prefix_len (λ x. p (f x)) xs
prefix_of_map f p [] = refl
prefix_of_map f p (x ∷ xs) = ap (λ (n : ℕ). cond (p (f x)) (1 + n) 0) (prefix_of_map f p xs)

pub position_of_map : {X Y : Type 0} (f : X → Y) (p : Y → Bool) (xs : List X) → position p (map f xs) ≡ position (λ x. p (f x)) xs
position_of_map f p xs =
    ap₂ (λ (place count : ℕ). cond (nat_lt place count) (Some place) None) (prefix_of_map f (λ y. not (p y)) xs) (length-map xs f)

-- tests that answer alike find the same place
prefix_alike : {X : Type 0} (p q : X → Bool) → ((x : X) → p x ≡ q x) → (xs : List X) → prefix_len p xs ≡ prefix_len q xs
prefix_alike p q alike [] = refl
prefix_alike p q alike (x ∷ xs) = ap₂ (λ (b : Bool) (n : ℕ). cond b (1 + n) 0) (alike x) (prefix_alike p q alike xs)

pub position_alike : {X : Type 0} (p q : X → Bool) → ((x : X) → p x ≡ q x) → (xs : List X) → position p xs ≡ position q xs
position_alike p q alike xs =
    ap (λ (place : ℕ). cond (nat_lt place (length xs)) (Some place) None) (prefix_alike (λ x. not (p x)) (λ x. not (q x)) (λ x. ap not (alike x)) xs)

-- without the first, where no other passes
pub others_left : {X : Type 0} (p : X → Bool) (xs : List X) → find p xs ≡ None → filter (λ x. not (p x)) xs ≡ xs
others_left p [] none = refl
others_left {X} p (x ∷ xs) none = go (p x) refl (others_left p xs)
  where
    go : (b : Bool) → p x ≡ b → (find p xs ≡ None → filter (λ x. not (p x)) xs ≡ xs) → filter (λ x. not (p x)) (x ∷ xs) ≡ x ∷ xs
    go true here rest = let found : Some x ≡ None = rw here at none in absurd (cc)
    go false here rest = let fails : find p xs ≡ None = rw here at none in rw here (ap (λ (ys : List X). x ∷ ys) (rest fails))

all_left : {X : Type 0} (p : X → Bool) (xs : List X) (d : X) → ((k : ℕ) → k < length xs → p (get_or xs k d) ≡ false) → filter (λ x. not (p x)) xs ≡ xs
all_left p [] d fail = refl
all_left {X} p (x ∷ xs) d fail =
    rw (fail 0 (omega arith)) (ap (λ (ys : List X). x ∷ ys) (all_left p xs d (λ k less. fail (suc k) (omega (arith, less)))))

pub removed_left : {X : Type 0} (p : X → Bool) (xs : List X) (place : ℕ) (d : X) → IsFirst p xs place d
    → ((k : ℕ) → place < k → k < length xs → p (get_or xs k d) ≡ false) → filter (λ x. not (p x)) xs ≡ remove xs place
removed_left p [] place d first behind = absurd (omega (arith, first.within))
removed_left p (x ∷ xs) zero d first behind =
    rw first.passes (all_left p xs d (λ k less. behind (suc k) (omega arith) (omega (arith, less))))
removed_left {X} p (x ∷ xs) (suc place) d first behind =
    rw (first.before 0 (omega arith)) (ap (λ (ys : List X). x ∷ ys)
    (removed_left p xs place d (first_rest p x xs place d first) (λ k above less. behind (suc k) (omega (arith, above)) (omega (arith, less)))))
