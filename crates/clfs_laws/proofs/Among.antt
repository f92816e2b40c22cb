-- What a search finds is among what is searched, and passes the test.
use Rattle.clfs_laws.proofs.Words.{◌≡◌, Bool, true, refl, sym, ap, ◌∙◌, subst, inl, inr, ◌⊎◌, List, [], ◌∷◌, Some, find, filter, All, Contains}
use Rattle.clfs_laws.proofs.Words.{AllByRecursion, cases_Bool, recursion_from_All, All-from_recursion, Contains-append_left}
use Rattle.std.proofs.lemmas.List.Elements.{All-contains, Contains-append_right, Contains-push}

-- an element of a list
abbrev pub IsAmong : {X : Type 0} → X → List X → Type 0
IsAmong x [] = ⊥
IsAmong x (y ∷ ys) = (y ≡ x) ⊎ IsAmong x ys

-- what is found, and how
pub record IsFound {X : Type 0} (p : X → Bool) (xs : List X) (x : X) : Type 0 where
  pub passes : p x ≡ true
  pub among : IsAmong x xs

pub found : {X : Type 0} (p : X → Bool) (xs : List X) (x : X) → find p xs ≡ Some x → IsFound p xs x
found p [] x is = absurd (cc)
found p (y ∷ ys) x is = elim (cases_Bool (p y)) [
  | inl here ↦
      let at : Some y ≡ Some x = rw here at is in
      let same : y ≡ x = cc in
      record { passes = ap p (sym same) ∙ here; among = inl same }
  | inr there ↦ let rest = found p ys x (rw there at is) in record { passes = rest.passes; among = inr rest.among }
]

-- what is among those that pass is among all
pub among_all : {X : Type 0} (p : X → Bool) (xs : List X) (x : X) → IsAmong x (filter p xs) → IsAmong x xs
among_all p [] x is = is
among_all p (y ∷ ys) x is = elim (cases_Bool (p y)) [
  | inl here ↦ elim (let at : (y ≡ x) ⊎ IsAmong x (filter p ys) = rw here at is in at) [
    | inl same ↦ inl same
    | inr rest ↦ inr (among_all p ys x rest)
  ]
  | inr there ↦ inr (among_all p ys x (rw there at is))
]

-- what is so of all is so of each
pub among_recursion : {X : Type 0} (P : X → Type 0) (xs : List X) (x : X) → AllByRecursion P xs → IsAmong x xs → P x
among_recursion P [] x all is = absurd is
among_recursion P (y ∷ ys) x all (inl same) = subst P same all.0
among_recursion P (y ∷ ys) x all (inr rest) = among_recursion P ys x all.1 rest

pub at_each : {X : Type 0} (P : X → Type 0) (xs : List X) (x : X) → All P xs → IsAmong x xs → P x
at_each P xs x all is = among_recursion P xs x (recursion_from_All P xs all) is

-- what is among all and passes is among those that pass
among_passing : {X : Type 0} (p : X → Bool) (xs : List X) (x : X) → p x ≡ true → IsAmong x xs → IsAmong x (filter p xs)
among_passing p [] x passes is = is
among_passing p (y ∷ ys) x passes (inl same) = rw (ap p same ∙ passes) (inl same)
among_passing p (y ∷ ys) x passes (inr rest) = elim (cases_Bool (p y)) [
  | inl here ↦ rw here (inr (among_passing p ys x passes rest))
  | inr there ↦ rw there (among_passing p ys x passes rest)
]

-- the same by the places in the list
pub each_among : {X : Type 0} (xs : List X) → AllByRecursion (λ x. IsAmong x xs) xs
each_among [] = tt
each_among (x ∷ xs) = (inl refl, further x xs xs (each_among xs))
  where
    further : {X : Type 0} (y : X) (ys zs : List X) → AllByRecursion (λ z. IsAmong z ys) zs → AllByRecursion (λ z. IsAmong z (y ∷ ys)) zs
    further y ys [] all = tt
    further y ys (z ∷ zs) all = (inr all.0, further y ys zs all.1)

among_contained : {X : Type 0} (xs : List X) (x : X) → Contains xs x → IsAmong x xs
among_contained xs x is = All-contains (λ y. IsAmong y xs) xs x (All-from_recursion (λ y. IsAmong y xs) xs (each_among xs)) is

contained : {X : Type 0} (xs : List X) (x : X) → IsAmong x xs → Contains xs x
contained [] x is = absurd is
contained (y ∷ ys) x (inl same) = subst (Contains (y ∷ ys)) same (Contains-append_left (y ∷ []) ys y (Contains-push [] y))
contained (y ∷ ys) x (inr rest) = Contains-append_right (y ∷ []) ys x (contained ys x rest)

pub contains_passing : {X : Type 0} (p : X → Bool) (xs : List X) (x : X) → p x ≡ true → Contains xs x → Contains (filter p xs) x
contains_passing p xs x passes is = contained (filter p xs) x (among_passing p xs x passes (among_contained xs x is))
