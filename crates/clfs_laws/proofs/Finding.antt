-- Finding an area among areas of which one has changed, is new or is gone.
use Rattle.clfs_laws.proofs.Words.{◌≡◌, ℕ, Bool, true, false, refl, sym, ap, ◌∙◌, inl, inr, List, [], ◌∷◌, ◌++◌, Some, None, find, filter, not, if◌then◌else◌}
use Rattle.clfs_laws.proofs.Words.{option_map, cases_Bool, Area, is_area, change_first}

-- a change that leaves an area's client and number
pub record KeepsName (change : Area → Area) : Type 0 where
  pub client : (area : Area) → (change area).client ≡ area.client
  pub number : (area : Area) → (change area).number ≡ area.number

-- a changed area passes the same tests
named : (change : Area → Area) → KeepsName change → (client number : ℕ) (area : Area) → is_area client number (change area) ≡ is_area client number area
named change keeps client number area = rw (keeps.client area, keeps.number area) refl

-- the changed area is found changed
pub find_changed : (change : Area → Area) → KeepsName change → (client number : ℕ) (areas : List Area)
    → find (is_area client number) (change_first (is_area client number) change areas) ≡ option_map change (find (is_area client number) areas)
find_changed change keeps client number [] = refl
find_changed change keeps client number (area ∷ areas) = elim (cases_Bool (is_area client number area)) [
  | inl here ↦ rw (here, named change keeps client number area ∙ here) refl
  | inr there ↦ rw (there) (rw there (find_changed change keeps client number areas))
]

-- two names differ where an area has one of them and not the other
pub find_other : (change : Area → Area) → KeepsName change → (client number of_client of_number : ℕ) (areas : List Area)
    → ((area : Area) → is_area client number area ≡ true → is_area of_client of_number area ≡ false)
    → find (is_area of_client of_number) (change_first (is_area client number) change areas) ≡ find (is_area of_client of_number) areas
find_other change keeps client number of_client of_number [] differ = refl
find_other change keeps client number of_client of_number (area ∷ areas) differ = elim (cases_Bool (is_area client number area)) [
  | inl here ↦ let other = differ area here in rw (here, named change keeps of_client of_number area ∙ other, other) refl
  | inr there ↦ rw there (elim (cases_Bool (is_area of_client of_number area)) [
    | inl found ↦ rw found refl
    | inr not_found ↦ rw not_found (find_other change keeps client number of_client of_number areas differ)
  ])
]

-- an area after the others is found where none of them is
pub find_behind : (p : Area → Bool) (areas : List Area) (area : Area) → find p areas ≡ None → find p (areas ++ area ∷ []) ≡ (if p area then Some area else None)
find_behind p [] area none = refl
find_behind p (first ∷ areas) area none = elim (cases_Bool (p first)) [
  | inl here ↦ absurd (let found = rw here at none in cc)
  | inr there ↦ rw there (find_behind p areas area (rw there at none))
]

-- an area after the others that doesn't pass changes nothing
pub find_not_behind : (p : Area → Bool) (areas : List Area) (area : Area) → p area ≡ false → find p (areas ++ area ∷ []) ≡ find p areas
find_not_behind p [] area fails = rw fails refl
find_not_behind p (first ∷ areas) area fails = elim (cases_Bool (p first)) [
  | inl here ↦ rw here refl
  | inr there ↦ rw there (find_not_behind p areas area fails)
]

-- without the areas that pass none is found
pub find_gone : (p : Area → Bool) (areas : List Area) → find p (filter (λ area. not (p area)) areas) ≡ None
find_gone p [] = refl
find_gone p (area ∷ areas) = elim (cases_Bool (p area)) [
  | inl here ↦ rw here (find_gone p areas)
  | inr there ↦ rw (there) (rw there (find_gone p areas))
]

-- areas that differ from those are found as before
pub find_not_gone : (p q : Area → Bool) (areas : List Area) → ((area : Area) → p area ≡ true → q area ≡ false)
    → find q (filter (λ area. not (p area)) areas) ≡ find q areas
find_not_gone p q [] differ = refl
find_not_gone p q (area ∷ areas) differ = elim (cases_Bool (p area)) [
  | inl here ↦ rw (here, differ area here) (find_not_gone p q areas differ)
  | inr there ↦ rw there (elim (cases_Bool (q area)) [
    | inl found ↦ rw found refl
    | inr not_found ↦ rw not_found (find_not_gone p q areas differ)
  ])
]

-- an area that is found passes
pub found_passes : (p : Area → Bool) (areas : List Area) (area : Area) → find p areas ≡ Some area → p area ≡ true
found_passes p [] area is = absurd (cc)
found_passes p (first ∷ areas) area is = elim (cases_Bool (p first)) [
  | inl here ↦ let found = rw here at is in let same : first ≡ area = cc in ap p (sym same) ∙ here
  | inr there ↦ found_passes p areas area (rw there at is)
]
