-- A log whose last area is a client's only one.
use Rattle.clfs_cells_laws.proofs.Words.{◌≡◌, ℕ, Bool, true, false, refl, ap, inl, inr, List, [], ◌∷◌, ◌++◌, filter, find, not, ◌==◌, cases_Bool, eq-eqb}
use Rattle.clfs_cells_laws.proofs.Words.{Area, State, area_of, areas_of, change_area, change_first, is_area}
use Rattle.std.specs.Prelude.{Some}

-- the log with an area more
abbrev pub with_own : State → Area → State
with_own s area = record s { areas = s.areas ++ area ∷ [] }

abbrev of_client : ℕ → Area → Bool
of_client client area = area.client == client

others : (client number : ℕ) (area : Area) → of_client client area ≡ false → is_area client number area ≡ false
others client number area other = rw other refl

-- the first of a list of which none is the client's
none_first : (client : ℕ) (area : Area) (areas : List Area) → filter (of_client client) (area ∷ areas) ≡ []
    → (of_client client area ≡ false) × (filter (of_client client) areas ≡ [])
none_first client area areas none = elim (cases_Bool (of_client client area)) [
  | inl own ↦ let there : area ∷ filter (of_client client) areas ≡ [] = rw own at none in absurd (cc there)
  | inr other ↦ let rest : filter (of_client client) areas ≡ [] = rw other at none in (other, rest)
]

itself : (own : Area) → is_area own.client own.number own ≡ true
itself own = rw (eq-eqb own.client own.client refl, eq-eqb own.number own.number refl) refl

find_in : (own : Area) (areas : List Area) → filter (of_client own.client) areas ≡ [] → find (is_area own.client own.number) (areas ++ own ∷ []) ≡ Some own
find_in own [] none = rw (itself own) refl
find_in own (area ∷ areas) none =
    let first = none_first own.client area areas none in
    rw (others own.client own.number area first.0) (find_in own areas first.1)

pub find_own : (s : State) (own : Area) → areas_of s own.client ≡ [] → area_of (with_own s own) own.client own.number ≡ Some own
find_own s own none = find_in own s.areas none

change_in : (change : Area → Area) (own : Area) (areas : List Area) → filter (of_client own.client) areas ≡ []
    → change_first (is_area own.client own.number) change (areas ++ own ∷ []) ≡ areas ++ change own ∷ []
change_in change own [] none = rw (itself own) refl
change_in change own (area ∷ areas) none =
    let first = none_first own.client area areas none in
    rw (others own.client own.number area first.0) (ap (λ (l : List Area). area ∷ l) (change_in change own areas first.1))

pub change_own : (s : State) (change : Area → Area) (own : Area) → areas_of s own.client ≡ []
    → change_area change own.client own.number (with_own s own) ≡ with_own s (change own)
change_own s change own none = ap (λ (l : List Area). record s { areas = l }) (change_in change own s.areas none)

delete_in : (own : Area) (areas : List Area) → filter (of_client own.client) areas ≡ []
    → filter (λ (area : Area). not (is_area own.client own.number area)) (areas ++ own ∷ []) ≡ areas
delete_in own [] none = rw (itself own) refl
delete_in own (area ∷ areas) none =
    let first = none_first own.client area areas none in
    rw (others own.client own.number area first.0) (ap (λ (l : List Area). area ∷ l) (delete_in own areas first.1))

pub delete_own : (s : State) (own : Area) → areas_of s own.client ≡ []
    → record (with_own s own) { areas = filter (λ (area : Area). not (is_area own.client own.number area)) (with_own s own).areas } ≡ s
delete_own s own none = ap (λ (l : List Area). record s { areas = l }) (delete_in own s.areas none)
