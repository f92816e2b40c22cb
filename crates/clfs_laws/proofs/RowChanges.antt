-- How a call changes the rows of areas.
use Rattle.clfs_laws.proofs.Words.{◌≡◌, ℕ, Bool, true, false, refl, sym, ap, ◌∙◌, subst, inl, inr, List, Option, Some, None, find, ◌&&◌, ◌==◌, option_map}
use Rattle.clfs_laws.proofs.Words.{cases_Bool, eqb-true, eqb-false, ne_eqb, Area, is_area, change_first, AreaRow, row_of, changed_where}
use Rattle.clfs_laws.proofs.Finding.{KeepsName, find_changed, find_other, found_passes}

-- the row of a number among areas
abbrev pub row_among : List Area → ℕ → ℕ → Option AreaRow
row_among areas client number = option_map row_of (find (is_area client number) areas)

-- names that differ in the client or in the number
both : (a b : Bool) → (a && b) ≡ true → (a ≡ true) × (b ≡ true)
both true b is = (refl, is)
both false b is = absurd (cc)

-- an area of a name has its client and its number
pub area_named : (client number : ℕ) (areas : List Area) (area : Area) → find (is_area client number) areas ≡ Some area → (area.client ≡ client) × (area.number ≡ number)
area_named client number areas area is =
    let passes = both (area.client == client) (area.number == number) (found_passes (is_area client number) areas area is) in
    (eqb-true area.client client passes.0, eqb-true area.number number passes.1)

-- an area of one number isn't of another
pub other_number : (client number other : ℕ) → (number == other) ≡ false → (area : Area) → is_area client number area ≡ true → is_area client other area ≡ false
other_number client number other differ area is =
    let passes = both (area.client == client) (area.number == number) is in
    let same : area.number ≡ number = eqb-true area.number number passes.1 in
    let fails : (area.number == other) ≡ false = rw same differ in
    rw (passes.0, fails) refl

-- an area of one client isn't of another
pub other_client : (client number of_client of_number : ℕ) → (of_client == client) ≡ false → (area : Area) → is_area client number area ≡ true → is_area of_client of_number area ≡ false
other_client client number of_client of_number differ area is =
    let passes = both (area.client == client) (area.number == number) is in
    let same : area.client ≡ client = eqb-true area.client client passes.0 in
    let differs : of_client ≡ client → ⊥ = eqb-false of_client client differ in
    let fails : (area.client == of_client) ≡ false = ne_eqb area.client of_client (λ e. differs (sym e ∙ same)) in
    rw fails refl

-- a change of an area that keeps its name and changes its row so
pub record Changes (change : Area → Area) (on_row : AreaRow → AreaRow) : Type 0 where
  pub name : KeepsName change
  pub row : (area : Area) → row_of (change area) ≡ on_row (row_of area)

map_twice : (change : Area → Area) (on_row : AreaRow → AreaRow) → Changes change on_row → (found : Option Area)
    → option_map row_of (option_map change found) ≡ option_map on_row (option_map row_of found)
map_twice change on_row changes None = refl
map_twice change on_row changes (Some area) = ap (λ (r : AreaRow). Some r) (changes.row area)

-- the rows of the client after the change of one of its areas
pub own_row : (change : Area → Area) (on_row : AreaRow → AreaRow) → Changes change on_row → (areas : List Area) (client number other : ℕ)
    → row_among (change_first (is_area client number) change areas) client other ≡ changed_where (number == other) on_row (row_among areas client other)
own_row change on_row changes areas client number other = elim (cases_Bool (number == other)) [
  | inl same ↦
      let is : number ≡ other = eqb-true number other same in
      let F : ℕ → Type 0 = λ n. row_among (change_first (is_area client number) change areas) client n ≡ option_map on_row (row_among areas client n) in
      let here : F number = ap (λ (found : Option Area). option_map row_of found) (find_changed change changes.name client number areas)
      ∙ map_twice change on_row changes (find (is_area client number) areas) in
      rw same (subst F is here)
  | inr differ ↦ rw differ (ap (λ (found : Option Area). option_map row_of found)
      (find_other change changes.name client number client other areas (other_number client number other differ)))
]

-- the rows of another client stay
pub others_row : (change : Area → Area) → KeepsName change → (areas : List Area) (client number of_client of_number : ℕ) → (of_client == client) ≡ false
    → row_among (change_first (is_area client number) change areas) of_client of_number ≡ row_among areas of_client of_number
others_row change keeps areas client number of_client of_number differ =
    ap (λ (found : Option Area). option_map row_of found)
    (find_other change keeps client number of_client of_number areas (other_client client number of_client of_number differ))
