-- An area is named by its client and its number.
use Rattle.clfs_areas.proofs.Words.{◌≡◌, ℕ, ◌<◌, Bool, true, false, ◌||◌, refl, ap, ap₂, ◌∙◌, subst, arith, List, [], ◌∷◌, length, map, get_or, inl, inr}
use Rattle.clfs_areas.proofs.Words.{AllPairs, position, list_any, nat_tests, length-map, get_or-map, Area, is_area, AreDifferentAreas, no_area, area_at}
use Rattle.clfs_areas.proofs.Words.{AreDifferentRows, is_name, is_row, is_used, name_in, row_of, AreaName, AreaRow}
use Rattle.clfs_areas.proofs.First.{IsFirst, position_alike, position_of_map}

-- rows stand where their areas stand
pub place_seen : (areas : List Area) (rows : List AreaRow) (client number : ℕ) → rows ≡ map row_of areas
    → position (is_row client number) rows ≡ position (is_area client number) areas
place_seen areas rows client number are =
    ap (λ (all : List AreaRow). position (is_row client number) all) are ∙ position_of_map row_of (is_row client number) areas

-- a row has the name that is in it
same_name : (client number : ℕ) (row : AreaRow) → is_name client number (name_in row) ≡ is_row client number row
same_name client number row = grind (arith, nat_tests)

-- names stand where their areas stand
pub place_named : (areas : List Area) (rows : List AreaRow) (names : List AreaName) (client number : ℕ) → names ≡ map name_in rows → rows ≡ map row_of areas
    → position (is_name client number) names ≡ position (is_area client number) areas
place_named areas rows names client number named are =
    ap (λ (all : List AreaName). position (is_name client number) all) named
    ∙ position_of_map name_in (is_name client number) rows
    ∙ position_alike (λ row. is_name client number (name_in row)) (is_row client number) (same_name client number) rows
    ∙ place_seen areas rows client number are

-- a name is there where a row has it
pub used_named : (client : ℕ) (rows : List AreaRow) (number : ℕ) → list_any (is_name client number) (map name_in rows) ≡ is_used client rows number
used_named client [] number = refl
used_named client (row ∷ rows) number = ap₂ (λ (a b : Bool). a || b) (same_name client number row) (used_named client rows number)

-- areas are different where their rows are
pub different_areas : (areas : List Area) (rows : List AreaRow) → rows ≡ map row_of areas → AllPairs AreDifferentRows rows → AllPairs AreDifferentAreas areas
different_areas areas rows are different = λ i j d before within.
    let above : i < length areas = omega (arith, before, within) in
    let inside : j < length rows = omega (arith, within, length-map areas row_of, ap length are) in
    let at_first = ap (λ (all : List AreaRow). get_or all i (row_of d)) are ∙ get_or-map row_of areas i d (row_of d) above in
    let at_second = ap (λ (all : List AreaRow). get_or all j (row_of d)) are ∙ get_or-map row_of areas j d (row_of d) within in
    let half = subst (λ (row : AreaRow). AreDifferentRows row (get_or rows j (row_of d))) at_first (different i j (row_of d) before inside) in
    subst (λ (row : AreaRow). AreDifferentRows (row_of (get_or areas i d)) row) at_second half

-- an area has its own name
own_name : (area : Area) → is_area area.client area.number area ≡ true
own_name area = grind (arith, nat_tests)

-- and no other's
pub other_name : (a b : Area) → AreDifferentAreas a b → is_area b.client b.number a ≡ false
other_name a b (inl differ) = grind (arith, nat_tests, differ)
other_name a b (inr differ) = grind (arith, nat_tests, differ)

pub name_of_other : (a b : Area) → AreDifferentAreas a b → is_area a.client a.number b ≡ false
name_of_other a b (inl differ) = grind (arith, nat_tests, differ)
name_of_other a b (inr differ) = grind (arith, nat_tests, differ)

-- an area of a name has this client and number
pub named_client : (client number : ℕ) (area : Area) → is_area client number area ≡ true → area.client ≡ client
named_client client number area named = grind (arith, nat_tests, named)

pub named_number : (client number : ℕ) (area : Area) → is_area client number area ≡ true → area.number ≡ number
named_number client number area named = grind (arith, nat_tests, named)

-- each is the first of its name
pub named_first : (areas : List Area) (place : ℕ) → AllPairs AreDifferentAreas areas → place < length areas
    → IsFirst (is_area (area_at place areas).client (area_at place areas).number) areas place no_area
named_first areas place different there = record {
  within = there;
  passes = own_name (area_at place areas);
  before = λ k less. other_name (area_at k areas) (area_at place areas) (different k place no_area less there);
}
