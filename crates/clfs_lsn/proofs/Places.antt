-- Places in sorted rows, and what is left where the first ones go.
use Rattle.std.proofs.Common.{◌≡◌, ℕ, ◌-◌, ◌*◌, ◌<◌, ◌≤◌, true, false, leb, ltb, refl, sym, ap, ◌∙◌, inl, inr, arith, List, [], ◌∷◌, ◌++◌, length, zero, suc, take, drop}
use Rattle.std.specs.Prelude.{nat_le}
use Rattle.std.specs.List.Sorted.{IsPartitionPoint, IsNonDecreasingBy}
use Rattle.std.proofs.lemmas.Bool.{cases_Bool, cases_lt, le-leb, lt-leb, ltb-true, ltb-false}
use Rattle.std.proofs.lemmas.List.{drop_all, length-drop, take_at}
use Rattle.clfs_lsn.specs.Rising.{AreRising, IsPlaceOf, rows_from}

-- sorted rows don't fall
pub never_falls : {X : Type 0} (lsn_of : X → ℕ) (rows : List X) → AreRising lsn_of rows → IsNonDecreasingBy lsn_of rows
never_falls lsn_of rows rising = λ i j d up inside. elim (cases_lt i j) [
  | inl before ↦ let over = rising i j d before inside in omega (arith, over)
  | inr back ↦ let same : i ≡ j = omega arith in rw same (omega arith)
]

-- Where a test for lower LSNs changes is a place.
pub place_from_lower : {X : Type 0} (lsn_of : X → ℕ) (rows : List X) (lsn place : ℕ) → place ≤ length rows
    → IsPartitionPoint (λ (row : X). ltb (lsn_of row) lsn ≡ true) (λ (row : X). ltb (lsn_of row) lsn ≡ false) rows place → IsPlaceOf lsn_of rows lsn place
place_from_lower lsn_of rows lsn place within point = record {
  within = within;
  below = λ k d before. ltb-true _ _ (point.0 k d (omega arith) before);
  above = λ k d behind inside. ltb-false _ _ (point.1 k d behind inside);
}

place_tail : {X : Type 0} (lsn_of : X → ℕ) (row : X) (rows : List X) (lsn place : ℕ) → IsPlaceOf lsn_of (row ∷ rows) lsn (suc place)
    → IsPlaceOf lsn_of rows lsn place
place_tail lsn_of row rows lsn place is = record {
  within = omega (arith, is.within);
  below = λ k d before. is.below (suc k) d (omega arith);
  above = λ k d behind inside. is.above (suc k) d (omega arith) (omega arith);
}

place_of_tail : {X : Type 0} (lsn_of : X → ℕ) (row : X) (rows : List X) (lsn : ℕ) → IsPlaceOf lsn_of (row ∷ rows) lsn 0 → IsPlaceOf lsn_of rows lsn 0
place_of_tail lsn_of row rows lsn is = record {
  within = omega arith;
  below = λ k d before. absurd (omega arith);
  above = λ k d behind inside. is.above (suc k) d (omega arith) (omega arith);
}

-- the rows from an LSN on are those from its place on
pub from_place : {X : Type 0} (lsn_of : X → ℕ) (rows : List X) (lsn place : ℕ) → IsPlaceOf lsn_of rows lsn place → rows_from lsn_of lsn rows ≡ drop place rows
from_place lsn_of [] lsn place is = sym (drop_all place [] (omega arith))
from_place lsn_of (row ∷ rows) lsn zero is =
    let above : leb lsn (lsn_of row) ≡ true = le-leb _ _ (is.above 0 row (omega arith) (omega arith)) in
    rw above (ap (λ rest. row ∷ rest) (from_place lsn_of rows lsn 0 (place_of_tail lsn_of row rows lsn is)))
from_place lsn_of (row ∷ rows) lsn (suc place) is =
    let below : leb lsn (lsn_of row) ≡ false = lt-leb _ _ (is.below 0 row (omega arith)) in
    rw below (from_place lsn_of rows lsn place (place_tail lsn_of row rows lsn place is))

-- what passes once passes again
filter_again : {X : Type 0} (lsn_of : X → ℕ) (lsn : ℕ) (rows : List X) → rows_from lsn_of lsn (rows_from lsn_of lsn rows) ≡ rows_from lsn_of lsn rows
filter_again lsn_of lsn [] = refl
filter_again lsn_of lsn (row ∷ rows) = elim (cases_Bool (nat_le lsn (lsn_of row))) [
  | inl passes ↦ rw passes (rw passes (ap (λ rest. row ∷ rest) (filter_again lsn_of lsn rows)))
  | inr fails ↦ rw fails (filter_again lsn_of lsn rows)
]

-- Rows that are turned so that the first ones are last, and cut off there, are those from the place on.
pub turned_and_cut : {X : Type 0} (lsn_of : X → ℕ) (rows turned cut : List X) (len lsn place : ℕ) → IsPlaceOf lsn_of rows lsn place → len ≡ length rows
    → turned ≡ drop place rows ++ take place rows → cut ≡ take (len - place) turned → cut ≡ drop place rows
turned_and_cut lsn_of rows turned cut len lsn place at long turn is =
    is ∙ ap (take (len - place)) turn
    ∙ take_at (drop place rows) (take place rows) (len - place) (length-drop place rows ∙ ap (λ n. n - place) (sym long))

pub same_left : {X : Type 0} (lsn_of : X → ℕ) (rows new : List X) (lsn place : ℕ) → IsPlaceOf lsn_of rows lsn place → new ≡ drop place rows
    → rows_from lsn_of lsn new ≡ rows_from lsn_of lsn rows
same_left lsn_of rows new lsn place at is =
    let kept = is ∙ sym (from_place lsn_of rows lsn place at) in
    ap (rows_from lsn_of lsn) kept ∙ filter_again lsn_of lsn rows

pub few_left : {X : Type 0} (lsn_of : X → ℕ) (rows new : List X) (lsn place : ℕ) → IsPlaceOf lsn_of rows lsn place → new ≡ drop place rows
    → length new ≤ 2 * length (rows_from lsn_of lsn new)
few_left lsn_of rows new lsn place at is =
    let kept = same_left lsn_of rows new lsn place at is ∙ from_place lsn_of rows lsn place at ∙ sym is in
    let long = ap length kept in
    omega (arith, long)

pub few_stay : {X : Type 0} (lsn_of : X → ℕ) (rows : List X) (lsn place len : ℕ) → IsPlaceOf lsn_of rows lsn place → len ≡ length rows → place < len - place
    → length rows ≤ 2 * length (rows_from lsn_of lsn rows)
few_stay lsn_of rows lsn place len at long less =
    let kept = ap length (from_place lsn_of rows lsn place at) ∙ length-drop place rows in
    omega (arith, kept, long, less)
