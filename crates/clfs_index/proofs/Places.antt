-- What the definitions over heads say of sorted heads, by places.
use Rattle.std.proofs.Common.{◌≡◌, ℕ, ◌+◌, ◌-◌, ◌<◌, ◌≤◌, max, true, false, eqb, leb, ltb, refl, sym, ap, ◌∙◌, inl, inr, arith, List, [], ◌∷◌, ◌++◌, length, zero, suc, Option, Some, None, get_or, take, drop, slice_get}
use Rattle.std.specs.Prelude.{nat_le, ◌==◌, if◌then◌else◌}
use Rattle.std.specs.List.{last_or}
use Rattle.std.specs.List.Sorted.{IsPartitionPoint, IsNonDecreasingBy}
use Rattle.std.proofs.lemmas.Bool.{cases_Bool, cases_lt, eqb-false, ne_eqb, le-leb, lt-leb, leb-true, leb-false, lt-ltb, le-ltb}
use Rattle.std.proofs.lemmas.List.{drop_all}
use Rattle.std.proofs.lemmas.Option.{get_or_from_slice_get}
use Rattle.clfs_lsn.specs.declared.entry.Head.{Head}
use Rattle.clfs_lsn.specs.Heads.{heads_from, head_at, head_above, lsn_of_head}
use Rattle.clfs_lsn.specs.Rising.{AreRising, IsPlaceOf}

rising_tail : (head : Head) (heads : List Head) → AreRising lsn_of_head (head ∷ heads) → AreRising lsn_of_head heads
rising_tail head heads rising = λ i j d before inside. rising (suc i) (suc j) d (omega arith) (omega arith)

place_tail : (head : Head) (heads : List Head) (lsn place : ℕ) → IsPlaceOf lsn_of_head (head ∷ heads) lsn (suc place) → IsPlaceOf lsn_of_head heads lsn place
place_tail head heads lsn place is = record {
  within = omega (arith, is.within);
  below = λ k d before. is.below (suc k) d (omega arith);
  above = λ k d behind inside. is.above (suc k) d (omega arith) (omega arith);
}

place_of_tail : (head : Head) (heads : List Head) (lsn : ℕ) → IsPlaceOf lsn_of_head (head ∷ heads) lsn 0 → IsPlaceOf lsn_of_head heads lsn 0
place_of_tail head heads lsn is = record {
  within = omega arith;
  below = λ k d before. absurd (omega arith);
  above = λ k d behind inside. is.above (suc k) d (omega arith) (omega arith);
}

-- the heads from an LSN on are those from its place on
pub from_place : (heads : List Head) (lsn place : ℕ) → IsPlaceOf lsn_of_head heads lsn place → heads_from lsn heads ≡ drop place heads
from_place [] lsn place is = sym (drop_all place [] (omega arith))
from_place (head ∷ heads) lsn zero is =
    let above : leb lsn head.lsn ≡ true = le-leb _ _ (is.above 0 head (omega arith) (omega arith)) in
    rw above (ap (λ (rest : List Head). head ∷ rest) (from_place heads lsn 0 (place_of_tail head heads lsn is)))
from_place (head ∷ heads) lsn (suc place) is =
    let below : leb lsn head.lsn ≡ false = lt-leb _ _ (is.below 0 head (omega arith)) in
    rw below (from_place heads lsn place (place_tail head heads lsn place is))

-- the first of the heads from a place on is the one there
pub first_from : (heads : List Head) (place : ℕ) → slice_get (drop place heads) 0 ≡ slice_get heads place
first_from [] zero = refl
first_from [] (suc place) = refl
first_from (head ∷ heads) zero = refl
first_from (head ∷ heads) (suc place) = first_from heads place

-- where all heads lie above an LSN, none is at it
none_above : (heads : List Head) (lsn : ℕ) → ((k : ℕ) (d : Head) → k < length heads → lsn < (get_or heads k d).lsn) → head_at lsn heads ≡ None
none_above [] lsn above = refl
none_above (head ∷ heads) lsn above =
    let other : eqb head.lsn lsn ≡ false = ne_eqb _ _ (λ same. let over = above 0 head (omega arith) in omega (arith, over, same)) in
    rw other (none_above heads lsn (λ k d inside. above (suc k) d (omega arith)))

-- the head, where it has the LSN
abbrev pub if_at : ℕ → Option Head → Option Head
if_at lsn None = None
if_at lsn (Some head) = if head.lsn == lsn then Some head else None

-- the head at an LSN stands at its place
pub at_place : (heads : List Head) (lsn place : ℕ) → AreRising lsn_of_head heads → IsPlaceOf lsn_of_head heads lsn place → head_at lsn heads ≡ if_at lsn (slice_get heads place)
at_place [] lsn place rising is = refl
at_place (head ∷ heads) lsn zero rising is = elim (cases_Bool (head.lsn == lsn)) [
  | inl same ↦ rw same refl
  | inr other ↦ rw other (none_above heads lsn (λ k d inside.
      let up = is.above 0 head (omega arith) (omega arith) in
      let over = rising 0 (suc k) d (omega arith) (omega arith) in
      let differ : lsn < head.lsn = above_other head.lsn lsn up (eqb-false _ _ other) in
      omega (arith, over, differ)))
]
  where
    above_other : (a b : ℕ) → b ≤ a → (a ≡ b → ⊥) → b < a
    above_other a b up differ = omega arith
at_place (head ∷ heads) lsn (suc place) rising is =
    let below = is.below 0 head (omega arith) in
    let other : eqb head.lsn lsn ≡ false = ne_eqb _ _ (λ same. omega (arith, below, same)) in
    rw other (at_place heads lsn place (rising_tail head heads rising) (place_tail head heads lsn place is))

-- no live head lies below the base
pub at_below_base : (base lsn : ℕ) (heads : List Head) → lsn < base → head_at lsn (heads_from base heads) ≡ None
at_below_base base lsn [] below = refl
at_below_base base lsn (head ∷ heads) below = elim (cases_Bool (nat_le base head.lsn)) [
  | inl passes ↦
      let over = leb-true _ _ passes in
      let other : eqb head.lsn lsn ≡ false = ne_eqb _ _ (λ same. omega (arith, over, same, below)) in
      rw passes (rw other (at_below_base base lsn heads below))
  | inr fails ↦ rw fails (at_below_base base lsn heads below)
]

-- a head at or above the base is live
pub at_from_base : (base lsn : ℕ) (heads : List Head) → base ≤ lsn → head_at lsn (heads_from base heads) ≡ head_at lsn heads
at_from_base base lsn [] up = refl
at_from_base base lsn (head ∷ heads) up = elim (cases_Bool (nat_le base head.lsn)) [
  | inl passes ↦ rw passes (elim (cases_Bool (head.lsn == lsn)) [
    | inl same ↦ rw same refl
    | inr other ↦ rw other (at_from_base base lsn heads up)
  ])
  | inr fails ↦
      let below = leb-false _ _ fails in
      let other : eqb head.lsn lsn ≡ false = ne_eqb _ _ (λ same. omega (arith, below, same, up)) in
      rw (fails, other) (at_from_base base lsn heads up)
]

-- the first live head above an LSN stands at the place of the base or at the one after the LSN
pub above_place : (base lsn place : ℕ) (heads : List Head) → IsPlaceOf lsn_of_head heads (max (lsn + 1) base) place
    → head_above lsn (heads_from base heads) ≡ slice_get heads place
above_place base lsn place [] is = refl
above_place base lsn zero (head ∷ heads) is =
    let over = is.above 0 head (omega arith) (omega arith) in
    let live : leb base head.lsn ≡ true = le-leb _ _ (omega (arith, over)) in
    let above : ltb lsn head.lsn ≡ true = lt-ltb _ _ (omega (arith, over)) in
    rw live (rw above refl)
above_place base lsn (suc place) (head ∷ heads) is =
    let below = is.below 0 head (omega arith) in
    let rest = above_place base lsn place heads (place_tail head heads (max (lsn + 1) base) place is) in
    elim (cases_Bool (nat_le base head.lsn)) [
      | inl passes ↦
          let over = leb-true _ _ passes in
          let not_above : ltb lsn head.lsn ≡ false = le-ltb _ _ (omega (arith, below, over)) in
          rw passes (rw not_above rest)
      | inr fails ↦ rw fails rest
    ]

pub above_base : (base lsn place : ℕ) (heads : List Head) → lsn < base → IsPlaceOf lsn_of_head heads base place
    → head_above lsn (heads_from base heads) ≡ slice_get heads place
above_base base lsn place heads below is =
    let least : max (lsn + 1) base ≡ base = omega arith in
    above_place base lsn place heads (rw least is)

pub above_lsn : (base lsn place : ℕ) (heads : List Head) → base ≤ lsn → IsPlaceOf lsn_of_head heads (lsn + 1) place
    → head_above lsn (heads_from base heads) ≡ slice_get heads place
above_lsn base lsn place heads up is =
    let least : max (lsn + 1) base ≡ lsn + 1 = omega arith in
    above_place base lsn place heads (rw least is)

-- the last of some heads that pass, where the last one does
last_behind : (base : ℕ) (found : Option Head) (heads : List Head) (last : Head) → leb base last.lsn ≡ true
    → last_or found (heads_from base (heads ++ last ∷ [])) ≡ Some last
last_behind base found [] last passes = rw passes refl
last_behind base found (head ∷ heads) last passes = elim (cases_Bool (nat_le base head.lsn)) [
  | inl too ↦ rw too (last_behind base (Some head) heads last passes)
  | inr fails ↦ rw fails (last_behind base found heads last passes)
]

none_live : (base : ℕ) (heads : List Head) → ((k : ℕ) (d : Head) → k < length heads → (get_or heads k d).lsn < base) → heads_from base heads ≡ []
none_live base [] below = refl
none_live base (head ∷ heads) below =
    let dead : leb base head.lsn ≡ false = lt-leb _ _ (below 0 head (omega arith)) in
    rw dead (none_live base heads (λ k d inside. below (suc k) d (omega arith)))

-- the last one is after the others
ends_in : (heads : List Head) (last : Head) → slice_get heads (length heads - 1) ≡ Some last → heads ≡ take (length heads - 1) heads ++ last ∷ []
ends_in [] last is = absurd (cc)
ends_in (head ∷ []) last is = let same : head ≡ last = cc in ap (λ (h : Head). h ∷ []) same
ends_in (head ∷ (other ∷ heads)) last is =
    let whole : suc (suc (length heads)) - 1 ≡ suc (length heads) = omega arith in
    let rest : suc (length heads) - 1 ≡ length heads = omega arith in
    let here : slice_get (other ∷ heads) (suc (length heads) - 1) ≡ Some last = rw rest (rw whole at is) in
    rw whole (ap (λ (behind : List Head). head ∷ behind) (rw rest at (ends_in (other ∷ heads) last here)))

-- The last live head is the last one, where that is live.
pub last_live : (base : ℕ) (heads : List Head) (last : Head) → slice_get heads (length heads - 1) ≡ Some last → base ≤ last.lsn
    → last_or None (heads_from base heads) ≡ Some last
last_live base heads last is up =
    ap (λ (all : List Head). last_or None (heads_from base all)) (ends_in heads last is)
    ∙ last_behind base None (take (length heads - 1) heads) last (le-leb _ _ up)

pub none_live_at_end : (base : ℕ) (heads : List Head) (last : Head) → AreRising lsn_of_head heads → slice_get heads (length heads - 1) ≡ Some last
    → last.lsn < base → last_or None (heads_from base heads) ≡ None
none_live_at_end base heads last rising is dead =
    let at_end : (d : Head) → get_or heads (length heads - 1) d ≡ last = λ d. get_or_from_slice_get heads (length heads - 1) last d is in
    let below : (k : ℕ) (d : Head) → k < length heads → (get_or heads k d).lsn < base = λ k d inside.
    elim (cases_lt k (length heads - 1)) [
      | inl before ↦
          let up = rising k (length heads - 1) d before (omega arith) in
          let same = ap (λ (head : Head). head.lsn) (at_end d) in
          omega (arith, up, same, dead)
      | inr end ↦
          let here : k ≡ length heads - 1 = omega arith in
          let same = ap (λ (head : Head). head.lsn) (at_end d) in
          rw here (omega (arith, same, dead))
    ] in
    ap (last_or None) (none_live base heads below)

-- where a test for LSNs that aren't higher changes is the place of the first that is
pub place_from_up_to : (heads : List Head) (lsn place : ℕ) → place ≤ length heads
    → IsPartitionPoint (λ (head : Head). leb head.lsn lsn ≡ true) (λ (head : Head). leb head.lsn lsn ≡ false) heads place → IsPlaceOf lsn_of_head heads (lsn + 1) place
place_from_up_to heads lsn place within point = record {
  within = within;
  below = λ k d before. let up = leb-true _ _ (point.0 k d (omega arith) before) in omega (arith, up);
  above = λ k d behind inside. let over = leb-false _ _ (point.1 k d behind inside) in omega (arith, over);
}

-- sorted heads don't fall
pub never_falls : (heads : List Head) → AreRising lsn_of_head heads → IsNonDecreasingBy (λ (head : Head). head.lsn) heads
never_falls heads rising = λ i j d up inside. elim (cases_lt i j) [
  | inl before ↦ let over = rising i j d before inside in omega (arith, over)
  | inr back ↦ let same : i ≡ j = omega arith in rw same (omega arith)
]

-- The place at which the head doesn't lie below an LSN, and the one before it does, is the first from it on.
pub between_neighbours : (heads : List Head) (lsn near : ℕ) → AreRising lsn_of_head heads → near ≤ length heads
    → ((d : Head) → near < length heads → lsn ≤ (get_or heads near d).lsn)
    → ((d : Head) → 0 < near → (get_or heads (near - 1) d).lsn < lsn) → IsPlaceOf lsn_of_head heads lsn near
between_neighbours heads lsn near rising within above below = record {
  within = within;
  below = λ k d before. elim (cases_lt k (near - 1)) [
    | inl further ↦
        let over = rising k (near - 1) d further (omega arith) in
        let up = below d (omega arith) in
        omega (arith, over, up)
    | inr next ↦
        let here : k ≡ near - 1 = omega arith in
        let up = below d (omega arith) in
        rw here (omega (arith, up))
  ];
  above = λ k d behind inside. elim (cases_lt near k) [
    | inl further ↦
        let over = rising near k d further inside in
        let here = above d (omega arith) in
        omega (arith, over, here)
    | inr next ↦
        let here : k ≡ near = omega arith in
        let over = above d (omega arith) in
        rw here (omega (arith, over))
  ];
}
