-- What the row of a stream answers, from what its fields say.
use Rattle.std.proofs.Common.{◌≡◌, ℕ, ◌+◌, ◌-◌, ◌<◌, ◌≤◌, Bool, true, false, eqb, ltb, inl, inr, refl, sym, ap, ◌∙◌, arith, List, length, Option, Some, None, slice_get}
use Rattle.std.specs.List.{last_or}
use Rattle.std.specs.Ordering.{is_lt, nat_cmp}
use Rattle.std.proofs.lemmas.Bool.{cases_Bool, ltb-true, ltb-false}
use Rattle.clfs_lsn.specs.declared.entry.Head.{Head}
use Rattle.clfs_lsn.specs.Heads.{heads_from, head_at, head_above, lsn_of_head}
use Rattle.clfs_index.specs.Row.{Row}
use Rattle.clfs_lsn.specs.Rising.{AreRising, IsPlaceOf}
use Rattle.clfs_index.proofs.Places.{from_place, first_from, if_at, at_place, at_from_base, above_base, above_lsn, last_live, none_live_at_end}

-- what a comparison of two LSNs answers
compared : (a b : ℕ) → is_lt (nat_cmp a b) ≡ ltb a b
compared a b = elim (cases_Bool (ltb a b)) [
  | inl less ↦ rw less refl
  | inr not_less ↦ rw not_less (elim (cases_Bool (eqb a b)) [
    | inl same ↦ rw same refl
    | inr other ↦ rw other refl
  ])
]

pub is_less : (a b : ℕ) (result : Bool) → result ≡ is_lt (nat_cmp a b) → result ≡ true → a < b
is_less a b result is answered = ltb-true _ _ (sym (compared a b) ∙ sym is ∙ answered)

pub is_not_less : (a b : ℕ) (result : Bool) → result ≡ is_lt (nat_cmp a b) → result ≡ false → b ≤ a
is_not_less a b result is answered = ltb-false _ _ (sym (compared a b) ∙ sym is ∙ answered)

-- a row of these fields, and two slices of its heads
pub record IsRow (row : Row) (base room : ℕ) (heads searched taken : List Head) : Type 0 where
  pub view : record { base = base; heads = heads; room = room } ≡ row
  pub same_searched : searched ≡ heads
  pub same_taken : taken ≡ heads

pub first_is : (row : Row) (base room place : ℕ) (heads searched taken : List Head) (found : Option Head)
    → IsRow row base room heads searched taken → IsPlaceOf lsn_of_head searched base place → found ≡ slice_get taken place
    → found ≡ slice_get (heads_from row.base row.heads) 0
first_is row base room place heads searched taken found is at got =
    let place_in : IsPlaceOf lsn_of_head heads base place = rw is.same_searched at at in
    let first = ap (λ (live : List Head). slice_get live 0) (from_place heads base place place_in) ∙ first_from heads place in
    let by_heads : found ≡ slice_get heads place = rw is.same_taken at got in
    rw (← is.view) (by_heads ∙ sym first)

pub at_is : (row : Row) (base room lsn place : ℕ) (heads searched taken : List Head) (found : Option Head)
    → IsRow row base room heads searched taken → AreRising lsn_of_head heads → IsPlaceOf lsn_of_head searched lsn place → found ≡ slice_get taken place
    → if_at lsn found ≡ head_at lsn row.heads
at_is row base room lsn place heads searched taken found is rising at got =
    let place_in : IsPlaceOf lsn_of_head heads lsn place = rw is.same_searched at at in
    let by_heads : found ≡ slice_get heads place = rw is.same_taken at got in
    rw (← is.view) (ap (if_at lsn) by_heads ∙ sym (at_place heads lsn place rising place_in))

pub above_is_first : (row : Row) (base room lsn place : ℕ) (heads searched taken : List Head) (found : Option Head)
    → IsRow row base room heads searched taken → lsn < base → IsPlaceOf lsn_of_head searched base place → found ≡ slice_get taken place
    → found ≡ head_above lsn (heads_from row.base row.heads)
above_is_first row base room lsn place heads searched taken found is below at got =
    let place_in : IsPlaceOf lsn_of_head heads base place = rw is.same_searched at at in
    let by_heads : found ≡ slice_get heads place = rw is.same_taken at got in
    rw (← is.view) (by_heads ∙ sym (above_base base lsn place heads below place_in))

pub above_is : (row : Row) (base room lsn place : ℕ) (heads searched taken : List Head) (found : Option Head)
    → IsRow row base room heads searched taken → base ≤ lsn → IsPlaceOf lsn_of_head searched (lsn + 1) place → found ≡ slice_get taken place
    → found ≡ head_above lsn (heads_from row.base row.heads)
above_is row base room lsn place heads searched taken found is up at got =
    let place_in : IsPlaceOf lsn_of_head heads (lsn + 1) place = rw is.same_searched at at in
    let by_heads : found ≡ slice_get heads place = rw is.same_taken at got in
    rw (← is.view) (by_heads ∙ sym (above_lsn base lsn place heads up place_in))

pub live_is : (row : Row) (base room lsn : ℕ) (heads : List Head) (found : Option Head)
    → record { base = base; heads = heads; room = room } ≡ row → base ≤ lsn → found ≡ head_at lsn row.heads
    → found ≡ head_at lsn (heads_from row.base row.heads)
live_is row base room lsn heads found view up got =
    let same = ap (λ (r : Row). r.base) view in
    got ∙ sym (at_from_base row.base lsn row.heads (omega (arith, same, up)))

pub last_is : (row : Row) (base room : ℕ) (heads slice : List Head) (last : Head)
    → record { base = base; heads = heads; room = room } ≡ row → slice ≡ heads → Some last ≡ slice_get slice (length slice - 1) → base ≤ last.lsn
    → Some last ≡ last_or None (heads_from row.base row.heads)
last_is row base room heads slice last view same got up =
    let here : slice_get heads (length heads - 1) ≡ Some last = rw (← same) (sym got) in
    rw (← view) (sym (last_live base heads last here up))

pub last_is_dead : (row : Row) (base room : ℕ) (heads slice : List Head) (last : Head)
    → record { base = base; heads = heads; room = room } ≡ row → slice ≡ heads → AreRising lsn_of_head heads → Some last ≡ slice_get slice (length slice - 1)
    → last.lsn < base → None ≡ last_or None (heads_from row.base row.heads)
last_is_dead row base room heads slice last view same rising got dead =
    let here : slice_get heads (length heads - 1) ≡ Some last = rw (← same) (sym got) in
    rw (← view) (sym (none_live_at_end base heads last rising here dead))
