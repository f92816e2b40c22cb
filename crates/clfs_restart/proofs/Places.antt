-- What the definitions over heads say of sorted heads of restart areas, by places.
use Rattle.std.proofs.Common.{◌≡◌, ℕ, ◌-◌, ◌<◌, ◌≤◌, Bool, true, false, eqb, ltb, is_some, refl, sym, ap, ◌∙◌, inl, inr, arith, List, [], ◌∷◌, ◌++◌, length, zero, suc, Option, Some, None, get_or, slice_get, reverse}
use Rattle.std.specs.Prelude.{find, filter, nat_le, nat_lt, if◌then◌else◌}
use Rattle.std.specs.Ordering.{is_lt, nat_cmp}
use Rattle.std.proofs.lemmas.Bool.{cases_Bool, leb-true, leb-false, lt-ltb, le-ltb}
use Rattle.std.proofs.lemmas.Option.{slice_get-get_or}
use Rattle.std.proofs.lemmas.List.{reverse-append}
use Rattle.clfs_lsn.specs.declared.entry.Head.{Head}
use Rattle.clfs_lsn.specs.declared.entry.Kind.TheVariants.{Restart}
use Rattle.clfs_lsn.specs.Heads.{is_restart, heads_from, head_below, restarts_among, lsn_of_head}
use Rattle.clfs_restart.specs.Row.{Row}
use Rattle.clfs_lsn.specs.Rising.{AreRising, IsPlaceOf}
use Rattle.clfs_restart.specs.Restarts.{HasRestarts, head_before, live_or_none}

rising_tail : (head : Head) (heads : List Head) → AreRising lsn_of_head (head ∷ heads) → AreRising lsn_of_head heads
rising_tail head heads rising = λ i j d before inside. rising (suc i) (suc j) d (omega arith) (omega arith)

place_tail : (head : Head) (heads : List Head) (lsn place : ℕ) → IsPlaceOf lsn_of_head (head ∷ heads) lsn (suc place) → IsPlaceOf lsn_of_head heads lsn place
place_tail head heads lsn place is = record {
  within = omega (arith, is.within);
  below = λ k d before. is.below (suc k) d (omega arith);
  above = λ k d behind inside. is.above (suc k) d (omega arith) (omega arith);
}

place_of_tail : (head : Head) (heads : List Head) (lsn : ℕ) → IsPlaceOf lsn_of_head (head ∷ heads) lsn 0 → IsPlaceOf lsn_of_head heads lsn 0
place_of_tail head heads lsn is = record {
  within = omega arith;
  below = λ k d before. absurd (omega arith);
  above = λ k d behind inside. is.above (suc k) d (omega arith) (omega arith);
}

-- the live ones, the newest first
abbrev pub newest_first : ℕ → List Head → List Head
newest_first base heads = reverse (heads_from base heads)

live_restarts : (base : ℕ) (heads : List Head) → ((k : ℕ) (d : Head) → k < length heads → (get_or heads k d).kind ≡ Restart)
    → filter (λ (head : Head). is_restart head.kind) (heads_from base heads) ≡ heads_from base heads
live_restarts base [] all = refl
live_restarts base (head ∷ heads) all =
    let here : is_restart head.kind ≡ true = ap is_restart (all 0 head (omega arith)) in
    let rest = live_restarts base heads (λ k d inside. all (suc k) d (omega arith)) in
    elim (cases_Bool (nat_le base head.lsn)) [
      | inl passes ↦ rw passes (rw here (ap (λ (others : List Head). head ∷ others) rest))
      | inr fails ↦ rw fails rest
    ]

pub restarts_are : (base : ℕ) (heads : List Head) → HasRestarts heads → restarts_among (heads_from base heads) ≡ newest_first base heads
restarts_are base heads has = ap reverse (live_restarts base heads (λ k d inside. has.restarts k d inside))

-- a search in heads that are followed by one more
search_on : (p : Head → Bool) (heads : List Head) (last : Head) → find p (heads ++ last ∷ [])
    ≡ (if is_some (find p heads) then find p heads else (if p last then Some last else None))
search_on p [] last = refl
search_on p (head ∷ heads) last = elim (cases_Bool (p head)) [
  | inl passes ↦ rw passes refl
  | inr fails ↦ rw fails (search_on p heads last)
]

first_on : (heads : List Head) (last : Head) → slice_get (heads ++ last ∷ []) 0 ≡ (if is_some (slice_get heads 0) then slice_get heads 0 else Some last)
first_on [] last = refl
first_on (head ∷ heads) last = refl

-- after a live head all are live
live_behind : (base place : ℕ) (head : Head) (heads : List Head) → AreRising lsn_of_head (head ∷ heads) → place < length heads → base ≤ head.lsn
    → live_or_none base (slice_get heads place) ≡ Some (get_or heads place head)
live_behind base place head heads rising inside up =
    let over = rising 0 (suc place) head (omega arith) (omega (arith, inside)) in
    let live : ltb (get_or heads place head).lsn base ≡ false = le-ltb _ _ (omega (arith, over, up)) in
    rw (slice_get-get_or heads place head inside) (rw live refl)

-- the newest live head is the last one, where that is live
pub newest_is : (base : ℕ) (heads : List Head) → AreRising lsn_of_head heads
    → slice_get (newest_first base heads) 0 ≡ live_or_none base (head_before heads (length heads))
newest_is base [] rising = refl
newest_is base (head ∷ []) rising = elim (cases_Bool (nat_le base head.lsn)) [
  | inl passes ↦
      let live : ltb head.lsn base ≡ false = le-ltb _ _ (leb-true _ _ passes) in
      rw passes (rw live refl)
  | inr fails ↦
      let dead : ltb head.lsn base ≡ true = lt-ltb _ _ (leb-false _ _ fails) in
      rw fails (rw dead refl)
]
newest_is base (head ∷ (other ∷ heads)) rising =
    let rest = newest_is base (other ∷ heads) (rising_tail head (other ∷ heads) rising) in
    elim (cases_Bool (nat_le base head.lsn)) [
      | inl passes ↦
          let live = live_behind base (length heads) head (other ∷ heads) rising (omega arith) (leb-true _ _ passes) in
          let found : slice_get (reverse (heads_from base (other ∷ heads))) 0 ≡ Some (get_or (other ∷ heads) (length heads) head) = rest ∙ live in
          rw passes (ap (λ (all : List Head). slice_get all 0) (reverse-append (head ∷ []) (heads_from base (other ∷ heads)))
          ∙ first_on (reverse (heads_from base (other ∷ heads))) head ∙ rw found (sym live))
      | inr fails ↦ rw fails rest
    ]

-- where no head lies below an LSN, none is found
none_below : (base lsn : ℕ) (heads : List Head) → IsPlaceOf lsn_of_head heads lsn 0 → head_below lsn (newest_first base heads) ≡ None
none_below base lsn [] is = refl
none_below base lsn (head ∷ heads) is =
    let rest = none_below base lsn heads (place_of_tail head heads lsn is) in
    let not_below : ltb head.lsn lsn ≡ false = le-ltb _ _ (is.above 0 head (omega arith) (omega arith)) in
    elim (cases_Bool (nat_le base head.lsn)) [
      | inl passes ↦
          rw passes (ap (head_below lsn) (reverse-append (head ∷ []) (heads_from base heads))
          ∙ search_on (λ (h : Head). nat_lt h.lsn lsn) (reverse (heads_from base heads)) head ∙ rw rest (rw not_below refl))
      | inr fails ↦ rw fails rest
    ]

-- the newest live head below an LSN is the one before its place, where that is live
pub below_is : (base lsn place : ℕ) (heads : List Head) → AreRising lsn_of_head heads → IsPlaceOf lsn_of_head heads lsn place
    → head_below lsn (newest_first base heads) ≡ live_or_none base (head_before heads place)
below_is base lsn zero heads rising is = none_below base lsn heads is
below_is base lsn (suc place) [] rising is = refl
below_is base lsn (suc zero) (head ∷ heads) rising is =
    let rest = none_below base lsn heads (place_tail head heads lsn 0 is) in
    let below : ltb head.lsn lsn ≡ true = lt-ltb _ _ (is.below 0 head (omega arith)) in
    elim (cases_Bool (nat_le base head.lsn)) [
      | inl passes ↦
          let live : ltb head.lsn base ≡ false = le-ltb _ _ (leb-true _ _ passes) in
          rw passes (ap (head_below lsn) (reverse-append (head ∷ []) (heads_from base heads))
          ∙ search_on (λ (h : Head). nat_lt h.lsn lsn) (reverse (heads_from base heads)) head ∙ rw rest (rw below (rw live refl)))
      | inr fails ↦
          let dead : ltb head.lsn base ≡ true = lt-ltb _ _ (leb-false _ _ fails) in
          rw fails (rest ∙ rw dead refl)
    ]
below_is base lsn (suc (suc place)) (head ∷ heads) rising is =
    let rest = below_is base lsn (suc place) heads (rising_tail head heads rising) (place_tail head heads lsn (suc place) is) in
    let inside : place < length heads = omega (arith, is.within) in
    elim (cases_Bool (nat_le base head.lsn)) [
      | inl passes ↦
          let live = live_behind base place head heads rising inside (leb-true _ _ passes) in
          let found : head_below lsn (reverse (heads_from base heads)) ≡ Some (get_or heads place head) = rest ∙ live in
          rw passes (ap (head_below lsn) (reverse-append (head ∷ []) (heads_from base heads))
          ∙ search_on (λ (h : Head). nat_lt h.lsn lsn) (reverse (heads_from base heads)) head ∙ rw found (sym live))
      | inr fails ↦ rw fails rest
    ]

-- what a comparison of two LSNs answers
compared : (a b : ℕ) → is_lt (nat_cmp a b) ≡ ltb a b
compared a b = elim (cases_Bool (ltb a b)) [
  | inl less ↦ rw less refl
  | inr not_less ↦ rw not_less (elim (cases_Bool (eqb a b)) [
    | inl same ↦ rw same refl
    | inr other ↦ rw other refl
  ])
]

-- the head before a place that isn't the first is the one there
pub before_is : (heads : List Head) (place : ℕ) → (place ≡ 0 → ⊥) → head_before heads place ≡ slice_get heads (place - 1)
before_is heads zero some = absurd (some refl)
before_is heads (suc place) some =
    let less : suc place - 1 ≡ place = omega arith in
    rw less refl

pub live_is : (base : ℕ) (heads : List Head) (place : ℕ) (found : Option Head) (head : Head) (less : Bool) → found ≡ head_before heads place
    → found ≡ Some head → less ≡ is_lt (nat_cmp head.lsn base) → live_or_none base (head_before heads place) ≡ (if less then None else Some head)
live_is base heads place found head less got is answered =
    rw (sym got ∙ is, answered, compared head.lsn base) refl

pub newest_of : (row : Row) (base room : ℕ) (heads slice : List Head) (place : ℕ) (found : Option Head) → record { base = base; heads = heads; room = room } ≡ row
    → HasRestarts heads → slice ≡ heads → place ≡ length heads → found ≡ live_or_none base (head_before slice place)
    → found ≡ slice_get (restarts_among (heads_from row.base row.heads)) 0
newest_of row base room heads slice place found view has same end got =
    let by_heads : found ≡ live_or_none base (head_before heads (length heads)) = rw (← end, ← same) got in
    rw (← view) (by_heads ∙ sym (newest_is base heads has.rising)
    ∙ ap (λ (all : List Head). slice_get all 0) (sym (restarts_are base heads has)))

pub below_of : (row : Row) (base room lsn : ℕ) (heads slice searched : List Head) (place : ℕ) (found : Option Head)
    → record { base = base; heads = heads; room = room } ≡ row → HasRestarts heads → slice ≡ heads → searched ≡ heads → IsPlaceOf lsn_of_head searched lsn place
    → found ≡ live_or_none base (head_before slice place) → found ≡ head_below lsn (restarts_among (heads_from row.base row.heads))
below_of row base room lsn heads slice searched place found view has same as_searched at got =
    let by_heads : found ≡ live_or_none base (head_before heads place) = rw (← same) got in
    let place_in : IsPlaceOf lsn_of_head heads lsn place = rw as_searched at at in
    rw (← view) (by_heads ∙ sym (below_is base lsn place heads has.rising place_in)
    ∙ ap (head_below lsn) (sym (restarts_are base heads has)))
