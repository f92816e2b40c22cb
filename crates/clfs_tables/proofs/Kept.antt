-- Heads of which the lowest were forgotten, and what a search of them finds.
use Rattle.std.proofs.Common.{◌≡◌, ℕ, ◌+◌, ◌*◌, ◌<◌, ◌≤◌, Bool, false, refl, sym, ap, ◌∙◌, inl, inr, arith, List, [], ◌∷◌, ◌++◌, length, zero, suc, take, drop, reverse, Some, None, get_or}
use Rattle.std.specs.Prelude.{filter, nat_le, ◌==◌, All}
use Rattle.std.proofs.lemmas.Bool.{cases_Bool, cases_lt, eq-eqb, eqb-true, ne_eqb, le-leb, leb-true}
use Rattle.std.proofs.lemmas.List.{append_cancel_right, take-append-drop, drop-drop, drop-append-le, take-append-le, length-drop, length-append, drop_all}
use Rattle.std.proofs.lemmas.List.Elements.{All-append, All-tail, All-take, All-weaker, filter-append}
use Rattle.clfs_lsn.specs.declared.entry.Head.{Head}
use Rattle.clfs_lsn.specs.declared.cursor.Mode.TheVariants.{Previous, UndoNext}
use Rattle.clfs_lsn.specs.Heads.{head_at, heads_from, next_head, stream_heads, live_heads, restarts_among, is_restart}
use Rattle.clfs_tables.specs.Tables.{IsDeadBelow, IsKept, restarts_of}

le_false : (a b : ℕ) → b < a → nat_le a b ≡ false
le_false a b less = elim (cases_Bool (nat_le a b)) [
  | inl is ↦ absurd (let le = leb-true a b is in omega (arith, le, less))
  | inr isnt ↦ isnt
]

-- none passes a test that each fails
none_pass : {X : Type 0} (p : X → Bool) (xs : List X) → All (λ x. p x ≡ false) xs → filter p xs ≡ []
none_pass p [] fail = refl
none_pass p (x ∷ xs) fail = rw (fail 0 x (omega arith)) (none_pass p xs (All-tail (λ y. p y ≡ false) x xs fail))

-- where none passes each fails
each_fails : {X : Type 0} (p : X → Bool) (xs : List X) → filter p xs ≡ [] → All (λ x. p x ≡ false) xs
each_fails p [] none = λ k d inside. absurd (omega (arith, inside))
each_fails p (x ∷ xs) none = elim (cases_Bool (p x)) [
  | inl passes ↦ absurd (let full = rw passes at none in cc full)
  | inr fails ↦ failing p x xs fails (each_fails p xs (rw fails at none))
]
  where
    failing : {X : Type 0} (p : X → Bool) (x : X) (xs : List X) → p x ≡ false → All (λ y. p y ≡ false) xs → All (λ y. p y ≡ false) (x ∷ xs)
    failing p x xs fails others zero d inside = fails
    failing p x xs fails others (suc k) d inside = others k d (omega (arith, inside))

-- two tests are made in either order
pub tests_swap : {X : Type 0} (p q : X → Bool) (xs : List X) → filter p (filter q xs) ≡ filter q (filter p xs)
tests_swap p q [] = refl
tests_swap p q (x ∷ xs) = elim (cases_Bool (p x)) [
  | inl is_p ↦ elim (cases_Bool (q x)) [
    | inl is_q ↦ rw (is_q, is_p, is_q) (ap (λ rest. x ∷ rest) (tests_swap p q xs))
    | inr no_q ↦ rw (no_q, is_p, no_q) (tests_swap p q xs)
  ]
  | inr no_p ↦ elim (cases_Bool (q x)) [
    | inl is_q ↦ rw (is_q, no_p) (tests_swap p q xs)
    | inr no_q ↦ rw (no_q, no_p) (tests_swap p q xs)
  ]
]

-- the live heads are those of all heads
pub live_kept : (low base : ℕ) (all kept : List Head) → IsKept low all kept → All (IsDeadBelow low base) all → heads_from base kept ≡ heads_from base all
live_kept low base all kept is dead =
    let front : All (λ (head : Head). nat_le base head.lsn ≡ false) (take is.count all) = fronts (take is.count all) is.below (All-take (IsDeadBelow low base) is.count all dead) in
    rw is.is (ap (λ (hs : List Head). hs ++ heads_from base (drop is.count all)) (sym (none_pass (λ (head : Head). nat_le base head.lsn) (take is.count all) front))
    ∙ sym (filter-append (λ (head : Head). nat_le base head.lsn) (take is.count all) (drop is.count all))
    ∙ ap (heads_from base) (take-append-drop is.count all))
  where
    fronts : (heads : List Head) → All (λ (head : Head). head.lsn < low) heads → All (IsDeadBelow low base) heads → All (λ (head : Head). nat_le base head.lsn ≡ false) heads
    fronts heads below dead = λ k d inside. le_false base (get_or heads k d).lsn (dead k d inside (below k d inside))

find_past : (lsn : ℕ) (front rest : List Head) → All (λ (head : Head). head.lsn < lsn) front → head_at lsn (front ++ rest) ≡ head_at lsn rest
find_past lsn [] rest below = refl
find_past lsn (head ∷ front) rest below =
    let first : head.lsn < lsn = below 0 head (omega arith) in
    rw (ne_eqb head.lsn lsn (λ same. omega (arith, same, first))) (find_past lsn front rest (All-tail (λ (h : Head). h.lsn < lsn) head front below))

-- a head at or above what is forgotten is found where it is one of all
pub found_kept : (low lsn : ℕ) (all kept : List Head) → IsKept low all kept → low ≤ lsn → head_at lsn kept ≡ head_at lsn all
found_kept low lsn all kept is above =
    rw is.is (sym (find_past lsn (take is.count all) (drop is.count all)
    (All-weaker (λ (head : Head). head.lsn < low) (λ (head : Head). head.lsn < lsn) (λ head below. omega (arith, below, above)) (take is.count all) is.below))
    ∙ ap (head_at lsn) (take-append-drop is.count all))

-- no more heads lie from an LSN on than there are
fewer_from : (low : ℕ) (heads : List Head) → length (heads_from low heads) ≤ length heads
fewer_from low [] = omega arith
fewer_from low (head ∷ heads) = elim (cases_Bool (nat_le low head.lsn)) [
  | inl from ↦ rw from (omega (arith, fewer_from low heads))
  | inr below ↦ rw below (omega (arith, fewer_from low heads))
]

-- all heads from the LSN on are kept
pub all_kept : (low : ℕ) (all kept : List Head) → IsKept low all kept → length (heads_from low all) ≤ length kept
all_kept low all kept is =
    let same = ap length (live_kept low low all kept is (λ k d inside below. below)) in
    omega (arith, same, fewer_from low kept)

-- of no heads none is forgotten
pub none_kept : (low : ℕ) → IsKept low [] []
none_kept low = record { count = 0; within = omega arith; is = refl; below = λ k d inside. absurd (omega (arith, inside)); few = omega arith }

-- as many heads of a whole lie from an LSN on as of its two parts
from_parts : (low : ℕ) (front rest : List Head) → length (heads_from low (front ++ rest)) ≡ length (heads_from low front) + length (heads_from low rest)
from_parts low front rest =
    ap length (filter-append (λ (head : Head). nat_le low head.lsn) front rest) ∙ length-append (heads_from low front) (heads_from low rest)

-- no more of the rest lie from an LSN on than of all
from_rest : (low count : ℕ) (all : List Head) → length (heads_from low (drop count all)) ≤ length (heads_from low all)
from_rest low count all =
    let parts = from_parts low (take count all) (drop count all) in
    let whole = ap (λ (hs : List Head). length (heads_from low hs)) (take-append-drop count all) in
    omega (arith, parts, whole)

-- heads that all lie from an LSN on
all_from : (low : ℕ) (heads : List Head) → All (λ (head : Head). low ≤ head.lsn) heads → heads_from low heads ≡ heads
all_from low [] above = refl
all_from low (head ∷ heads) above =
    rw (le-leb low head.lsn (above 0 head (omega arith))) (ap (λ rest. head ∷ rest) (all_from low heads (All-tail (λ (h : Head). low ≤ h.lsn) head heads above)))

-- heads after the others, from the LSN on, are kept
pub kept_with : (low : ℕ) (all kept more : List Head) → All (λ (head : Head). low ≤ head.lsn) more → IsKept low all kept → IsKept low (all ++ more) (kept ++ more)
kept_with low all kept more above is = record {
  count = is.count;
  within = omega (arith, is.within, length-append all more);
  is = rw (is.is, drop-append-le is.count all more is.within) refl;
  below = rw (take-append-le is.count all more is.within) is.below;
  few =
      let parts = from_parts low all more in
      let own = ap length (all_from low more above) in
      omega (arith, length-append kept more, is.few, parts, own);
}

-- more is forgotten, below a higher LSN
pub kept_further : (low lsn : ℕ) (all kept less : List Head) → low ≤ lsn → IsKept low all kept → IsKept lsn kept less → IsKept lsn all less
kept_further low lsn all kept less up first then = record {
  count = first.count + then.count;
  within =
      let long = length-drop first.count all in
      let same = ap length first.is in
      omega (arith, long, same, first.within, then.within);
  is = then.is ∙ ap (drop then.count) first.is ∙ drop-drop then.count first.count all;
  below =
      let low_front : All (λ (head : Head). head.lsn < lsn) (take first.count all)
      = All-weaker (λ (head : Head). head.lsn < low) (λ (head : Head). head.lsn < lsn) (λ head below. omega (arith, below, up)) (take first.count all) first.below in
      rw (take_both first.count then.count all) (All-append (λ (head : Head). head.lsn < lsn) (take first.count all) (take then.count (drop first.count all)) low_front
      (rw first.is at then.below));
  few =
      let rest = from_rest lsn first.count all in
      let same = ap (λ (hs : List Head). length (heads_from lsn hs)) first.is in
      omega (arith, then.few, rest, same);
}
  where
    take_both : {X : Type 0} (n m : ℕ) (xs : List X) → take (n + m) xs ≡ take n xs ++ take m (drop n xs)
    take_both zero m xs = let e : 0 + m ≡ m = omega arith in rw e refl
    take_both (suc n) zero [] = let e : suc n + 0 ≡ suc n = omega arith in rw e refl
    take_both (suc n) (suc m) [] = let e : suc n + suc m ≡ suc (n + suc m) = omega arith in rw e refl
    take_both (suc n) m (x ∷ xs) = let e : suc n + m ≡ suc (n + m) = omega arith in rw e (ap (λ rest. x ∷ rest) (take_both n m xs))

-- a row of which the front was dropped and that has the same heads from an LSN on has lost such below it alone
pub dropped : (lsn n : ℕ) (old new : List Head) → new ≡ drop n old → heads_from lsn new ≡ heads_from lsn old → length new ≤ 2 * length (heads_from lsn new)
    → IsKept lsn old new
dropped lsn n old new is same few = elim (cases_lt n (length old)) [
  | inl inside ↦ dropped_within lsn n old new is same few (omega (arith, inside))
  | inr past ↦
      let none : drop n old ≡ [] = drop_all n old past in
      dropped_within lsn (length old) old new (is ∙ none ∙ sym (drop_all (length old) old (omega arith))) same few (omega arith)
]
  where
    lower : (base : ℕ) (heads : List Head) → All (λ (head : Head). nat_le base head.lsn ≡ false) heads → All (λ (head : Head). head.lsn < base) heads
    lower base heads fail = λ k d inside. elim (cases_lt (get_or heads k d).lsn base) [
      | inl less ↦ less
      | inr not_less ↦ absurd (let passes = le-leb base (get_or heads k d).lsn not_less in let fails = fail k d inside in let both = sym passes ∙ fails in cc both)
    ]

    dropped_within : (lsn n : ℕ) (old new : List Head) → new ≡ drop n old → heads_from lsn new ≡ heads_from lsn old → length new ≤ 2 * length (heads_from lsn new)
        → n ≤ length old → IsKept lsn old new
    dropped_within lsn n old new is same few within = record {
      count = n;
      within = within;
      is = is;
      below =
          let split : heads_from lsn (take n old) ++ heads_from lsn (drop n old) ≡ heads_from lsn old
          = sym (filter-append (λ (head : Head). nat_le lsn head.lsn) (take n old) (drop n old)) ∙ ap (heads_from lsn) (take-append-drop n old) in
          let rest : heads_from lsn (take n old) ++ heads_from lsn (drop n old) ≡ [] ++ heads_from lsn (drop n old)
          = split ∙ sym same ∙ ap (heads_from lsn) is in
          lower lsn (take n old) (each_fails (λ (head : Head). nat_le lsn head.lsn) (take n old) (append_cancel_right _ [] _ rest));
      few = (let as_many = ap length same in omega (arith, few, as_many));
    }

-- the restart areas among live heads are the live ones of restart areas
pub live_restarts : (base stream : ℕ) (heads : List Head) → restarts_among (live_heads base stream heads) ≡ restarts_among (heads_from base (restarts_of (stream_heads stream heads)))
live_restarts base stream heads =
    ap reverse (tests_swap (λ (head : Head). is_restart head.kind) (λ (head : Head). nat_le base head.lsn) (stream_heads stream heads)
    ∙ ap (heads_from base) (sym (twice (stream_heads stream heads)))
    ∙ tests_swap (λ (head : Head). nat_le base head.lsn) (λ (head : Head). is_restart head.kind) (restarts_of (stream_heads stream heads)))
  where
    twice : (heads : List Head) → filter (λ (head : Head). is_restart head.kind) (restarts_of heads) ≡ restarts_of heads
    twice [] = refl
    twice (head ∷ heads) = elim (cases_Bool (is_restart head.kind)) [
      | inl is ↦ rw is (rw is (ap (λ rest. head ∷ rest) (twice heads)))
      | inr isnt ↦ rw isnt (twice heads)
    ]

-- where a link leads below what is live there is nothing live
pub nothing_live : (low base lsn : ℕ) (heads : List Head) → All (IsDeadBelow low base) heads → lsn < low → head_at lsn (heads_from base heads) ≡ None
nothing_live low base lsn [] dead below = refl
nothing_live low base lsn (head ∷ heads) dead below =
    let rest = nothing_live low base lsn heads (All-tail (IsDeadBelow low base) head heads dead) below in
    elim (cases_Bool (nat_le base head.lsn)) [
      | inr isnt ↦ rw isnt rest
      | inl live ↦
          let other : head.lsn ≡ lsn → ⊥ = λ same. (let dies = dead 0 head (omega arith) (omega (arith, same, below)) in let from = leb-true base head.lsn live in omega (arith, dies, from)) in
          rw live (rw (ne_eqb head.lsn lsn other) rest)
    ]

-- a head that is found among all is found among those of its stream
pub found_in_stream : (stream lsn : ℕ) (heads : List Head) (head : Head) → head_at lsn heads ≡ Some head → head.stream ≡ stream → head_at lsn (stream_heads stream heads) ≡ Some head
found_in_stream stream lsn [] head is own = is
found_in_stream stream lsn (first ∷ heads) head is own = elim (cases_Bool (first.lsn == lsn)) [
  | inl here ↦
      let same : first ≡ head = (let some : Some first ≡ Some head = rw here at is in cc) in
      let own_first : first.stream ≡ stream = ap (λ (h : Head). h.stream) same ∙ own in
      rw (eq-eqb first.stream stream own_first) (rw here (ap Some same))
  | inr other ↦
      let rest = found_in_stream stream lsn heads head (rw other at is) own in
      elim (cases_Bool (first.stream == stream)) [
        | inl of_stream ↦ rw of_stream (rw other rest)
        | inr of_another ↦ rw of_another rest
      ]
]

-- a head that is found is at the LSN, and what holds of all heads holds of it
pub found_holds : (P : Head → Type 0) (lsn : ℕ) (heads : List Head) (head : Head) → All P heads → head_at lsn heads ≡ Some head → P head × (head.lsn ≡ lsn)
found_holds P lsn [] head all is = absurd (cc)
found_holds P lsn (first ∷ heads) head all is = elim (cases_Bool (first.lsn == lsn)) [
  | inl here ↦
      let same : first ≡ head = (let some : Some first ≡ Some head = rw here at is in cc) in
      rw (← same) (all 0 first (omega arith), eqb-true first.lsn lsn here)
  | inr other ↦ found_holds P lsn heads head (All-tail P first heads all) (rw other at is)
]

-- A head of which all that is known of it lies below what is forgotten: its links lead nowhere.
pub links_lead_nowhere : (low base stream last : ℕ) (heads : List Head) (head : Head) → All (IsDeadBelow low base) (stream_heads stream heads)
    → All (λ (h : Head). (h.previous < h.lsn) × (h.undo_next < h.lsn)) heads → head_at last heads ≡ Some head → last < low
    → (next_head base stream Previous last heads ≡ None) × (next_head base stream UndoNext last heads ≡ None)
links_lead_nowhere low base stream last heads head dead links is below =
    let holds = found_holds (λ (h : Head). (h.previous < h.lsn) × (h.undo_next < h.lsn)) last heads head links is in (
      rw is (nothing_live low base head.previous (stream_heads stream heads) dead (omega (arith, holds.0.0, holds.1, below))),
      rw is (nothing_live low base head.undo_next (stream_heads stream heads) dead (omega (arith, holds.0.1, holds.1, below))),
    )

-- a head that is found is at the LSN
pub found_at : (lsn : ℕ) (heads : List Head) (head : Head) → head_at lsn heads ≡ Some head → head.lsn ≡ lsn
found_at lsn heads head is = (found_holds (λ (h : Head). h.lsn ≡ h.lsn) lsn heads head (λ k d inside. refl) is).1

-- One that is found among a stream's heads is the one among all.
pub known_head : (stream lsn : ℕ) (heads : List Head) (head known : Head) → Some head ≡ head_at lsn (stream_heads stream heads) → head_at lsn heads ≡ Some known → known.stream ≡ stream
    → (head.lsn ≡ lsn) × (head_at head.lsn heads ≡ Some head)
known_head stream lsn heads head known is there own =
    let same : head ≡ known = (let some : Some head ≡ Some known = is ∙ found_in_stream stream lsn heads known there own in cc) in
    let at : head.lsn ≡ lsn = ap (λ (h : Head). h.lsn) same ∙ found_at lsn heads known there in
    (at, ap (λ l. head_at l heads) at ∙ there ∙ ap Some (sym same))
