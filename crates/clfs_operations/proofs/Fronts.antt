-- A front of a script that is within its limits is within them too.
use Rattle.std.proofs.Common.{◌≡◌, ℕ, ◌≤◌, List, [], ◌∷◌, ◌++◌, length, Bool, true, false, refl, sym, ap, ◌∙◌, arith, inl, inr, length-append}
use Rattle.std.specs.Prelude.{nat_le, ◌==◌, ◌&&◌}
use Rattle.std.specs.List.{slice_split, onto_first, list_all}
use Rattle.std.proofs.lemmas.Bool.{cases_Bool, le-leb, lt-leb, eqb-false, ne_eqb, cases_lt}
use Rattle.clfs_model.specs.Lines.{lines_of, whole_lines}
use Rattle.clfs_model.specs.Accepted.{Limits, is_within}

abbrev is_feed : ℕ → Bool
is_feed byte = byte == 10

-- there is always a part
abbrev HasPart : List (List ℕ) → Type 0
HasPart parts = (part : List ℕ) × (others : List (List ℕ)) × (parts ≡ part ∷ others)

onto : (x : ℕ) (parts : List (List ℕ)) → HasPart parts → HasPart (onto_first x parts)
onto x [] h = ([], [], absurd (cc))
onto x (part ∷ parts) h = (x ∷ part, parts, refl)

some_part : (bytes : List ℕ) → HasPart (slice_split is_feed bytes)
some_part [] = ([], [], refl)
some_part (b ∷ bytes) = elim (cases_Bool (is_feed b)) [
  | inl t ↦ rw t ([], slice_split is_feed bytes, refl)
  | inr t ↦ rw t (onto b (slice_split is_feed bytes) (some_part bytes))
]

-- The parts of a front: those of all the bytes, but the last of them may go on.
abbrev AreFronts : List (List ℕ) → List (List ℕ) → Type 0
AreFronts [] all = ⊥
AreFronts (part ∷ []) [] = ⊥
AreFronts (part ∷ []) (whole ∷ wholes) = length part ≤ length whole
AreFronts (part ∷ next ∷ more) [] = ⊥
AreFronts (part ∷ next ∷ more) (whole ∷ wholes) = (part ≡ whole) × AreFronts (next ∷ more) wholes

first_front : (parts all : List (List ℕ)) → HasPart all → parts ≡ [] ∷ [] → AreFronts parts all
first_front [] all h e = absurd (cc e)
first_front (part ∷ []) [] h e = absurd (let n = h.2 in cc n)
first_front (part ∷ []) (whole ∷ wholes) h e = let none : part ≡ [] = cc e in omega (arith, ap length none)
first_front (part ∷ next ∷ more) all h e = absurd (cc e)

behind_front : (parts all : List (List ℕ)) → AreFronts parts all → AreFronts ([] ∷ parts) ([] ∷ all)
behind_front [] all h = absurd h
behind_front (part ∷ parts) all h = (refl, h)

onto_front : (b : ℕ) (parts all : List (List ℕ)) → AreFronts parts all → AreFronts (onto_first b parts) (onto_first b all)
onto_front b [] all h = absurd h
onto_front b (part ∷ []) [] h = absurd h
onto_front b (part ∷ []) (whole ∷ wholes) h = omega (arith, h)
onto_front b (part ∷ next ∷ more) [] h = absurd h
onto_front b (part ∷ next ∷ more) (whole ∷ wholes) h = (ap (λ (p : List ℕ). b ∷ p) h.0, h.1)

parts_of_front : (front rest : List ℕ) → AreFronts (slice_split is_feed front) (slice_split is_feed (front ++ rest))
parts_of_front [] rest = first_front (slice_split is_feed []) (slice_split is_feed rest) (some_part rest) refl
parts_of_front (b ∷ front) rest = elim (cases_Bool (is_feed b)) [
  | inl t ↦ rw t (behind_front (slice_split is_feed front) (slice_split is_feed (front ++ rest)) (parts_of_front front rest))
  | inr t ↦ rw t (onto_front b (slice_split is_feed front) (slice_split is_feed (front ++ rest)) (parts_of_front front rest))
]

-- a front has no more lines
few_fronts : (parts all : List (List ℕ)) → AreFronts parts all → length (whole_lines parts) ≤ length (whole_lines all)
few_fronts [] all h = absurd h
few_fronts (part ∷ []) [] h = absurd h
few_fronts (part ∷ []) (whole ∷ []) h = elim (cases_Bool (length part == 0)) [
  | inl none ↦ rw none (omega arith)
  | inr some ↦
      let more : (length whole == 0) ≡ false = ne_eqb (length whole) 0 (λ z. eqb-false (length part) 0 some (omega (arith, h, z))) in
      rw (some, more) (omega arith)
]
few_fronts (part ∷ []) (whole ∷ next ∷ more) h = elim (cases_Bool (length part == 0)) [
  | inl none ↦ rw none (omega arith)
  | inr some ↦ rw some (omega arith)
]
few_fronts (part ∷ next ∷ more) [] h = absurd h
few_fronts (part ∷ next ∷ []) (whole ∷ []) h = absurd h.1
few_fronts (part ∷ next ∷ third ∷ more) (whole ∷ []) h = absurd h.1
few_fronts (part ∷ next ∷ more) (whole ∷ other ∷ wholes) h = let few = few_fronts (next ∷ more) (other ∷ wholes) h.1 in omega (arith, few)

-- whether a line has at most so many bytes
abbrev is_short : ℕ → List ℕ → Bool
is_short most line = nat_le (length line) most

at_most : (n most : ℕ) → nat_le n most ≡ true → n ≤ most
at_most n most t = elim (cases_lt most n) [
  | inr few ↦ few
  | inl many ↦ absurd (let not : nat_le n most ≡ false = lt-leb n most many in let e = sym t ∙ not in cc e)
]

-- a line that isn't longer than a short one is short
no_longer : (most : ℕ) (line other : List ℕ) → length line ≤ length other → is_short most other ≡ true → is_short most line ≡ true
no_longer most line other le short = let few = at_most (length other) most short in le-leb (length line) most (omega (arith, le, few))

-- the first of short lines
first_short : (most : ℕ) (line : List ℕ) (lines : List (List ℕ)) → list_all (is_short most) (line ∷ lines) ≡ true
    → (is_short most line ≡ true) × (list_all (is_short most) lines ≡ true)
first_short most line lines all = elim (cases_Bool (is_short most line)) [
  | inl t ↦ (t, rw t at all)
  | inr t ↦ absurd (let no = rw t at all in cc no)
]

more_short : (most : ℕ) (line : List ℕ) (lines : List (List ℕ)) → is_short most line ≡ true → list_all (is_short most) lines ≡ true
    → list_all (is_short most) (line ∷ lines) ≡ true
more_short most line lines t all = rw t all

last_short : (most : ℕ) (part : List ℕ) → is_short most part ≡ true → list_all (is_short most) (whole_lines (part ∷ [])) ≡ true
last_short most part t = elim (cases_Bool (length part == 0)) [
  | inl none ↦ rw none refl
  | inr some ↦ rw (some, t) refl
]

short_last : (most : ℕ) (whole : List ℕ) → list_all (is_short most) (whole_lines (whole ∷ [])) ≡ true → is_short most whole ≡ true
short_last most [] all = le-leb 0 most (omega arith)
short_last most (b ∷ whole) all =
    let some : (length (b ∷ whole) == 0) ≡ false = ne_eqb (length (b ∷ whole)) 0 (λ z. omega (arith, z)) in
    (first_short most (b ∷ whole) [] (rw some at all)).0

short_fronts : (most : ℕ) (parts all : List (List ℕ)) → AreFronts parts all → list_all (is_short most) (whole_lines all) ≡ true
    → list_all (is_short most) (whole_lines parts) ≡ true
short_fronts most [] all h short = absurd h
short_fronts most (part ∷ []) [] h short = absurd h
short_fronts most (part ∷ []) (whole ∷ []) h short = last_short most part (no_longer most part whole h (short_last most whole short))
short_fronts most (part ∷ []) (whole ∷ next ∷ more) h short =
    last_short most part (no_longer most part whole h (first_short most whole (whole_lines (next ∷ more)) short).0)
short_fronts most (part ∷ next ∷ more) [] h short = absurd h
short_fronts most (part ∷ next ∷ []) (whole ∷ []) h short = absurd h.1
short_fronts most (part ∷ next ∷ third ∷ more) (whole ∷ []) h short = absurd h.1
short_fronts most (part ∷ next ∷ more) (whole ∷ other ∷ wholes) h short =
    let both = first_short most whole (whole_lines (other ∷ wholes)) short in
    more_short most part (whole_lines (next ∷ more)) (rw h.0 both.0) (short_fronts most (next ∷ more) (other ∷ wholes) h.1 both.1)

-- the parts of being within limits
both_hold : (a b : Bool) → (a && b) ≡ true → (a ≡ true) × (b ≡ true)
both_hold true true e = (refl, refl)
both_hold true false e = absurd (cc e)
both_hold false b e = absurd (cc e)

-- a front of a script that is within its limits
pub front_is_within : (limits : Limits) (front rest : List ℕ) → is_within limits (front ++ rest) ≡ true → is_within limits front ≡ true
front_is_within limits front rest within =
    let whole = front ++ rest in
    let fronts = parts_of_front front rest in
    let last = both_hold (nat_le (length whole) limits.bytes && nat_le (length (lines_of whole)) limits.lines)
    (list_all (is_short limits.line) (lines_of whole)) within in
    let first = both_hold (nat_le (length whole) limits.bytes) (nat_le (length (lines_of whole)) limits.lines) last.0 in
    let bytes : nat_le (length front) limits.bytes ≡ true =
    (let few = at_most (length whole) limits.bytes first.0 in le-leb (length front) limits.bytes (omega (arith, few, length-append front rest))) in
    let lines : nat_le (length (lines_of front)) limits.lines ≡ true =
    (let few = at_most (length (lines_of whole)) limits.lines first.1 in
    let fewer = few_fronts (slice_split is_feed front) (slice_split is_feed whole) fronts in
    le-leb (length (lines_of front)) limits.lines (omega (arith, few, fewer))) in
    let short = short_fronts limits.line (slice_split is_feed front) (slice_split is_feed whole) fronts last.1 in
    rw (bytes, lines, short) refl
