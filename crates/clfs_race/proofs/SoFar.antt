-- How far the lines of a script are divided.
use Rattle.clfs_race.proofs.Words.{◌≡◌, ℕ, ◌≤◌, ◌<◌, ◌-◌, List, [], ◌∷◌, ◌++◌, length, take, Bool, true, false, refl, sym, ap, subst, ◌∙◌, arith, inl, inr}
use Rattle.clfs_race.proofs.Words.{◌&&◌, list_all, append-nil, race_limits, ended_lines, Request, calls_alone, request_in, IsDivided, IsDividedFurther}
use Rattle.clfs_race.proofs.Words.{HasNoFeed, Division}
use Rattle.std.proofs.Common.{append_assoc}
use Rattle.std.specs.Prelude.{min}
use Rattle.std.proofs.lemmas.Bool.{cases_lt, leb-true}
use Rattle.std.proofs.lemmas.List.{take_all, map-append}
use Rattle.clfs_model.specs.Lines.{without_return}
use Rattle.clfs_race.specs.Scripts.{race_requests}
use Rattle.clfs_race.proofs.FirstLines.{Splits, first_ended, none_ended, is_short, first_short, short_more, long_ends, no_more}
use Rattle.clfs_race.proofs.Gathering.{divided_further}

-- of these lines all but the rest are divided
pub record IsDividedSoFar (all rest : List (List ℕ)) (division : Division) : Type 0 where
  pub done : List (List ℕ)
  pub is : IsDivided (race_requests done) division
  pub split : done ++ rest ≡ all

pub none_yet : (all : List (List ℕ)) (division : Division) → IsDivided [] division → IsDividedSoFar all all division
none_yet all division is = record { done = []; is = is; split = refl }

pub one_more : (all rest after : List (List ℕ)) (line : List ℕ) (old new : Division) → IsDividedSoFar all rest old → rest ≡ line ∷ after
    → IsDividedFurther old (request_in calls_alone (without_return line)) new → IsDividedSoFar all after new
one_more all rest after line old new so_far first further =
    let asked : race_requests so_far.done ++ request_in calls_alone (without_return line) ∷ [] ≡ race_requests (so_far.done ++ line ∷ []) =
    sym (map-append (λ (l : List ℕ). request_in calls_alone (without_return l)) so_far.done (line ∷ [])) in
    record {
      done = so_far.done ++ line ∷ [];
      is = subst (λ (requests : List Request). IsDivided requests new) asked
          (divided_further (race_requests so_far.done) (request_in calls_alone (without_return line)) old new so_far.is further);
      split = append_assoc so_far.done (line ∷ []) after ∙ ap (λ (ls : List (List ℕ)). so_far.done ++ ls) (sym first) ∙ so_far.split;
    }

pub all_done : (all rest : List (List ℕ)) (division : Division) → IsDividedSoFar all rest division → rest ≡ [] → IsDivided (race_requests all) division
all_done all rest division so_far none =
    let same : so_far.done ≡ all = sym (append-nil so_far.done) ∙ ap (λ (ls : List (List ℕ)). so_far.done ++ ls) (sym none) ∙ so_far.split in
    subst (λ (lines : List (List ℕ)). IsDivided (race_requests lines) division) same so_far.is

-- ---- short lines

and_parts : (a b : Bool) → (a && b) ≡ true → (a ≡ true) × (b ≡ true)
and_parts true b e = (refl, e)
and_parts false b e = absurd (cc e)

-- the first of short lines is short, and so are the others
pub first_is_short : (lines after : List (List ℕ)) (line : List ℕ) → list_all is_short lines ≡ true → lines ≡ line ∷ after
    → (length line ≤ race_limits.line) × (list_all is_short after ≡ true)
first_is_short lines after line all first =
    let both = and_parts (is_short line) (list_all is_short after) (ap (λ (ls : List (List ℕ)). list_all is_short ls) (sym first) ∙ all) in
    (leb-true (length line) race_limits.line both.0, both.1)

-- ---- the front of a script

pub front_is : (bytes : List ℕ) → take (min (length bytes) race_limits.bytes) bytes ≡ take race_limits.bytes bytes
front_is bytes = elim (cases_lt race_limits.bytes (length bytes)) [
  | inl more ↦ ap (λ (n : ℕ). take n bytes) {x = min (length bytes) race_limits.bytes} {y = race_limits.bytes} (omega (arith, more))
  | inr few ↦ ap (λ (n : ℕ). take n bytes) {x = min (length bytes) race_limits.bytes} {y = length bytes} (omega (arith, few))
      ∙ take_all (length bytes) bytes (omega arith) ∙ sym (take_all race_limits.bytes bytes few)
]

-- what is left of the lines that are answered, after a short one
pub short_left : (count : ℕ) (bytes line rest : List ℕ) → 0 < count → Splits bytes line rest → length line ≤ race_limits.line
    → first_short count (ended_lines bytes) ≡ line ∷ first_short (count - 1) (ended_lines rest)
short_left count bytes line rest some split small =
    ap (λ (ls : List (List ℕ)). first_short count ls) (first_ended bytes line rest split) ∙ short_more count line (ended_lines rest) some small

-- none is left from a line on that is too long, or has no line feed
pub none_after_long : (count : ℕ) (bytes line rest : List ℕ) → Splits bytes line rest → race_limits.line < length line → first_short count (ended_lines bytes) ≡ []
none_after_long count bytes line rest split long =
    ap (λ (ls : List (List ℕ)). first_short count ls) (first_ended bytes line rest split) ∙ long_ends count line (ended_lines rest) long

pub none_unended : (count : ℕ) (bytes : List ℕ) → HasNoFeed bytes → first_short count (ended_lines bytes) ≡ []
none_unended count bytes none = ap (λ (ls : List (List ℕ)). first_short count ls) (none_ended bytes none) ∙ no_more count
