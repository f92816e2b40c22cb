-- The lines of bytes of which those at the front are known, and which of them are answered.
use Rattle.std.proofs.Common.{◌≡◌, ℕ, ◌+◌, ◌≤◌, ◌<◌, List, [], ◌∷◌, ◌++◌, length, take, Bool, true, false, refl, sym, ap, ◌∙◌, arith, inl, inr, append_assoc, length-append}
use Rattle.std.specs.Prelude.{nat_le, ◌==◌, take_while}
use Rattle.std.specs.List.{All, slice_split, onto_first, list_all}
use Rattle.std.proofs.lemmas.Bool.{cases_Bool, le-leb, lt-leb, ne_eqb}
use Rattle.std.proofs.lemmas.List.{take_all, length-take, append-nil}
use Rattle.std.proofs.lemmas.List.Elements.{All-head, All-tail}
use Rattle.std.proofs.lemmas.List.Folds.{list_all-append}
use Rattle.std.proofs.lemmas.List.Sums.{count_by-le-length, take_while-cons}
use Rattle.std.proofs.lemmas.List.Splits.{length-slice_split, slice_split_none, slice_split_at, slice_split-cons_no}
use Rattle.clfs_model.specs.Lines.{lines_of, whole_lines}
use Rattle.clfs_model.specs.Accepted.{serve_limits, is_within, accepted, ended_lines, without_last}
use Rattle.clfs_race.specs.Feeds.{is_feed, HasNoFeed}
use Rattle.clfs_lines.specs.Feeds.{with_feeds}
use Rattle.clfs_lines.specs.Taken.{script_limits, is_short, IsFrontOf}

-- ---- parts

-- there is always a part
abbrev HasPart : List (List ℕ) → Type 0
HasPart parts = (part : List ℕ) × (others : List (List ℕ)) × (parts ≡ part ∷ others)

onto : (x : ℕ) (parts : List (List ℕ)) → HasPart parts → HasPart (onto_first x parts)
onto x [] h = ([], [], absurd (cc))
onto x (part ∷ parts) h = (x ∷ part, parts, refl)

some_part : (bytes : List ℕ) → HasPart (slice_split is_feed bytes)
some_part [] = ([], [], refl)
some_part (b ∷ bytes) = elim (cases_Bool (is_feed b)) [
  | inl t ↦ rw t ([], slice_split is_feed bytes, refl)
  | inr t ↦ rw t (onto b (slice_split is_feed bytes) (some_part bytes))
]

part_behind : (lines parts : List (List ℕ)) → HasPart parts → HasPart (lines ++ parts)
part_behind [] parts h = h
part_behind (line ∷ lines) parts h = (line, lines ++ parts, refl)

-- lines with their line feeds, and what stands after them
parts_behind : (lines : List (List ℕ)) (rest : List ℕ) → All HasNoFeed lines → slice_split is_feed (with_feeds lines ++ rest) ≡ lines ++ slice_split is_feed rest
parts_behind [] rest none = refl
parts_behind (line ∷ lines) rest none =
    ap (λ (bytes : List ℕ). slice_split is_feed bytes) (append_assoc line (10 ∷ with_feeds lines) rest)
    ∙ slice_split_at is_feed line 10 (with_feeds lines ++ rest) (All-head HasNoFeed line lines none) refl
    ∙ ap (λ (parts : List (List ℕ)). line ∷ parts) (parts_behind lines rest (All-tail HasNoFeed line lines none))

-- bytes without a line feed begin the first part
long_part : (front rest part : List ℕ) (others : List (List ℕ)) → HasNoFeed front → slice_split is_feed rest ≡ part ∷ others
    → slice_split is_feed (front ++ rest) ≡ (front ++ part) ∷ others
long_part [] rest part others none split = split
long_part (b ∷ front) rest part others none split =
    slice_split-cons_no is_feed b (front ++ rest) (All-head (λ (byte : ℕ). is_feed byte ≡ false) b front none)
    ∙ ap (λ (parts : List (List ℕ)). onto_first b parts) (long_part front rest part others (All-tail (λ (byte : ℕ). is_feed byte ≡ false) b front none) split)

whole_more : (line : List ℕ) (parts : List (List ℕ)) → HasPart parts → whole_lines (line ∷ parts) ≡ line ∷ whole_lines parts
whole_more line parts h = rw h.2 refl

ended_more : (line : List ℕ) (parts : List (List ℕ)) → HasPart parts → without_last (line ∷ parts) ≡ line ∷ without_last parts
ended_more line parts h = rw h.2 refl

whole_behind : (lines parts : List (List ℕ)) → HasPart parts → whole_lines (lines ++ parts) ≡ lines ++ whole_lines parts
whole_behind [] parts h = refl
whole_behind (line ∷ lines) parts h =
    whole_more line (lines ++ parts) (part_behind lines parts h) ∙ ap (λ (ls : List (List ℕ)). line ∷ ls) (whole_behind lines parts h)

ended_behind : (lines parts : List (List ℕ)) → HasPart parts → without_last (lines ++ parts) ≡ lines ++ without_last parts
ended_behind [] parts h = refl
ended_behind (line ∷ lines) parts h =
    ended_more line (lines ++ parts) (part_behind lines parts h) ∙ ap (λ (ls : List (List ℕ)). line ∷ ls) (ended_behind lines parts h)

-- ---- how many lines there are

-- all parts but the last
drops_one : (part : List ℕ) (parts : List (List ℕ)) → length (without_last (part ∷ parts)) ≡ length parts
drops_one part [] = refl
drops_one part (next ∷ more) = let h = drops_one next more in omega (arith, h)

-- there are no more ended lines than bytes
few_ended : (bytes : List ℕ) → length (ended_lines bytes) ≤ length bytes
few_ended bytes =
    let part = some_part bytes in
    let same : length (ended_lines bytes) ≡ length part.1 = ap (λ (parts : List (List ℕ)). length (without_last parts)) part.2 ∙ drops_one part.0 part.1 in
    let n : length (slice_split is_feed bytes) ≡ length (part.0 ∷ part.1) = ap length part.2 in
    omega (arith, same, n, length-slice_split is_feed bytes, count_by-le-length is_feed bytes)

-- a longer first part makes one line more at most
longer_first : (b : ℕ) (parts : List (List ℕ)) → HasPart parts → (n : ℕ) → length (whole_lines parts) ≤ n → length (whole_lines (onto_first b parts)) ≤ n + 1
longer_first b [] h n few = absurd (let e = h.2 in cc e)
longer_first b (part ∷ []) h n few =
    let t : (length (b ∷ part) == 0) ≡ false = ne_eqb (length (b ∷ part)) 0 (λ z. omega (arith, z)) in rw t (omega arith)
longer_first b (part ∷ next ∷ more) h n few = omega (arith, few)

-- nor are there more lines
few_lines : (bytes : List ℕ) → length (lines_of bytes) ≤ length bytes
few_lines [] = omega arith
few_lines (b ∷ bytes) = elim (cases_Bool (is_feed b)) [
  | inl t ↦ let more = whole_more [] (slice_split is_feed bytes) (some_part bytes) in rw (t, more) (omega (arith, few_lines bytes))
  | inr t ↦ let more = longer_first b (slice_split is_feed bytes) (some_part bytes) (length bytes) (few_lines bytes) in rw t (omega (arith, more))
]

-- ---- lines that are none too long

-- a line that is none too long comes before the others
short_more : (line : List ℕ) (lines : List (List ℕ)) → is_short line ≡ true → take_while is_short (line ∷ lines) ≡ line ∷ take_while is_short lines
short_more line lines t = take_while-cons is_short line lines ∙ rw t refl

-- a line that is too long ends them
short_none : (line : List ℕ) (lines : List (List ℕ)) → is_short line ≡ false → take_while is_short (line ∷ lines) ≡ []
short_none line lines t = take_while-cons is_short line lines ∙ rw t refl

few_short : (lines : List (List ℕ)) → length (take_while is_short lines) ≤ length lines
few_short [] = omega arith
few_short (line ∷ lines) = elim (cases_Bool (is_short line)) [
  | inl t ↦ omega (arith, ap length (short_more line lines t), few_short lines)
  | inr t ↦ omega (arith, ap length (short_none line lines t))
]

short_behind : (lines more : List (List ℕ)) → list_all is_short lines ≡ true → take_while is_short (lines ++ more) ≡ lines ++ take_while is_short more
short_behind [] more all = refl
short_behind (line ∷ lines) more all = elim (cases_Bool (is_short line)) [
  | inl t ↦ let rest = rw t at all in short_more line (lines ++ more) t ∙ ap (λ (ls : List (List ℕ)). line ∷ ls) (short_behind lines more rest)
  | inr t ↦ absurd (let no = rw t at all in cc no)
]

-- ---- the lines that are answered

-- the ended lines up to the first that is too long are the accepted ones
accepted_are : (most : ℕ) (bytes : List ℕ) → take_while is_short (ended_lines (take most bytes)) ≡ accepted (script_limits most) bytes
accepted_are most bytes =
    let front = take most bytes in
    let small : length front ≤ most = omega (arith, length-take most bytes) in
    sym (take_all most (take_while is_short (ended_lines front)) (omega (arith, few_short (ended_lines front), few_ended front, small)))

-- those that are known come first
accepted_behind : (most : ℕ) (bytes : List ℕ) (lines : List (List ℕ)) (rest : List ℕ) → All HasNoFeed lines → list_all is_short lines ≡ true
    → with_feeds lines ++ rest ≡ take most bytes → accepted (script_limits most) bytes ≡ lines ++ take_while is_short (without_last (slice_split is_feed rest))
accepted_behind most bytes lines rest none short split =
    sym (accepted_are most bytes) ∙ ap (λ (b : List ℕ). take_while is_short (ended_lines b)) (sym split)
    ∙ ap (λ (parts : List (List ℕ)). take_while is_short (without_last parts)) (parts_behind lines rest none)
    ∙ ap (λ (ls : List (List ℕ)). take_while is_short ls) (ended_behind lines (slice_split is_feed rest) (some_part rest))
    ∙ short_behind lines (without_last (slice_split is_feed rest)) short

-- so they are a front of them
pub known_are_front : (most : ℕ) (bytes : List ℕ) (lines : List (List ℕ)) (rest : List ℕ) → All HasNoFeed lines → list_all is_short lines ≡ true
    → with_feeds lines ++ rest ≡ take most bytes → IsFrontOf (accepted (script_limits most) bytes) lines
known_are_front most bytes lines rest none short split =
    record { rest = take_while is_short (without_last (slice_split is_feed rest)); front = sym (accepted_behind most bytes lines rest none short split) }

-- where no line ends after them they are all
pub known_are_all : (most : ℕ) (bytes : List ℕ) (lines : List (List ℕ)) (rest : List ℕ) → All HasNoFeed lines → list_all is_short lines ≡ true
    → with_feeds lines ++ rest ≡ take most bytes → HasNoFeed rest → accepted (script_limits most) bytes ≡ lines
known_are_all most bytes lines rest none short split one =
    accepted_behind most bytes lines rest none short split
    ∙ ap (λ (parts : List (List ℕ)). lines ++ take_while is_short (without_last parts)) (slice_split_none is_feed rest one) ∙ append-nil lines

-- the first part is too long
long_ends : (part : List ℕ) (others : List (List ℕ)) → is_short part ≡ false → take_while is_short (without_last (part ∷ others)) ≡ []
long_ends part [] t = refl
long_ends part (next ∷ others) t = short_none part (without_last (next ∷ others)) t

long_lines : (part : List ℕ) (others : List (List ℕ)) → serve_limits.line < length part → list_all is_short (whole_lines (part ∷ others)) ≡ false
long_lines part [] long =
    let some : (length part == 0) ≡ false = ne_eqb (length part) 0 (λ z. omega (arith, z, long)) in
    let t : is_short part ≡ false = lt-leb (length part) serve_limits.line long in rw (some, t) refl
long_lines part (next ∷ others) long = let t : is_short part ≡ false = lt-leb (length part) serve_limits.line long in rw t refl

-- what stands after them is too long
longer : (line rest part : List ℕ) → serve_limits.line < length line → serve_limits.line < length (line ++ part)
longer line rest part long = omega (arith, long, length-append line part)

-- so do they where a line after them is too long
pub known_are_before_long : (most : ℕ) (bytes : List ℕ) (lines : List (List ℕ)) (line rest : List ℕ) → All HasNoFeed lines → list_all is_short lines ≡ true
    → with_feeds lines ++ (line ++ rest) ≡ take most bytes → HasNoFeed line → serve_limits.line < length line → accepted (script_limits most) bytes ≡ lines
known_are_before_long most bytes lines line rest none short split one long =
    let part = some_part rest in
    let t : is_short (line ++ part.0) ≡ false = lt-leb (length (line ++ part.0)) serve_limits.line (longer line rest part.0 long) in
    accepted_behind most bytes lines (line ++ rest) none short split
    ∙ ap (λ (parts : List (List ℕ)). lines ++ take_while is_short (without_last parts)) (long_part line rest part.0 part.1 one part.2)
    ∙ ap (λ (ls : List (List ℕ)). lines ++ ls) (long_ends (line ++ part.0) part.1 t) ∙ append-nil lines

-- ---- the limits

-- a script of few bytes is within its limits where none of its lines is too long
within_is : (most : ℕ) (bytes : List ℕ) (all : Bool) → length bytes ≤ most → list_all is_short (lines_of bytes) ≡ all → is_within (script_limits most) bytes ≡ all
within_is most bytes all small e =
    let few : nat_le (length bytes) most ≡ true = le-leb (length bytes) most small in
    let lines : nat_le (length (lines_of bytes)) most ≡ true = le-leb (length (lines_of bytes)) most (omega (arith, few_lines bytes, small)) in
    rw (few, lines, e) refl

-- more bytes than a script may have are past its limits
pub past_is : (most : ℕ) (bytes : List ℕ) → most < length bytes → is_within (script_limits most) bytes ≡ false
past_is most bytes many = let t : nat_le (length bytes) most ≡ false = lt-leb (length bytes) most many in rw t refl

lines_behind : (bytes : List ℕ) (lines : List (List ℕ)) (rest : List ℕ) → All HasNoFeed lines → with_feeds lines ++ rest ≡ bytes
    → lines_of bytes ≡ lines ++ whole_lines (slice_split is_feed rest)
lines_behind bytes lines rest none split =
    ap (λ (b : List ℕ). lines_of b) (sym split) ∙ ap (λ (parts : List (List ℕ)). whole_lines parts) (parts_behind lines rest none)
    ∙ whole_behind lines (slice_split is_feed rest) (some_part rest)

all_behind : (lines more : List (List ℕ)) → list_all is_short lines ≡ true → list_all is_short (lines ++ more) ≡ list_all is_short more
all_behind lines more short = list_all-append is_short lines more ∙ rw short refl

-- so are bytes with a line that is too long
pub long_is_past : (most : ℕ) (bytes : List ℕ) (lines : List (List ℕ)) (line rest : List ℕ) → All HasNoFeed lines → list_all is_short lines ≡ true
    → with_feeds lines ++ (line ++ rest) ≡ bytes → length bytes ≤ most → HasNoFeed line → serve_limits.line < length line → is_within (script_limits most) bytes ≡ false
long_is_past most bytes lines line rest none short split small one long =
    let part = some_part rest in
    within_is most bytes false small
    (ap (λ (ls : List (List ℕ)). list_all is_short ls) (lines_behind bytes lines (line ++ rest) none split)
    ∙ all_behind lines (whole_lines (slice_split is_feed (line ++ rest))) short
    ∙ ap (λ (parts : List (List ℕ)). list_all is_short (whole_lines parts)) (long_part line rest part.0 part.1 one part.2)
    ∙ long_lines (line ++ part.0) part.1 (longer line rest part.0 long))

-- ---- whole scripts

-- all lines are known
pub script_ended : (bytes : List ℕ) (lines : List (List ℕ)) → All HasNoFeed lines → with_feeds lines ++ [] ≡ bytes → lines_of bytes ≡ lines
script_ended bytes lines none split = lines_behind bytes lines [] none split ∙ append-nil lines

-- those that have their line feed
pub ended_are : (bytes : List ℕ) (lines : List (List ℕ)) (rest : List ℕ) → All HasNoFeed lines → with_feeds lines ++ rest ≡ bytes → HasNoFeed rest
    → ended_lines bytes ≡ lines
ended_are bytes lines rest none split one =
    ap (λ (b : List ℕ). ended_lines b) (sym split) ∙ ap (λ (parts : List (List ℕ)). without_last parts) (parts_behind lines rest none)
    ∙ ended_behind lines (slice_split is_feed rest) (some_part rest)
    ∙ ap (λ (parts : List (List ℕ)). lines ++ without_last parts) (slice_split_none is_feed rest one) ∙ append-nil lines

-- all but the last, which has no line feed
pub script_cut : (bytes : List ℕ) (lines : List (List ℕ)) (line : List ℕ) → All HasNoFeed lines → with_feeds lines ++ line ≡ bytes → HasNoFeed line → 0 < length line
    → lines_of bytes ≡ lines ++ line ∷ []
script_cut bytes lines line none split one some =
    let not_empty : (length line == 0) ≡ false = ne_eqb (length line) 0 (λ z. omega (arith, z, some)) in
    lines_behind bytes lines line none split
    ∙ ap (λ (parts : List (List ℕ)). lines ++ whole_lines parts) (slice_split_none is_feed line one) ∙ rw not_empty refl

-- a script is within its limits whose lines are all short
pub short_is_within : (most : ℕ) (bytes : List ℕ) (lines : List (List ℕ)) → length bytes ≤ most → lines_of bytes ≡ lines → list_all is_short lines ≡ true
    → is_within (script_limits most) bytes ≡ true
short_is_within most bytes lines small all short = within_is most bytes true small (ap (λ (ls : List (List ℕ)). list_all is_short ls) all ∙ short)

-- one more that is none too long
pub all_short_more : (lines : List (List ℕ)) (line : List ℕ) → list_all is_short lines ≡ true → length line ≤ serve_limits.line → list_all is_short (lines ++ line ∷ []) ≡ true
all_short_more lines line short few = all_behind lines (line ∷ []) short ∙ (let t : is_short line ≡ true = le-leb (length line) serve_limits.line few in rw t refl)

-- ---- one line more

pub with_feeds_more : (lines : List (List ℕ)) (line rest : List ℕ) → with_feeds (lines ++ line ∷ []) ++ rest ≡ with_feeds lines ++ (line ++ 10 ∷ rest)
with_feeds_more [] line rest = append_assoc line (10 ∷ []) rest
with_feeds_more (first ∷ lines) line rest =
    append_assoc first (10 ∷ with_feeds (lines ++ line ∷ [])) rest ∙ ap (λ (bytes : List ℕ). first ++ 10 ∷ bytes) (with_feeds_more lines line rest)
    ∙ sym (append_assoc first (10 ∷ with_feeds lines) (line ++ 10 ∷ rest))
