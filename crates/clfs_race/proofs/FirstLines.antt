-- The lines of bytes of which the first is known, and what the limits say of them.
use Rattle.clfs_race.proofs.Words.{◌≡◌, ℕ, zero, suc, ◌+◌, ◌-◌, ◌≤◌, ◌<◌, List, [], ◌∷◌, ◌++◌, length, take, Bool, true, false, refl, sym, ap, ◌∙◌, arith}
use Rattle.clfs_race.proofs.Words.{inl, inr, nat_le, ◌==◌, ◌&&◌, slice_split, onto_first, list_all, cases_Bool, le-leb, ne_eqb, lines_of, race_limits}
use Rattle.clfs_race.proofs.Words.{ended_lines, is_feed, HasNoFeed}
use Rattle.std.specs.Prelude.{take_while}
use Rattle.std.proofs.lemmas.Bool.{lt-leb}
use Rattle.std.proofs.lemmas.List.Sums.{take_while-cons}
use Rattle.std.proofs.lemmas.List.Splits.{slice_split_none, slice_split_at}
use Rattle.clfs_model.specs.Lines.{whole_lines}
use Rattle.clfs_model.specs.Accepted.{is_within, without_last}

-- ---- parts

-- there is always a part
abbrev HasPart : List (List ℕ) → Type 0
HasPart parts = (part : List ℕ) × (others : List (List ℕ)) × (parts ≡ part ∷ others)

onto : (x : ℕ) (parts : List (List ℕ)) → HasPart parts → HasPart (onto_first x parts)
onto x [] h = ([], [], absurd (cc))
onto x (part ∷ parts) h = (x ∷ part, parts, refl)

some_part : (bytes : List ℕ) → HasPart (slice_split is_feed bytes)
some_part [] = ([], [], refl)
some_part (b ∷ bytes) = elim (cases_Bool (is_feed b)) [
  | inl t ↦ rw t ([], slice_split is_feed bytes, refl)
  | inr t ↦ rw t (onto b (slice_split is_feed bytes) (some_part bytes))
]

whole_more : (line : List ℕ) (parts : List (List ℕ)) → HasPart parts → whole_lines (line ∷ parts) ≡ line ∷ whole_lines parts
whole_more line parts h = rw h.2 refl

ended_more : (line : List ℕ) (parts : List (List ℕ)) → HasPart parts → without_last (line ∷ parts) ≡ line ∷ without_last parts
ended_more line parts h = rw h.2 refl

-- ---- the first line

-- what was split is a line, its line feed, and the rest
abbrev pub Splits : List ℕ → List ℕ → List ℕ → Type 0
Splits bytes line rest = HasNoFeed line × (bytes ≡ line ++ 10 ∷ rest)

first_part : (bytes line rest : List ℕ) → Splits bytes line rest → slice_split is_feed bytes ≡ line ∷ slice_split is_feed rest
first_part bytes line rest split = ap (λ (b : List ℕ). slice_split is_feed b) split.1 ∙ slice_split_at is_feed line 10 rest split.0 refl

-- it comes before the lines of the rest
pub first_line : (bytes line rest : List ℕ) → Splits bytes line rest → lines_of bytes ≡ line ∷ lines_of rest
first_line bytes line rest split =
    ap (λ (parts : List (List ℕ)). whole_lines parts) (first_part bytes line rest split) ∙ whole_more line (slice_split is_feed rest) (some_part rest)

pub first_ended : (bytes line rest : List ℕ) → Splits bytes line rest → ended_lines bytes ≡ line ∷ ended_lines rest
first_ended bytes line rest split =
    ap (λ (parts : List (List ℕ)). without_last parts) (first_part bytes line rest split) ∙ ended_more line (slice_split is_feed rest) (some_part rest)

-- bytes without a line feed are one line, or none
pub last_line : (bytes : List ℕ) → HasNoFeed bytes → 0 < length bytes → lines_of bytes ≡ bytes ∷ []
last_line bytes none some =
    let not_empty : (length bytes == 0) ≡ false = ne_eqb (length bytes) 0 (λ z. omega (arith, z, some)) in
    ap (λ (parts : List (List ℕ)). whole_lines parts) (slice_split_none is_feed bytes none) ∙ rw not_empty refl

pub no_line : (bytes : List ℕ) → length bytes ≡ 0 → lines_of bytes ≡ []
no_line [] none = refl
no_line (b ∷ bytes) none = absurd (omega (arith, none))

-- and no line of theirs has ended
pub none_ended : (bytes : List ℕ) → HasNoFeed bytes → ended_lines bytes ≡ []
none_ended bytes none = ap (λ (parts : List (List ℕ)). without_last parts) (slice_split_none is_feed bytes none)

-- ---- within the limits

-- a line that isn't too long
abbrev pub is_short : List ℕ → Bool
is_short line = nat_le (length line) race_limits.line

-- all lines are as short as those of the rest, after so many
pub record AreCounted (bytes rest : List ℕ) (count : ℕ) : Type 0 where
  pub lines : length (lines_of bytes) ≡ count + length (lines_of rest)
  pub short : list_all is_short (lines_of bytes) ≡ list_all is_short (lines_of rest)
  pub few : count + length rest ≤ length bytes

pub counted_none : (bytes : List ℕ) → AreCounted bytes bytes 0
counted_none bytes = record { lines = omega arith; short = refl; few = omega arith }

pub counted_more : (bytes rest line after : List ℕ) (count : ℕ) → AreCounted bytes rest count → Splits rest line after → length line ≤ race_limits.line
    → length after < length rest → AreCounted bytes after (count + 1)
counted_more bytes rest line after count so_far split small smaller =
    let t : is_short line ≡ true = le-leb (length line) race_limits.line small in
    let lines = first_line rest line after split in
    let many = ap length lines in record {
      lines = omega (arith, so_far.lines, many);
      short = so_far.short ∙ ap (λ (ls : List (List ℕ)). list_all is_short ls) lines ∙ rw t refl;
      few = omega (arith, so_far.few, smaller);
    }

-- a line that is too long passes a limit
pub long_is_past : (bytes rest line after : List ℕ) (count : ℕ) → AreCounted bytes rest count → Splits rest line after → race_limits.line < length line
    → is_within race_limits bytes ≡ false
long_is_past bytes rest line after count so_far split long =
    let t : is_short line ≡ false = lt-leb (length line) race_limits.line long in
    let not_all : list_all is_short (lines_of bytes) ≡ false = so_far.short ∙ ap (λ (ls : List (List ℕ)). list_all is_short ls) (first_line rest line after split) ∙ rw t refl in
    past (nat_le (length bytes) race_limits.bytes && nat_le (length (lines_of bytes)) race_limits.lines) not_all
  where
    past : (front : Bool) → list_all is_short (lines_of bytes) ≡ false → (front && list_all is_short (lines_of bytes)) ≡ false
    past true e = e
    past false e = refl

-- so do too many bytes
pub many_are_past : (bytes : List ℕ) → race_limits.bytes < length bytes → is_within race_limits bytes ≡ false
many_are_past bytes many = let t : nat_le (length bytes) race_limits.bytes ≡ false = lt-leb (length bytes) race_limits.bytes many in rw t refl

-- otherwise it is the number of lines that decides
pub ended_within : (bytes rest : List ℕ) (count : ℕ) → AreCounted bytes rest count → length bytes ≤ race_limits.bytes → length rest ≡ 0
    → is_within race_limits bytes ≡ nat_le count race_limits.lines
ended_within bytes rest count so_far small none =
    let few : nat_le (length bytes) race_limits.bytes ≡ true = le-leb (length bytes) race_limits.bytes small in
    let no = no_line rest none in
    let all : list_all is_short (lines_of bytes) ≡ true = so_far.short ∙ ap (λ (ls : List (List ℕ)). list_all is_short ls) no in
    let many : length (lines_of bytes) ≡ count = let n = ap length no in omega (arith, so_far.lines, n) in
    rw (few, all, many) (and_true (nat_le count race_limits.lines))
  where
    and_true : (b : Bool) → (b && true) ≡ b
    and_true true = refl
    and_true false = refl

pub cut_within : (bytes rest : List ℕ) (count : ℕ) → AreCounted bytes rest count → length bytes ≤ race_limits.bytes → HasNoFeed rest → 0 < length rest
    → is_within race_limits bytes ≡ (nat_le (count + 1) race_limits.lines && nat_le (length rest) race_limits.line)
cut_within bytes rest count so_far small none some =
    let few : nat_le (length bytes) race_limits.bytes ≡ true = le-leb (length bytes) race_limits.bytes small in
    let one = last_line rest none some in
    let all : list_all is_short (lines_of bytes) ≡ (is_short rest && true) = so_far.short ∙ ap (λ (ls : List (List ℕ)). list_all is_short ls) one in
    let many : length (lines_of bytes) ≡ count + 1 = let n = ap length one in omega (arith, so_far.lines, n) in
    rw (few, all, many) (ap (λ (b : Bool). nat_le (count + 1) race_limits.lines && b) (and_true (is_short rest)))
  where
    and_true : (b : Bool) → (b && true) ≡ b
    and_true true = refl
    and_true false = refl

-- a script that is within its limits has few bytes
pub within_few : (bytes : List ℕ) → is_within race_limits bytes ≡ true → race_limits.bytes < length bytes → ⊥
within_few bytes is many = let no = many_are_past bytes many in cc (is, no)

-- and short lines
pub within_short : (bytes : List ℕ) → is_within race_limits bytes ≡ true → list_all is_short (lines_of bytes) ≡ true
within_short bytes is = last (nat_le (length bytes) race_limits.bytes && nat_le (length (lines_of bytes)) race_limits.lines) (list_all is_short (lines_of bytes)) is
  where
    last : (a b : Bool) → (a && b) ≡ true → b ≡ true
    last true b e = e
    last false b e = absurd (cc e)

-- ---- lines that are answered before a limit

-- of lines the first so many that aren't too long
abbrev pub first_short : ℕ → List (List ℕ) → List (List ℕ)
first_short count lines = take count (take_while is_short lines)

pub short_more : (count : ℕ) (line : List ℕ) (lines : List (List ℕ)) → 0 < count → length line ≤ race_limits.line
    → first_short count (line ∷ lines) ≡ line ∷ first_short (count - 1) lines
short_more zero line lines some small = absurd (omega arith)
short_more (suc count) line lines some small =
    let t : is_short line ≡ true = le-leb (length line) race_limits.line small in
    let less : suc count - 1 ≡ count = omega arith in
    let kept : take_while is_short (line ∷ lines) ≡ line ∷ take_while is_short lines = take_while-cons is_short line lines ∙ rw t refl in
    ap (λ (ls : List (List ℕ)). take (suc count) ls) kept
    ∙ ap (λ (n : ℕ). line ∷ first_short n lines) {x = count} {y = suc count - 1} (sym less)

pub no_more : (count : ℕ) → first_short count [] ≡ []
no_more zero = refl
no_more (suc count) = refl

pub long_ends : (count : ℕ) (line : List ℕ) (lines : List (List ℕ)) → race_limits.line < length line → first_short count (line ∷ lines) ≡ []
long_ends count line lines long =
    let t : is_short line ≡ false = lt-leb (length line) race_limits.line long in
    let ended : take_while is_short (line ∷ lines) ≡ [] = take_while-cons is_short line lines ∙ rw t refl in
    ap (λ (ls : List (List ℕ)). take count ls) ended ∙ no_more count

pub none_left : (lines : List (List ℕ)) → first_short 0 lines ≡ []
none_left lines = refl
