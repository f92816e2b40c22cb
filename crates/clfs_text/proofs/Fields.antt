-- The number before a colon, read digit by digit.
use Rattle.std.proofs.Common.{◌≡◌, ℕ, ◌+◌, ◌-◌, ◌*◌, ◌^◌, ◌≤◌, ◌<◌, List, [], ◌∷◌, length, get_or, drop, true, false, Option, Some, None, refl, sym, ◌∙◌, ap, arith, inl, inr, drop-cons, add-one}
use Rattle.std.specs.Prelude.{if◌then◌else◌, ◌&&◌, ◌⊎◌, ◌==◌, nat_le, nat_lt}
use Rattle.std.specs.Char.{digit_value}
use Rattle.std.proofs.lemmas.Bool.{cases_Bool, cases_lt, agree_below_at, leb-true, eqb-true, eq-eqb, lt-ltb, lt-leb, le-leb}
use Rattle.std.proofs.lemmas.List.{drop_all}
use Rattle.std.proofs.Math.Bool.{and-false}
use Rattle.clfs_lsn.specs.Words.{is_lower_hex_digit, has_no_leading_zero, hex_number}
use Rattle.clfs_text.specs.Pieces.{pieces_of, BeginsWithNumber, LacksNumber}
use Rattle.clfs_text.proofs.Scans.{scan, scan_word}
use Rattle.clfs_text.proofs.Colons.{SeveralPieces, pieces_are, not_digits}

-- the number that digits before a colon make after those read so far, and what stands after the colon
abbrev pub field : ℕ → List ℕ → Option (ℕ × List ℕ)
field value [] = None
field value (b ∷ text) =
    if b == 58 then Some (value, text)
    else if is_lower_hex_digit b && nat_le (value * 16 + digit_value b) (2 ^ 32 - 1) then field (value * 16 + digit_value b) text
    else None

-- a colon
pub field_colon : (value : ℕ) (text : List ℕ) (i : ℕ) → i < length text → get_or text i 0 ≡ 58
    → field value (drop i text) ≡ Some (value, drop (i + 1) text)
field_colon value text i within colon =
    let t : (get_or text i 0 == 58) ≡ true = eq-eqb (get_or text i 0) 58 colon in rw (add-one, drop-cons text i 0, t) refl

-- one digit more
pub field_step : (value : ℕ) (text : List ℕ) (i : ℕ) → i < length text → (get_or text i 0 == 58) ≡ false → is_lower_hex_digit (get_or text i 0) ≡ true
    → value * 16 + digit_value (get_or text i 0) ≤ 2 ^ 32 - 1
    → field value (drop i text) ≡ field (value * 16 + digit_value (get_or text i 0)) (drop (i + 1) text)
field_step value text i within other good small =
    let t : nat_le (value * 16 + digit_value (get_or text i 0)) (2 ^ 32 - 1) ≡ true = le-leb (value * 16 + digit_value (get_or text i 0)) (2 ^ 32
    - 1) small in
    rw (add-one, drop-cons text i 0, other, good, t) refl

-- a byte that is neither a digit nor a colon
pub field_bad : (value : ℕ) (text : List ℕ) (i : ℕ) → i < length text → (get_or text i 0 == 58) ≡ false → is_lower_hex_digit (get_or text i 0) ≡ false
    → field value (drop i text) ≡ None
field_bad value text i within other bad = rw (drop-cons text i 0, other, bad) refl

-- a digit that makes the number too large
pub field_large : (value : ℕ) (text : List ℕ) (i : ℕ) → i < length text → (get_or text i 0 == 58) ≡ false
    → 2 ^ 32 - 1 < value * 16 + digit_value (get_or text i 0) → field value (drop i text) ≡ None
field_large value text i within other large =
    let t : nat_le (value * 16 + digit_value (get_or text i 0)) (2 ^ 32 - 1) ≡ false = lt-leb (value * 16 + digit_value (get_or text i 0)) (2 ^ 32
    - 1) large in
    elim (cases_Bool (is_lower_hex_digit (get_or text i 0))) [
      | inl good ↦ rw (drop-cons text i 0, other, good, t) refl
      | inr bad ↦ rw (drop-cons text i 0, other, bad) refl
    ]

-- no colon came
pub field_end : (value : ℕ) (text : List ℕ) (i : ℕ) → length text ≤ i → field value (drop i text) ≡ None
field_end value text i past = rw (drop_all i text past) refl

abbrev Reads : ℕ → ℕ → List ℕ → List ℕ → Type 0
Reads value number behind text =
    (piece : List ℕ) × (pieces_of text ≡ piece ∷ pieces_of behind) × (scan is_lower_hex_digit 16 (2 ^ 32 - 1) value piece ≡ Some number)

number_of : Option (ℕ × List ℕ) → ℕ
number_of None = 0
number_of (Some found) = found.0

behind_of : Option (ℕ × List ℕ) → List ℕ
behind_of None = []
behind_of (Some found) = found.1

same_found : (a b : ℕ) (xs ys : List ℕ) → ◌≡◌ {A = Option (ℕ × List ℕ)} (Some (a, xs)) (Some (b, ys)) → (a ≡ b) × (xs ≡ ys)
unfolding number_of behind_of
same_found a b xs ys e = (ap number_of e, ap behind_of e)

field_more : (value b : ℕ) (text : List ℕ) → (b == 58) ≡ false → (is_lower_hex_digit b && nat_le (value * 16 + digit_value b) (2 ^ 32 - 1)) ≡ true
    → field value (b ∷ text) ≡ field (value * 16 + digit_value b) text
field_more value b text other good = rw (other, good) refl

reads_more : (value number b : ℕ) (text behind : List ℕ) → (b == 58) ≡ false
    → (is_lower_hex_digit b && nat_le (value * 16 + digit_value b) (2 ^ 32 - 1)) ≡ true → Reads (value * 16 + digit_value b) number behind text
    → Reads value number behind (b ∷ text)
reads_more value number b text behind other good (piece, split, is) = (b ∷ piece, rw (other, split) refl, rw good is)

reads_there : (value number : ℕ) (text behind : List ℕ) → field value text ≡ Some (number, behind) → Reads value number behind text
reads_there value number [] behind e = absurd (cc e)
reads_there value number (b ∷ text) behind e = elim (cases_Bool (b == 58)) [
  | inl colon ↦
      let same = same_found value number text behind (rw colon at e) in
      ([], rw (colon, same.1) refl, ap Some same.0)
  | inr other ↦ elim (cases_Bool (is_lower_hex_digit b && nat_le (value * 16 + digit_value b) (2 ^ 32 - 1))) [
    | inl good ↦
        reads_more value number b text behind other good (reads_there (value * 16 + digit_value b) number text behind (sym (field_more value b text
        other good) ∙ e))
    | inr bad ↦ absurd (let e' = rw (other, bad) at e in (cc e'))
  ]
]

abbrev Lacks : ℕ → List ℕ → Type 0
Lacks value text =
    (pieces_of text ≡ text ∷ [])
    ⊎ ((piece : List ℕ) × (more : List (List ℕ)) × (pieces_of text ≡ piece ∷ more) × (scan is_lower_hex_digit 16 (2 ^ 32 - 1) value piece ≡ None))

first_piece : (b : ℕ) (text : List ℕ) → (b == 58) ≡ false → (pieces_of text ≡ text ∷ []) ⊎ SeveralPieces text
    → (piece : List ℕ) × (more : List (List ℕ)) × (pieces_of (b ∷ text) ≡ (b ∷ piece) ∷ more)
first_piece b text other (inl one) = (text, [], rw (other, one) refl)
first_piece b text other (inr (p, q, more, split, bad)) = (p, q ∷ more, rw (other, split) refl)

lacks_more : (value b : ℕ) (text : List ℕ) → (b == 58) ≡ false → (is_lower_hex_digit b && nat_le (value * 16 + digit_value b) (2 ^ 32 - 1)) ≡ true
    → Lacks (value * 16 + digit_value b) text → Lacks value (b ∷ text)
lacks_more value b text other good (inl one) = inl (rw (other, one) refl)
lacks_more value b text other good (inr (piece, more, split, none)) = inr (b ∷ piece, more, rw (other, split) refl, rw good none)

lacks_there : (value : ℕ) (text : List ℕ) → field value text ≡ None → Lacks value text
lacks_there value [] e = inl refl
lacks_there value (b ∷ text) e = elim (cases_Bool (b == 58)) [
  | inl colon ↦ absurd (let e' = rw colon at e in (cc e'))
  | inr other ↦ elim (cases_Bool (is_lower_hex_digit b && nat_le (value * 16 + digit_value b) (2 ^ 32 - 1))) [
    | inl good ↦ lacks_more value b text other good (lacks_there (value * 16 + digit_value b) text (rw (other, good) at e))
    | inr bad ↦ let first = first_piece b text other (pieces_are text) in inr (b ∷ first.0, first.1, first.2, rw bad refl)
  ]
]

-- a digit is no colon
no_colon : (b : ℕ) → is_lower_hex_digit b ≡ true → (b == 58) ≡ false
no_colon b good = elim (cases_Bool (b == 58)) [
  | inl colon ↦ let is : b ≡ 58 = eqb-true b 58 colon in absurd (let bad = rw is at good in (cc bad))
  | inr other ↦ other
]

-- a number whose first digit is no zero
led : (b : ℕ) (piece : List ℕ) → is_lower_hex_digit b ≡ true → (b == 48) ≡ false → digit_value b ≤ 2 ^ 32 - 1
    → hex_number (b ∷ piece) ≡ scan is_lower_hex_digit 16 (2 ^ 32 - 1) (digit_value b) piece
led b piece good zero small =
    let some : nat_lt 0 (length (b ∷ piece)) ≡ true = lt-ltb 0 (length (b ∷ piece)) (omega arith) in
    let begins : (nat_lt 0 (length (b ∷ piece)) && has_no_leading_zero (b ∷ piece)) ≡ true = elim (cases_Bool (length (b ∷ piece) == 1)) [
      | inl one ↦ rw (some, one) refl
      | inr more ↦ rw (some, more, zero) refl
    ] in
    let value : 0 * 16 + digit_value b ≡ digit_value b = omega arith in
    let fits : nat_le (digit_value b) (2 ^ 32 - 1) ≡ true = le-leb (digit_value b) (2 ^ 32 - 1) small in
    sym (scan_word is_lower_hex_digit 16 (2 ^ 32 - 1) (b ∷ piece) (omega arith) begins) ∙ rw (value, good, fits) refl

whole : (text : List ℕ) → 0 < length text → text ≡ get_or text 0 0 ∷ drop 1 text
whole [] some = absurd (omega arith)
whole (b ∷ text) some = refl

pub number_read : (text rest behind : List ℕ) (number : ℕ) → 0 < length text → rest ≡ drop 1 text → is_lower_hex_digit (get_or text 0 0) ≡ true
    → (get_or text 0 0 == 48) ≡ false → digit_value (get_or text 0 0) ≤ 2 ^ 32 - 1 → field (digit_value (get_or text 0 0)) rest ≡ Some (number, behind)
    → BeginsWithNumber number behind text
number_read [] rest behind number some back good zero small e = absurd (omega arith)
number_read (b ∷ text) rest behind number some back good zero small e =
    let found = reads_there (digit_value b) number text behind (rw back at e) in
    (b ∷ found.0, rw (no_colon b good, found.1) refl, led b found.0 good zero small ∙ found.2)

lacks_led : (b : ℕ) (text : List ℕ) → is_lower_hex_digit b ≡ true → (b == 48) ≡ false → digit_value b ≤ 2 ^ 32 - 1 → Lacks (digit_value b) text
    → LacksNumber (b ∷ text)
lacks_led b text good zero small (inl one) = inl (rw (no_colon b good, one) refl)
lacks_led b text good zero small (inr (piece, more, split, none)) =
    inr (b ∷ piece, more, rw (no_colon b good, split) refl, led b piece good zero small ∙ none)

pub number_missing : (text rest : List ℕ) → 0 < length text → rest ≡ drop 1 text → is_lower_hex_digit (get_or text 0 0) ≡ true
    → (get_or text 0 0 == 48) ≡ false → digit_value (get_or text 0 0) ≤ 2 ^ 32 - 1 → field (digit_value (get_or text 0 0)) rest ≡ None
    → LacksNumber text
number_missing [] rest some back good zero small e = absurd (omega arith)
number_missing (b ∷ text) rest some back good zero small e =
    lacks_led b text good zero small (lacks_there (digit_value b) text (rw back at e))

-- the first byte is no digit
pub no_first : (text : List ℕ) → 0 < length text → is_lower_hex_digit (get_or text 0 0) ≡ false → LacksNumber text
no_first [] some bad = absurd (omega arith)
no_first (b ∷ text) some bad = elim (cases_Bool (b == 58)) [
  | inl colon ↦ inr ([], pieces_of text, rw colon refl, refl)
  | inr other ↦
      let first = first_piece b text other (pieces_are text) in
      inr (b ∷ first.0, first.1, first.2, not_digits (b ∷ first.0) (rw bad refl))
]

-- a zero before a colon
pub zero_read : (rest behind : List ℕ) → 0 < length rest → get_or rest 0 0 ≡ 58 → behind ≡ drop 1 rest → BeginsWithNumber 0 behind (48 ∷ rest)
zero_read [] behind some colon back = absurd (omega arith)
zero_read (b ∷ rest) behind some colon back = (48 ∷ [], rw (colon, back) refl, refl)

-- a text that isn't empty
pub some_byte : (text : List ℕ) → (length text == 0) ≡ false → 0 < length text
some_byte [] e = absurd (cc)
some_byte (b ∷ text) e = omega arith

above : (b : ℕ) → 102 < b → is_lower_hex_digit b ≡ false
above b h =
    let t : nat_le b 57 ≡ false = lt-leb b 57 (omega arith) in
    let u : nat_le b 102 ≡ false = lt-leb b 102 h in
    rw (t, u, and-false, and-false) refl

-- a digit's value is small
pub digit_small : (b : ℕ) → is_lower_hex_digit b ≡ true → digit_value b ≤ 2 ^ 32 - 1
digit_small b good = elim (cases_lt 102 b) [
  | inl high ↦ absurd (let bad = above b high in (cc (bad, good)))
  | inr low ↦ leb-true (digit_value b) (2 ^ 32 - 1) (agree_below_at (λ y. nat_le (digit_value y) (2 ^ 32 - 1)) (λ y. true) 103 b refl (omega arith))
]
