-- Numbers read digit by digit.
use Rattle.std.proofs.Common.{◌≡◌, ℕ, ◌+◌, ◌*◌, ◌≤◌, ◌<◌, List, [], ◌∷◌, length, get_or, drop, Bool, true, false, Option, Some, None, refl, ◌∙◌, arith, inl, inr, drop-cons, add-one}
use Rattle.std.specs.Prelude.{if◌then◌else◌, ◌&&◌, nat_le, nat_lt}
use Rattle.std.specs.Char.{digit_value}
use Rattle.std.specs.List.{list_all}
use Rattle.std.specs.Str.Parse.{digits_value_after}
use Rattle.std.proofs.lemmas.Bool.{cases_Bool, lt-ltb, lt-leb, leb-true, leb-false, le-leb, and_parts}
use Rattle.std.proofs.lemmas.Option.{cond_some}
use Rattle.std.proofs.Math.Nat.{mul-le-mul_left}
use Rattle.std.proofs.Math.Bool.{and-false}
use Rattle.clfs_lsn.specs.Words.{number_of_word, has_no_leading_zero}

-- the number that digits make after those read so far, while it is at most so much
abbrev pub scan : (ℕ → Bool) → ℕ → ℕ → ℕ → List ℕ → Option ℕ
scan is_digit base most value [] = Some value
scan is_digit base most value (b ∷ bytes) =
    if is_digit b && nat_le (value * base + digit_value b) most then scan is_digit base most (value * base + digit_value b) bytes else None

more_is_larger : (base value : ℕ) (bytes : List ℕ) → 1 ≤ base → value ≤ digits_value_after base value bytes
more_is_larger base value [] h = omega arith
more_is_larger base value (b ∷ bytes) h =
    let rest : value * base + digit_value b ≤ digits_value_after base (value * base + digit_value b) bytes = more_is_larger base (value * base +
    digit_value b) bytes h in
    let grows : value * 1 ≤ value * base = mul-le-mul_left value h in
    omega (arith, rest, grows)

-- what is read digit by digit is what the digits spell
pub scan_is : (is_digit : ℕ → Bool) (base most value : ℕ) (bytes : List ℕ) → 1 ≤ base → value ≤ most
    → scan is_digit base most value bytes
    ≡ (if list_all is_digit bytes && nat_le (digits_value_after base value bytes) most then Some (digits_value_after base value bytes) else None)
scan_is is_digit base most value [] h small = let t : nat_le value most ≡ true = le-leb value most small in rw t refl
scan_is is_digit base most value (b ∷ bytes) h small =
    elim (cases_Bool (is_digit b)) [
      | inr bad ↦ rw bad refl
      | inl good ↦ elim (cases_Bool (nat_le (value * base + digit_value b) most)) [
        | inl fits ↦ rw (good, fits) (scan_is is_digit base most (value * base + digit_value b) bytes h (leb-true (value * base + digit_value b)
            most fits))
        | inr large ↦
            let above : most < value * base + digit_value b = leb-false (value * base + digit_value b) most large in
            let rest : value * base + digit_value b ≤ digits_value_after base (value * base + digit_value b) bytes = more_is_larger base (value *
            base + digit_value b) bytes h in
            let t : nat_le (digits_value_after base (value * base + digit_value b) bytes) most ≡ false
            = lt-leb (digits_value_after base (value * base + digit_value b) bytes) most (omega arith) in
            rw (good, large, t, and-false) refl
      ]
    ]

-- a word that begins as a number does
pub scan_word : (is_digit : ℕ → Bool) (base most : ℕ) (word : List ℕ) → 1 ≤ base → (nat_lt 0 (length word) && has_no_leading_zero word) ≡ true
    → scan is_digit base most 0 word ≡ number_of_word is_digit base most word
scan_word is_digit base most [] h begins = absurd (cc)
scan_word is_digit base most (b ∷ word) h begins =
    let w : List ℕ = b ∷ word in
    let parts = and_parts (nat_lt 0 (length w)) (has_no_leading_zero w) begins in
    let read = scan_is is_digit base most 0 w h (omega arith) in
    elim (cases_Bool (list_all is_digit w)) [
      | inl good ↦ read ∙ rw (good, parts.0, parts.1) refl
      | inr bad ↦ read ∙ rw (bad, parts.0) refl
    ]

-- one digit more
pub scan_step : (is_digit : ℕ → Bool) (base most value : ℕ) (word : List ℕ) (i : ℕ) → i < length word → is_digit (get_or word i 0) ≡ true
    → value * base + digit_value (get_or word i 0) ≤ most
    → scan is_digit base most value (drop i word) ≡ scan is_digit base most (value * base + digit_value (get_or word i 0)) (drop (i + 1) word)
scan_step is_digit base most value word i within good small =
    let t : nat_le (value * base + digit_value (get_or word i 0)) most ≡ true = le-leb (value * base + digit_value (get_or word i 0)) most small in
    rw (add-one, drop-cons word i 0, good, t) refl

-- a digit that makes the number too large
pub scan_large : (is_digit : ℕ → Bool) (base most value : ℕ) (word : List ℕ) (i : ℕ) → i < length word
    → most < value * base + digit_value (get_or word i 0)
    → scan is_digit base most value (drop i word) ≡ None
scan_large is_digit base most value word i within large =
    let t : nat_le (value * base + digit_value (get_or word i 0)) most ≡ false = lt-leb (value * base + digit_value (get_or word i 0)) most large in
    elim (cases_Bool (is_digit (get_or word i 0))) [
      | inl good ↦ rw (drop-cons word i 0, good, t) refl
      | inr bad ↦ rw (drop-cons word i 0, bad) refl
    ]

-- a digit's value, where there is one
pub digit_there : (is_digit : Bool) (value digit : ℕ) → (if is_digit then Some value else None) ≡ Some digit → (is_digit ≡ true) × (value ≡ digit)
digit_there is_digit value digit e = cond_some is_digit value digit e

pub no_digit : (is_digit : Bool) (value : ℕ) → (if is_digit then Some value else None) ≡ None → is_digit ≡ false
no_digit true value e = absurd (cc)
no_digit false value e = refl
