-- Pairs of hexadecimal digits, one after the other.
use Rattle.std.proofs.Common.{◌≡◌, ℕ, suc, ◌+◌, ◌-◌, ◌*◌, ◌%◌, ◌≤◌, ◌<◌, List, [], ◌∷◌, ◌++◌, length, get_or, take, drop, set, true, false, Option, Some, None, Result, Ok, Err, refl, sym, ◌∙◌, ap, arith, inl, inr, drop-cons, drop-drop, add-one, append_assoc}
use Rattle.std.specs.Prelude.{if◌then◌else◌, ◌&&◌, ◌||◌, ◌==◌, ◌⊎◌, nat_lt, nat_le, max, MatchBool}
use Rattle.std.specs.Option.{option_map}
use Rattle.std.specs.Result.{result_ok}
use Rattle.std.proofs.lemmas.Bool.{cases_Bool, cases_lt, and_parts, leb-true, leb-false, lt-ltb, le-ltb, ne_eqb}
use Rattle.hex.specs.declared.error.FromHexError.{FromHexError}
use Rattle.hex.specs.Hex.{◌>>=◌, decode_of, decode_pairs, hex_digit_value}
use Rattle.std.proofs.lemmas.List.{drop_all, take_all, append-nil}
use Rattle.std.proofs.Math.Seq.{take-suc-set}
use Rattle.clfs_text.specs.Nibbles.{nibble_of}

-- the bytes of pairs of digits
abbrev pub pairs : List ℕ → Option (List ℕ)
pairs [] = Some []
pairs (digit ∷ []) = None
pairs (high ∷ low ∷ rest) =
    if nat_lt 15 (nibble_of high) || nat_lt 15 (nibble_of low) then None
    else option_map (λ bytes. (nibble_of high * 16 + nibble_of low) ∷ bytes) (pairs rest)

same : (x v : ℕ) → ◌≡◌ {A = Option ℕ} (Some x) (Some v) → x ≡ v
same x v e = cc

-- a digit's value is at most 15
small : (c v : ℕ) → hex_digit_value c ≡ Some v → nat_lt 15 v ≡ false
small c v e =
    elim (cases_Bool (nat_le 65 c && nat_le c 70)) [
      | inl a ↦
          let is = same (c - 55) v (rw a at e) in
          let high = leb-true c 70 (and_parts (nat_le 65 c) (nat_le c 70) a).1 in
          le-ltb 15 v (omega (arith, is, high))
      | inr a ↦ elim (cases_Bool (nat_le 97 c && nat_le c 102)) [
        | inl b ↦
            let is = same (c - 87) v (rw (a, b) at e) in
            let high = leb-true c 102 (and_parts (nat_le 97 c) (nat_le c 102) b).1 in
            le-ltb 15 v (omega (arith, is, high))
        | inr b ↦ elim (cases_Bool (nat_le 48 c && nat_le c 57)) [
          | inl d ↦
              let is = same (c - 48) v (rw (a, b, d) at e) in
              let high = leb-true c 57 (and_parts (nat_le 48 c) (nat_le c 57) d).1 in
              le-ltb 15 v (omega (arith, is, high))
          | inr d ↦ absurd (let e' = rw (a, b, d) at e in (cc e'))
        ]
      ]
    ]

onto : (b : ℕ) (more : Result (List ℕ) FromHexError) → result_ok (more >>= (λ bytes. Ok (b ∷ bytes))) ≡ option_map (λ bytes. b
    ∷ bytes) (result_ok more)
onto b (Ok more) = refl
onto b (Err e) = refl

one_pair : (i high low : ℕ) (rest : List ℕ) (more : Option (List ℕ)) (h l : Option ℕ) → hex_digit_value high ≡ h → hex_digit_value low ≡ l
    → result_ok (decode_pairs (i + 2) rest) ≡ more
    → result_ok (decode_pairs i (high ∷ low ∷ rest))
    ≡ (if nat_lt 15 (nibble_of high) || nat_lt 15 (nibble_of low) then None else option_map (λ bytes. (nibble_of high * 16 + nibble_of low)
    ∷ bytes) more)
unfolding decode_pairs
one_pair i high low rest more None l a b c = rw a refl
one_pair i high low rest more (Some h) None a b c = let t = small high h a in rw (a, b, t) refl
one_pair i high low rest more (Some h) (Some l) a b c =
    let t = small high h a in let u = small low l b in rw (a, b, t, u, ← c) (onto (h * 16 + l) (decode_pairs (i + 2) rest))

-- what decoding gives, where it gives bytes
pairs_are : (i : ℕ) (text : List ℕ) → result_ok (decode_pairs i text) ≡ pairs text
unfolding decode_pairs
pairs_are i [] = refl
pairs_are i (digit ∷ []) = refl
pairs_are i (high ∷ low ∷ rest) =
    one_pair i high low rest (pairs rest) (hex_digit_value high) (hex_digit_value low) refl refl (pairs_are (i + 2) rest)

pub decoded : (text : List ℕ) (n : ℕ) → length text ≡ 2 * n → result_ok (decode_of text) ≡ pairs text
decoded text n even = let t : (length text % 2 == 1) ≡ false = ne_eqb (length text % 2) 1 (λ e. omega (arith, e, even)) in rw t (pairs_are 0 text)

two_more : (text : List ℕ) (i : ℕ) → 2 * i + 1 < length text
    → drop (2 * i) text ≡ get_or text (2 * i) 0 ∷ get_or text (2 * i + 1) 0 ∷ drop (2 * (i + 1)) text
two_more text i within =
    let a : drop (2 * i) text ≡ get_or text (2 * i) 0 ∷ drop (suc (2 * i)) text = drop-cons text (2 * i) 0 (omega arith) in
    let b : drop (suc (2 * i)) text ≡ get_or text (suc (2 * i)) 0 ∷ drop (suc (suc (2 * i))) text = drop-cons text (suc (2 * i)) 0 (omega arith) in
    let k : 2 * i + 1 ≡ suc (2 * i) = omega arith in
    let m : 2 * (i + 1) ≡ suc (suc (2 * i)) = omega arith in
    rw (a, b, k, m) refl

-- bytes after others
abbrev pub behind : List ℕ → Option (List ℕ) → Option (List ℕ)
behind bytes more = option_map (λ rest. bytes ++ rest) more

behind_more : (bytes : List ℕ) (b : ℕ) (more : Option (List ℕ)) → behind (bytes ++ b ∷ []) more ≡ behind bytes (option_map (λ rest. b ∷ rest) more)
behind_more bytes b None = refl
behind_more bytes b (Some more) = rw append_assoc refl

-- a pair of digits
pub pair_step : (text out : List ℕ) (i high low : ℕ) → length text ≡ 2 * length out → i < length out → high ≡ nibble_of (get_or text (2 * i) 0)
    → low ≡ nibble_of (get_or text (2 * i + 1) 0) → high ≤ 15 → low ≤ 15 → pairs text ≡ behind (take i out) (pairs (drop (2 * i) text))
    → pairs text ≡ behind (take (i + 1) (set out i (high * 16 + low))) (pairs (drop (2 * (i + 1)) text))
pair_step text out i high low even within h l hs ls so_far =
    let t : nat_lt 15 (nibble_of (get_or text (2 * i) 0)) ≡ false = le-ltb 15 (nibble_of (get_or text (2 * i) 0)) (omega (arith, h, hs)) in
    let u : nat_lt 15 (nibble_of (get_or text (2 * i + 1) 0)) ≡ false = le-ltb 15 (nibble_of (get_or text (2 * i + 1) 0)) (omega (arith, l, ls)) in
    let two = two_more text i (omega (arith, even)) in
    let this : pairs (drop (2 * i) text) ≡ option_map (λ rest. (high * 16 + low)
    ∷ rest) (pairs (drop (2 * (i + 1)) text)) = rw (two, t, u, ← h, ← l) refl in
    let longer : take (i + 1) (set out i (high * 16 + low)) ≡ take i out ++ (high * 16 + low) ∷ [] =
    rw add-one (take-suc-set out i (high * 16 + low) within) in
    rw longer (so_far ∙ ap (behind (take i out)) this ∙ sym (behind_more (take i out) (high * 16 + low) (pairs (drop (2 * (i + 1)) text))))

no_pair : (high low : ℕ) (rest : List ℕ) → (15 < nibble_of high) ⊎ (15 < nibble_of low) → pairs (high ∷ low ∷ rest) ≡ None
no_pair high low rest (inl h) = let t : nat_lt 15 (nibble_of high) ≡ true = lt-ltb 15 (nibble_of high) h in rw t refl
no_pair high low rest (inr l) =
    let u : nat_lt 15 (nibble_of low) ≡ true = lt-ltb 15 (nibble_of low) l in
    elim (cases_Bool (nat_lt 15 (nibble_of high))) [
      | inl t ↦ rw t refl
      | inr t ↦ rw (t, u) refl
    ]

-- a byte that is no digit
pub pair_bad : (text out : List ℕ) (i : ℕ) → length text ≡ 2 * length out → i < length out
    → (15 < nibble_of (get_or text (2 * i) 0)) ⊎ (15 < nibble_of (get_or text (2 * i + 1) 0))
    → pairs text ≡ behind (take i out) (pairs (drop (2 * i) text)) → pairs text ≡ None
pair_bad text out i even within bad so_far =
    let two = two_more text i (omega (arith, even)) in
    let none : pairs (drop (2 * i) text) ≡ None = rw two (no_pair (get_or text (2 * i) 0) (get_or text (2 * i + 1) 0) (drop (2 * (i + 1)) text)
    bad) in
    so_far ∙ ap (behind (take i out)) none

-- all pairs were read
pub pairs_end : (text out : List ℕ) (i : ℕ) → length text ≡ 2 * length out → length out ≤ i
    → pairs text ≡ behind (take i out) (pairs (drop (2 * i) text))
    → pairs text ≡ Some out
pairs_end text out i even past so_far =
    let none : drop (2 * i) text ≡ [] = drop_all (2 * i) text (omega (arith, even)) in
    let all : take i out ≡ out = take_all i out past in
    let whole = rw (none, all) at so_far in
    whole ∙ ap Some (append-nil out)

-- the two digits at the front of what is left
pub first_two : (text rest pair : List ℕ) (i : ℕ) → rest ≡ drop (2 * i) text → pair ≡ take 2 rest → 2 * i + 1 < length text
    → (get_or pair 0 0 ≡ get_or text (2 * i) 0) × (get_or pair 1 0 ≡ get_or text (2 * i + 1) 0)
first_two text rest pair i behind front within = let two = two_more text i within in (rw (front, behind, two) refl, rw (front, behind, two) refl)

-- what is left after them
pub two_behind : (text rest after : List ℕ) (i : ℕ) → rest ≡ drop (2 * i) text → after ≡ drop 2 rest → after ≡ drop (2 * (i + 1)) text
two_behind text rest after i behind back =
    back ∙ ap (drop 2) behind ∙ drop-drop 2 (2 * i) text ∙ ap (λ n. drop n text) {x = 2 * i + 2} {y = 2 * (i + 1)} (omega arith)

-- what is known of a byte by the number that was read for it
abbrev pub IsRead : ℕ → ℕ → Type 0
IsRead byte read = (read ≤ 15 → nibble_of byte ≡ read) × (15 < read → nibble_of byte ≡ 255)

-- a pair of bytes, as long as all were digits
pub good_pair : (text out : List ℕ) (i high low greatest : ℕ) → length text ≡ 2 * length out → i < length out
    → IsRead (get_or text (2 * i) 0) high → IsRead (get_or text (2 * i + 1) 0) low
    → (greatest ≤ 15 → pairs text ≡ behind (take i out) (pairs (drop (2 * i) text))) → max greatest (max high low) ≤ 15
    → pairs text ≡ behind (take (i + 1) (set out i (high % 16 * 16 + low % 16))) (pairs (drop (2 * (i + 1)) text))
good_pair text out i high low greatest even within h l so_far small =
    let hs : high ≤ 15 = omega arith in
    let ls : low ≤ 15 = omega arith in
    let byte : high % 16 * 16 + low % 16 ≡ high * 16 + low = omega arith in
    rw byte (pair_step text out i high low even within (sym (h.0 hs)) (sym (l.0 ls)) hs ls (so_far (omega arith)))

-- once a byte was no digit
pub bad_pair : (text out : List ℕ) (i high low greatest : ℕ) → length text ≡ 2 * length out → i < length out
    → IsRead (get_or text (2 * i) 0) high → IsRead (get_or text (2 * i + 1) 0) low
    → (greatest ≤ 15 → pairs text ≡ behind (take i out) (pairs (drop (2 * i) text))) → (15 < greatest → pairs text ≡ None)
    → 15 < max greatest (max high low) → pairs text ≡ None
bad_pair text out i high low greatest even within h l so_far bad large = elim (cases_lt 15 greatest) [
  | inl before ↦ bad before
  | inr before ↦ elim (cases_lt 15 high) [
    | inl first ↦ let e = h.1 first in pair_bad text out i even within (inl (omega (arith, e))) (so_far before)
    | inr first ↦
        let second : 15 < low = omega arith in
        let e = l.1 second in pair_bad text out i even within (inr (omega (arith, e))) (so_far before)
  ]
]

-- what the greatest number shows in the end
pub all_read : (text out : List ℕ) (i greatest : ℕ) → length text ≡ 2 * length out → length out ≤ i
    → (greatest ≤ 15 → pairs text ≡ behind (take i out) (pairs (drop (2 * i) text))) → (15 < greatest → pairs text ≡ None)
    → MatchBool (nat_le greatest 15) (result_ok (decode_of text) ≡ Some out) (result_ok (decode_of text) ≡ None)
all_read text out i greatest even past so_far bad = elim (cases_Bool (nat_le greatest 15)) [
  | inl t ↦ rw t (decoded text (length out) even ∙ pairs_end text out i even past (so_far (leb-true greatest 15 t)))
  | inr t ↦ rw t (decoded text (length out) even ∙ bad (leb-false greatest 15 t))
]
