-- LSNs from the pieces between the colons of a word.
use Rattle.std.proofs.Common.{◌≡◌, ℕ, List, [], ◌∷◌, length, Bool, true, false, Option, refl, inl, inr}
use Rattle.std.specs.Prelude.{◌⊎◌, Some, None, ◌==◌, nat_lt}
use Rattle.std.specs.List.{list_all}
use Rattle.std.proofs.Math.Bool.{and-false}
use Rattle.std.proofs.lemmas.Bool.{cases_Bool, eqb-true}
use Rattle.clfs_lsn.specs.Words.{is_lower_hex_digit, hex_number, lsn_of_numbers, lsn_of_parts, lsn_of_pieces, lsn_of_word}
use Rattle.clfs_text.specs.Pieces.{pieces_of, BeginsWithNumber, LacksNumber}

abbrev is_colon : ℕ → Bool
is_colon b = b == 58

-- a text with several pieces is no number, since a colon is no digit
abbrev pub SeveralPieces : List ℕ → Type 0
SeveralPieces text = (p : List ℕ) × (q : List ℕ) × (more : List (List ℕ)) × (pieces_of text ≡ p ∷ q
    ∷ more) × (list_all is_lower_hex_digit text ≡ false)

behind_colon : (text : List ℕ) (b : ℕ) → is_colon b ≡ true → (pieces_of text ≡ text ∷ []) ⊎ SeveralPieces text → SeveralPieces (b ∷ text)
behind_colon text b t (inl one) =
    let e : b ≡ 58 = eqb-true b 58 t in
    ([], text, [], rw (t, one) refl, rw e refl)
behind_colon text b t (inr (p, q, more, split, bad)) = ([], p, q ∷ more, rw (t, split) refl, rw (bad, and-false) refl)

behind_other : (text : List ℕ) (b : ℕ) → is_colon b ≡ false → (pieces_of text ≡ text ∷ []) ⊎ SeveralPieces text
    → (pieces_of (b ∷ text) ≡ (b ∷ text) ∷ []) ⊎ SeveralPieces (b ∷ text)
behind_other text b t (inl one) = inl (rw (t, one) refl)
behind_other text b t (inr (p, q, more, split, bad)) = inr (b ∷ p, q, more, rw (t, split) refl, rw (bad, and-false) refl)

pub pieces_are : (text : List ℕ) → (pieces_of text ≡ text ∷ []) ⊎ SeveralPieces text
pieces_are [] = inl refl
pieces_are (b ∷ text) = elim (cases_Bool (is_colon b)) [
  | inl t ↦ inr (behind_colon text b t (pieces_are text))
  | inr t ↦ behind_other text b t (pieces_are text)
]

pub not_digits : (text : List ℕ) → list_all is_lower_hex_digit text ≡ false → hex_number text ≡ None
not_digits [] bad = refl
not_digits (b ∷ text) bad = elim (cases_Bool (nat_lt 0 (length (b ∷ text)))) [
  | inl t ↦ rw (t, bad) refl
  | inr t ↦ rw t refl
]

no_third : (container offset : Option ℕ) → lsn_of_numbers container offset None ≡ None
no_third None offset = refl
no_third (Some c) None = refl
no_third (Some c) (Some o) = refl

-- all three numbers are there
last_there : (container offset sequence : ℕ) (p o last : List ℕ) → hex_number p ≡ Some container → hex_number o ≡ Some offset
    → hex_number last ≡ Some sequence → (pieces_of last ≡ last ∷ []) ⊎ SeveralPieces last
    → lsn_of_pieces (p ∷ o ∷ pieces_of last) ≡ lsn_of_parts container offset sequence
last_there container offset sequence p o last first second third (inl one) = rw (one, first, second, third) refl
last_there container offset sequence p o last first second third (inr several) =
    let none = not_digits last several.4 in absurd (cc (none, third))

pub three_numbers : (container offset sequence : ℕ) (word behind last : List ℕ) → BeginsWithNumber container behind word
    → BeginsWithNumber offset last behind
    → hex_number last ≡ Some sequence → lsn_of_word word ≡ lsn_of_parts container offset sequence
three_numbers container offset sequence word behind last first second third =
    rw (first.1, second.1) (last_there container offset sequence first.0 second.0 last first.2 second.2 third (pieces_are last))

first_none : (piece : List ℕ) (more : List (List ℕ)) → hex_number piece ≡ None → lsn_of_pieces (piece ∷ more) ≡ None
first_none piece [] none = refl
first_none piece (o ∷ []) none = refl
first_none piece (o ∷ s ∷ []) none = rw none refl
first_none piece (o ∷ s ∷ x ∷ more) none = refl

-- the first number isn't there
pub no_container : (word : List ℕ) → LacksNumber word → lsn_of_word word ≡ None
no_container word (inl one) = rw one refl
no_container word (inr (piece, more, split, none)) = rw split (first_none piece more none)

last_none : (p o last : List ℕ) → hex_number last ≡ None → (pieces_of last ≡ last ∷ []) ⊎ SeveralPieces last
    → lsn_of_pieces (p ∷ o ∷ pieces_of last) ≡ None
last_none p o last none (inl one) = rw (one, none) (no_third (hex_number p) (hex_number o))
last_none p o last none (inr several) = rw several.3 refl

-- the third number isn't there
pub no_sequence : (container offset : ℕ) (word behind last : List ℕ) → BeginsWithNumber container behind word → BeginsWithNumber offset last behind
    → hex_number last ≡ None → lsn_of_word word ≡ None
no_sequence container offset word behind last first second none =
    rw (first.1, second.1) (last_none first.0 second.0 last none (pieces_are last))
