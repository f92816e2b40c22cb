-- What a word of hexadecimal digits spells is no longer than the word.
use Rattle.clfs_race.proofs.Words.{◌≡◌, ℕ, ◌+◌, ◌≤◌, refl, List, [], ◌∷◌, length, Ok, Err, arith, inl, inr, Result, ◌==◌, cases_Bool, decode_of, FromHexError}
use Rattle.std.proofs.Common.{◌%◌}
use Rattle.hex.specs.Hex.{◌>>=◌, decode_pairs, pair_value}

-- where the second step gave a value the first gave one
given : {A B : Type 0} (r : Result A FromHexError) (f : A → Result B FromHexError) (y : B) → (r >>= f) ≡ Ok y → (x : A) × ((r ≡ Ok x) × (f x ≡ Ok y))
given (Ok x) f y is = (x, (refl, is))
given (Err e) f y is = absurd (cc is)

pub pairs_short : (i : ℕ) (word bytes : List ℕ) → decode_pairs i word ≡ Ok bytes → length bytes ≤ length word
unfolding decode_pairs
pairs_short i [] bytes is = let same : bytes ≡ [] = cc is in rw same (omega arith)
pairs_short i (digit ∷ []) bytes is = absurd (cc is)
pairs_short i (high ∷ low ∷ rest) bytes is =
    let first = given (pair_value high low i) _ bytes is in
    let second = given (decode_pairs (i + 2) rest) _ bytes first.1.1 in
    let same : bytes ≡ first.0 ∷ second.0 = cc (second.1.1) in
    let fewer = pairs_short (i + 2) rest second.0 second.1.0 in
    rw same (omega (arith, fewer))

pub decode_short : (word bytes : List ℕ) → decode_of word ≡ Ok bytes → length bytes ≤ length word
decode_short word bytes is = elim (cases_Bool (length word % 2 == 1)) [
  | inl odd ↦ let never = rw odd at is in absurd (cc never)
  | inr even ↦ pairs_short 0 word bytes (rw even at is)
]
