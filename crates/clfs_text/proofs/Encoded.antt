-- Bytes encoded piece by piece.
use Rattle.std.proofs.Common.{◌≡◌, ℕ, List, [], ◌∷◌, ◌++◌, take, drop, refl, sym, ◌∙◌, ap, append_assoc, arith}
use Rattle.std.specs.Prelude.{◌==◌, length, true}
use Rattle.std.proofs.lemmas.List.{take-append-drop, append-nil}
use Rattle.std.proofs.lemmas.Bool.{eqb-true}
use Rattle.hex.specs.Hex.{encode_with, encode_lower, lower_digits}

encoded_parts : (table xs ys : List ℕ) → encode_with table (xs ++ ys) ≡ encode_with table xs ++ encode_with table ys
unfolding encode_with
encoded_parts table [] ys = refl
encoded_parts table (x ∷ xs) ys = rw (encoded_parts table xs ys) refl

-- nothing is encoded as nothing
pub encoded_none : encode_lower [] ≡ []
unfolding encode_with
encoded_none = refl

-- one piece more
pub encoded_more : (out whole rest piece behind text : List ℕ) (n : ℕ) → out ++ encode_lower rest ≡ whole → piece ≡ take n rest → behind ≡ drop n rest
    → text ≡ encode_lower piece → (out ++ text) ++ encode_lower behind ≡ whole
encoded_more out whole rest piece behind text n so_far front back is =
    let split : encode_lower piece ++ encode_lower behind ≡ encode_lower rest =
    sym (encoded_parts lower_digits piece behind) ∙ ap encode_lower (rw (front, back) (take-append-drop n rest)) in
    rw (append_assoc, is, split) so_far

-- all pieces are written
pub encoded_all : (out whole rest : List ℕ) → out ++ encode_lower rest ≡ whole → (length rest == 0) ≡ true → out ≡ whole
encoded_all out whole [] so_far none = sym (append-nil out) ∙ rw encoded_none at so_far
encoded_all out whole (b ∷ rest) so_far none = absurd (let e = eqb-true (length (b ∷ rest)) 0 none in omega (arith, e))
