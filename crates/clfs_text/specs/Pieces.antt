-- The pieces of a word between its colons.
use Rattle.std.specs.Prelude.{◌≡◌, ◌⊎◌, ℕ, ◌==◌, List, ◌∷◌, [], Some, None}
use Rattle.std.specs.List.{slice_split}
use Rattle.clfs_lsn.specs.Words.{hex_number}

-- what stands between colons
abbrev pub pieces_of : List ℕ → List (List ℕ)
pieces_of text = slice_split (λ b. b == 58) text

-- a text is this number, a colon and what stands after it
abbrev pub BeginsWithNumber : ℕ → List ℕ → List ℕ → Type 0
BeginsWithNumber number behind text = (piece : List ℕ) × (pieces_of text ≡ piece ∷ pieces_of behind) × (hex_number piece ≡ Some number)

-- a text has no colon, or no number before the first one
abbrev pub LacksNumber : List ℕ → Type 0
LacksNumber text =
    (pieces_of text ≡ text ∷ []) ⊎ ((piece : List ℕ) × (more : List (List ℕ)) × (pieces_of text ≡ piece ∷ more) × (hex_number piece ≡ None))
