-- The words of a line that are left, as a reader goes through them from the left.
use Rattle.std.specs.Prelude.{ℕ, ◌+◌, ◌==◌, Bool, true, false, if◌then◌else◌, nat_le, List, [], ◌∷◌, length, drop}
use Rattle.std.specs.List.{slice_split}
use Rattle.std.specs.Str.{bytes_eq}

-- the place of the next word in its line, the words that are left, and the line's length
pub record Left : Type 0 where
  pub at : ℕ
  pub words : List (List ℕ)
  pub end : ℕ

-- The words from a place on are what stands between single spaces there. After the line's last word there are none.
abbrev pub words_behind : List ℕ → ℕ → List (List ℕ)
words_behind line at = if nat_le at (length line) then slice_split (λ b. b == 32) (drop at line) else []

-- the words of a line from a place on
abbrev pub left_from : List ℕ → ℕ → Left
left_from line at = record { at = at; words = words_behind line at; end = length line }

-- the same after a first word of this text, where it comes next, else none
abbrev pub skipping_words : ℕ → List ℕ → List (List ℕ) → ℕ → Bool × Left
skipping_words at text [] end = (false, record { at = at; words = []; end = end })
skipping_words at text (word ∷ words) end =
    if bytes_eq word text then (true, record { at = at + length word + 1; words = words; end = end })
    else (false, record { at = at; words = word ∷ words; end = end })

-- whether a word comes next, and what is left without it
abbrev pub skipping : List ℕ → Left → Bool × Left
skipping text left = skipping_words left.at text left.words left.end
