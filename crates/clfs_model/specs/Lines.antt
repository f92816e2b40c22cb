-- The lines of a script and their words.
use Rattle.std.specs.Prelude.{ℕ, ◌-◌, ◌==◌, if◌then◌else◌, List, [], ◌∷◌, length, take, slice_index}
use Rattle.std.specs.List.{slice_split}

-- without the empty line that stands after the last line feed
abbrev pub whole_lines : List (List ℕ) → List (List ℕ)
whole_lines [] = []
whole_lines (line ∷ []) = if length line == 0 then [] else line ∷ []
whole_lines (line ∷ next ∷ more) = line ∷ whole_lines (next ∷ more)

-- The lines, each without its line feed. Bytes after the last line feed are a line too, where there are any.
abbrev pub lines_of : List ℕ → List (List ℕ)
lines_of bytes = whole_lines (slice_split (λ b. b == 10) bytes)

-- One carriage return at the end of a line is dropped.
abbrev pub without_return : List ℕ → List ℕ
without_return line = if slice_index line (length line - 1) == 13 then take (length line - 1) line else line

-- Words are what stands between single spaces.
abbrev pub words_of : List ℕ → List (List ℕ)
words_of line = slice_split (λ b. b == 32) line
