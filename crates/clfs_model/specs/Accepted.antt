-- The limits of a script, and the lines that are answered where it passes one.
use Rattle.std.specs.Prelude.{ℕ, Bool, ◌&&◌, ◌==◌, nat_le, List, [], ◌∷◌, length, take, take_while}
use Rattle.std.specs.List.{slice_split, list_all}
use Rattle.clfs_model.specs.Lines.{lines_of}

-- the most bytes of a script, the most bytes of a line without its line feed, and the most lines
pub record Limits : Type 0 where
  pub bytes : ℕ
  pub line : ℕ
  pub lines : ℕ

-- a script whose lines are answered one after the other; it has at most one line for each of its bytes
abbrev pub serve_limits : Limits
serve_limits = record { bytes = 67108864; line = 131072; lines = 67108864 }

-- a script that is answered by threads
abbrev pub race_limits : Limits
race_limits = record { bytes = 1048576; line = 131072; lines = 10000 }

-- A script is within its limits with all of its lines, the last one too where it has no line feed. A carriage return counts for
-- its line.
abbrev pub is_within : Limits → List ℕ → Bool
is_within limits bytes =
    nat_le (length bytes) limits.bytes && nat_le (length (lines_of bytes)) limits.lines
    && list_all (λ line. nat_le (length line) limits.line) (lines_of bytes)

-- all lines but the last, which has no line feed
abbrev pub without_last : List (List ℕ) → List (List ℕ)
without_last [] = []
without_last (line ∷ []) = []
without_last (line ∷ next ∷ more) = line ∷ without_last (next ∷ more)

-- the lines that have their line feed
abbrev pub ended_lines : List ℕ → List (List ℕ)
ended_lines bytes = without_last (slice_split (λ b. b == 10) bytes)

-- The lines that are answered: those whose line feed stands within the most bytes and before the first line that is too long, and
-- no more of them than the most lines.
abbrev pub accepted : Limits → List ℕ → List (List ℕ)
accepted limits bytes =
    take limits.lines (take_while (λ line. nat_le (length line) limits.line) (ended_lines (take limits.bytes bytes)))
