-- A line for worked rows.
use Rattle.std.specs.Prelude.{ℕ, List, []}
use Rattle.clfs_trial.specs.Generated.{line_at, opening_lines}

-- the first drawn line of the trial of a number, where no reply has told an LSN
abbrev pub first_drawn_line : ℕ → List ℕ
first_drawn_line number = line_at number opening_lines []
