-- What a source gave of a script, and which of its lines are answered.
use Rattle.std.specs.Prelude.{◌≡◌, ◌⊎◌, ℕ, Bool, nat_le, true, false, List, ◌++◌, length, Option}
use Rattle.std.specs.Io.KnownBytes.{Consumes, IsAtEnd}
use Rattle.clfs_model.specs.Lines.{lines_of}
use Rattle.clfs_model.specs.Accepted.{Limits, serve_limits, is_within, accepted, ended_lines}
use Rattle.clfs_lines.specs.declared.incomplete.IncompleteLine.{IncompleteLine}
use Rattle.clfs_lines.specs.declared.incomplete.IncompleteLine.TheVariants.{Counts, Dropped}

-- the limits of a script with at most so many bytes, whose lines are answered one after the other
abbrev pub script_limits : ℕ → Limits
script_limits most = record { bytes = most; line = serve_limits.line; lines = most }

-- whether a line is none too long
abbrev pub is_short : List ℕ → Bool
is_short line = nat_le (length line) serve_limits.line

-- The lines of a script that is read to its end: those that have their line feed, and bytes after the last line feed where they count.
abbrev pub lines_in : IncompleteLine → List ℕ → List (List ℕ)
lines_in Counts script = lines_of script
lines_in Dropped script = ended_lines script

-- A script that was read to its end: the source had it, nothing is left, and it is within its limits.
pub record IsWholeScript (limits : Limits) (left left_after : Option (List ℕ)) (script : List ℕ) : Type 0 where
  pub given : Consumes left left_after script
  pub end : IsAtEnd left_after
  pub within : is_within limits script ≡ true

-- What the source gave passes a limit.
pub record IsPastLimit (limits : Limits) (left left_after : Option (List ℕ)) (bytes : List ℕ) : Type 0 where
  pub given : Consumes left left_after bytes
  pub past : is_within limits bytes ≡ false

-- lines that stand at the front of others
pub record IsFrontOf (all lines : List (List ℕ)) : Type 0 where
  pub rest : List (List ℕ)
  pub front : lines ++ rest ≡ all

-- Lines at the front of those that are answered of the bytes that a source gave.
pub record AreFrontLines (limits : Limits) (left left_after : Option (List ℕ)) (lines : List (List ℕ)) : Type 0 where
  pub bytes : List ℕ
  pub given : Consumes left left_after bytes
  pub front : IsFrontOf (accepted limits bytes) lines

-- All lines of a script that was read to its end.
pub record AreAllLines (limits : Limits) (incomplete : IncompleteLine) (left left_after : Option (List ℕ)) (lines : List (List ℕ)) : Type 0 where
  pub script : List ℕ
  pub read : IsWholeScript limits left left_after script
  pub all : lines_in incomplete script ≡ lines

-- lines up to which it was come
abbrev pub AreReached : Limits → IncompleteLine → Option (List ℕ) → Option (List ℕ) → List (List ℕ) → Type 0
AreReached limits incomplete left left_after lines = AreFrontLines limits left left_after lines ⊎ AreAllLines limits incomplete left left_after lines
