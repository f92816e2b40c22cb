-- What was taken of a script, and which of its lines are answered.
use Rattle.std.specs.Prelude.{◌≡◌, ℕ, true, false, List, Option}
use Rattle.std.specs.Io.KnownBytes.{Consumes, IsAtEnd}
use Rattle.clfs_ports.specs.Cause.{Rises}
use Rattle.clfs_model.specs.Lines.{lines_of}
use Rattle.clfs_model.specs.Accepted.{race_limits, is_within, accepted}
use Rattle.clfs_race.specs.declared.input.Script.{Script}
use Rattle.clfs_race.specs.declared.input.ScriptEnd.{ScriptEnd}
use Rattle.clfs_race.specs.declared.input.ScriptEnd.TheVariants.{Whole, Fault, TooLong}

-- Why no more was taken: nothing is left, the source failed, or a limit is passed. A passed limit comes first.
abbrev pub HasEnded : ScriptEnd → List ℕ → Option (List ℕ) → ℕ → ℕ → Type 0
HasEnded Whole bytes left_after source source_after = IsAtEnd left_after × (is_within race_limits bytes ≡ true)
HasEnded Fault bytes left_after source source_after = Rises source source_after × (is_within race_limits bytes ≡ true)
HasEnded TooLong bytes left_after source source_after = is_within race_limits bytes ≡ false

-- some bytes were taken
abbrev pub TakesBytes : Option (List ℕ) → Option (List ℕ) → Type 0
TakesBytes left left_after = (bytes : List ℕ) × Consumes left left_after bytes

-- A script that was read to its end is within its limits.
abbrev pub IsReadScript : Script → Type 0
IsReadScript script = script.end ≡ Whole → is_within race_limits script.bytes.items ≡ true

-- The lines that are answered: all of a script that was read to its end, else those that came whole.
abbrev pub answered_lines : ScriptEnd → List ℕ → List (List ℕ)
answered_lines Whole bytes = lines_of bytes
answered_lines Fault bytes = accepted race_limits bytes
answered_lines TooLong bytes = accepted race_limits bytes
