-- How the taking of bytes ended.
use Rattle.std.specs.Prelude.{◌⊎◌, ℕ, ◌<◌, Bool, true, false, List, length, Option}
use Rattle.std.specs.Io.KnownBytes.{IsAtEnd}
use Rattle.clfs_ports.specs.Cause.{Rises}
use Rattle.clfs_race.specs.declared.input.ScriptEnd.{ScriptEnd}
use Rattle.clfs_race.specs.declared.input.ScriptEnd.TheVariants.{Whole, Fault, TooLong}
use Rattle.clfs_race.specs.declared.input.Stop.{Stop}
use Rattle.clfs_race.specs.declared.input.Stop.TheVariants as stops

-- nothing is left or there are more bytes than so many, or the source failed
abbrev pub HasStopped : ℕ → Stop → List ℕ → Option (List ℕ) → ℕ → ℕ → Type 0
HasStopped most stops.Done bytes left_after source source_after = IsAtEnd left_after ⊎ (most < length bytes)
HasStopped most stops.Fault bytes left_after source source_after = Rises source source_after

-- how a script ended whose bytes are within its limits or not
abbrev pub end_of : Stop → Bool → ScriptEnd
end_of stop false = TooLong
end_of stops.Done true = Whole
end_of stops.Fault true = Fault
