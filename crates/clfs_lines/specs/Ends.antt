-- An output that is written as far as the sink takes it.
use Rattle.std.specs.Prelude.{ℕ, List, take, Option}
use Rattle.std.specs.Io.KnownBytes.{Appends}

-- a front of these bytes was written, and nothing else
pub record AppendsFront (written written_after : Option (List ℕ)) (bytes : List ℕ) : Type 0 where
  pub count : ℕ
  pub front : Appends written written_after (take count bytes)
