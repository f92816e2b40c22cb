-- Which streams the rows of a map stand for.
use Rattle.std.specs.Prelude.{ℕ, List, map}
use Rattle.std.specs.Global.{Vec}
use Rattle.clfs_lsn.specs.declared.stream.Stream.{Stream}

-- a row by name is a stream
abbrev pub streams_of : List (Vec ℕ × ℕ) → List Stream
streams_of rows = map (λ row. record { name = row.0.items; base = row.1 }) rows
