-- The streams that a base copy lists.
use Rattle.std.specs.Prelude.{ℕ, List, [], ◌∷◌}
use Rattle.clfs_base.specs.declared.image.Row.{Row}
use Rattle.clfs_lsn.specs.declared.stream.Stream.{Stream}

-- the streams of rows, with these bases
abbrev pub streams_with : List Row → List ℕ → List Stream
streams_with [] bases = []
streams_with (row ∷ rows) [] = []
streams_with (row ∷ rows) (base ∷ bases) = record { name = row.name; base = base } ∷ streams_with rows bases
