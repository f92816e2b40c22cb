-- What a contract sees of the table of streams.
use Rattle.std.specs.Prelude.{ℕ, List}
use Rattle.clfs_lsn.specs.declared.stream.Stream.{Stream}

-- the streams in the order of their first opening, and how many more can be added without memory
pub record Table : Type 0 where
  pub streams : List Stream
  pub room : ℕ
