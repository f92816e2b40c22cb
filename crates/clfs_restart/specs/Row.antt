-- What a contract sees of the restart areas of a stream.
use Rattle.std.specs.Prelude.{ℕ, List}
use Rattle.clfs_lsn.specs.declared.entry.Head.{Head}

-- the stream's base, the heads that are kept, and how many more can be added without memory
pub record Row : Type 0 where
  pub base : ℕ
  pub heads : List Head
  pub room : ℕ
