-- What a contract sees of archiving.
use Rattle.std.specs.Prelude.{ℕ, List, Option}
use Rattle.clfs_archive.specs.declared.block.BlockEnd.{BlockEnd}

-- the archive tail where archiving is on, the ends of blocks that are kept, and how many more can be added without memory
pub record Row : Type 0 where
  pub tail : Option ℕ
  pub blocks : List BlockEnd
  pub room : ℕ
