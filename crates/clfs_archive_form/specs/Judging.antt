-- What a judge of blocks goes by.
use Rattle.std.specs.Prelude.{ℕ}
use Rattle.clfs_lsn.specs.declared.shape.Shape.{Shape}

-- how large the blocks and the containers of a log are, and how many streams it has
pub record Judging : Type 0 where
  pub shape : Shape
  pub streams : ℕ
