-- What a contract sees of the first live LSNs.
use Rattle.std.specs.Prelude.{ℕ, List, Option}

-- the first live LSN of each stream, where it has one, by the streams' numbers, and how many more streams can be added without memory
pub record Rows : Type 0 where
  pub firsts : List (Option ℕ)
  pub room : ℕ
