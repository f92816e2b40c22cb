-- What contracts see of the ports in memory.
use Rattle.std.specs.Prelude.{◌≡◌, ℕ, ◌+◌, ◌-◌, ◌^◌, ◌++◌, min, List, ⊤, Option, Some, None}

-- a source in memory: the bytes that are left, the greatest piece of one call, the calls made so far,
-- the numbers (from 1) of the calls that are to fail, and the count of faults
pub record SourceState : Type 0 where
  pub left : List ℕ
  pub piece : ℕ
  pub calls : ℕ
  pub fails : List ℕ
  pub faults : ℕ

-- a sink in memory: the bytes that were taken, and the rest as for a source
pub record SinkState : Type 0 where
  pub written : List ℕ
  pub piece : ℕ
  pub calls : ℕ
  pub fails : List ℕ
  pub faults : ℕ

-- a count of calls or of faults after one more; it stands still at the end of its type
abbrev pub one_more : ℕ → ℕ
one_more count = min (count + 1) (2 ^ 64 - 1)

-- what a steady sink kept grows by the piece, or is lost for good
abbrev pub GrowsOrIsLost : Option (List ℕ) → Option (List ℕ) → List ℕ → Type 0
GrowsOrIsLost _ None _ = ⊤
GrowsOrIsLost None (Some _) _ = ⊥
GrowsOrIsLost (Some before) (Some now) piece = now ≡ before ++ piece
