-- When a call of a source or a sink may fail, and what a sink owes.
use Rattle.std.specs.Prelude.{ℕ, ◌+◌, ◌-◌, ◌^◌, ◌<◌, ◌≤◌, min, List, length, Result, IfOk, OnErr}

-- the count of faults rose; one that stands at the end of its type counts as risen
abbrev pub Rises : ℕ → ℕ → Type 0
Rises before now = min (before + 1) (2 ^ 64 - 1) ≤ now

-- the count of faults doesn't fall, and rises where the call fails
pub record HasCause {T E : Type 0} (before now : ℕ) (result : Result T E) : Type 0 where
  pub later : before ≤ now
  pub failed : OnErr result (Rises before now)

-- at least one byte of a piece that isn't empty is taken
abbrev pub TakesSome : {E : Type 0} → List ℕ → Result ℕ E → Type 0
TakesSome piece result = IfOk result (λ n. 0 < length piece → 0 < n)
