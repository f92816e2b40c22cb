-- What a call that is always granted gives, and what a comparison tells.
use Rattle.std.proofs.Common.{◌≡◌, ℕ, ◌<◌, true, rules}
use Rattle.std.specs.Prelude.{Result, Ok, Err, IsOk, IfOk}
use Rattle.std.specs.Ordering.{is_lt, nat_cmp}

pub if_granted : {A E : Type 0} (result : Result A E) (P : Type 0) → IsOk result → IfOk result (λ _. P) → P
if_granted (Ok a) P granted is = is
if_granted (Err e) P granted is = absurd (cc granted)

pub below_by : (a b : ℕ) → is_lt (nat_cmp a b) ≡ true → a < b
below_by a b is = search rules
