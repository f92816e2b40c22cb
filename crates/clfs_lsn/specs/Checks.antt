-- Checks in their order: the answer is that of the first one that fails. With the definition stand its laws, and those of plain
-- tests, so that whoever reads bytes by checks can cite them.
use Rattle.std.specs.Prelude.{◌≡◌, ℕ, Bool, true, false, if◌then◌else◌, Option, Some, None, Result, Ok, Err}
use Rattle.std.proofs.Common.{refl, ap, ◌∙◌}

-- a check's wrong byte, told as an error, or what comes where the check holds
abbrev pub unless_wrong : {Y E : Type 0} → (ℕ → E) → Option ℕ → Result Y E → Result Y E
unless_wrong told None answer = answer
unless_wrong told (Some at) answer = Err (told at)

-- where the answer is a value, the check held
pub unless_ok : {Y E : Type 0} (told : ℕ → E) (wrong : Option ℕ) (answer : Result Y E) (value : Y)
    → unless_wrong told wrong answer ≡ Ok value → (wrong ≡ None) × (answer ≡ Ok value)
unless_ok told None answer value e = (refl, e)
unless_ok told (Some at) answer value e = absurd (cc e)

-- a test of a chain that tells no wrong byte fails, and the rest of the chain tells none either
pub no_fault : (b : Bool) (at : ℕ) (rest : Option ℕ) → (if b then Some at else rest) ≡ None → (b ≡ false) × (rest ≡ None)
no_fault true at rest e = absurd (cc e)
no_fault false at rest e = (refl, e)

-- and the other way round
pub pass_check : (b : Bool) (at : ℕ) (rest : Option ℕ) → b ≡ false → rest ≡ None → (if b then Some at else rest) ≡ None
pass_check b at rest p q = ap (λ c. if c then Some at else rest) p ∙ q

-- where the answer is a value, a test that stands before it failed
pub guard_ok : {Y E : Type 0} (b : Bool) (error : E) (answer : Result Y E) (value : Y) → (if b then Err error else answer) ≡ Ok value
    → (b ≡ false) × (answer ≡ Ok value)
guard_ok true error answer value e = absurd (cc e)
guard_ok false error answer value e = (refl, e)

-- and the other way round
pub pass_guard : {Y E : Type 0} (b : Bool) (error : E) (answer other : Result Y E) → b ≡ false → answer ≡ other
    → (if b then Err error else answer) ≡ other
pass_guard b error answer other p q = ap (λ c. if c then Err error else answer) p ∙ q
