-- What follows from a call that isn't refused.
use Rattle.clfs_laws.proofs.Words.{◌≡◌, ℕ, Bool, true, false, refl, List, Option, Some, None, find, nat_lt, ◌&&◌, option_map_or, Refusal, Area, refused_if}
use Rattle.clfs_laws.proofs.Words.{too_long}
use Rattle.clfs_model.specs.declared.refusal.Refusal.TheVariants as refusals

-- a test of a call that isn't refused fails, and no test after it refuses
pub passed : (test : Bool) (given : Refusal) (others : Option Refusal) → refused_if test given others ≡ None → (test ≡ false) × (others ≡ None)
passed true given others none = absurd (cc)
passed false given others none = (refl, none)

-- the second part of a test fails if the first passes and the whole fails
pub second_false : (a b : Bool) → a ≡ true → (a && b) ≡ false → b ≡ false
second_false true b passes fails = fails
second_false false b passes fails = absurd (cc)

-- what stands after an option that refuses doesn't refuse
pub passed_option : {A : Type 0} (found : Option A) (given : A → Refusal) (others : Option Refusal)
    → option_map_or (λ x. Some (given x)) found others ≡ None → others ≡ None
passed_option None given others none = none
passed_option (Some x) given others none = absurd (cc)

-- no length is too long
pub passed_long : (greatest : ℕ) (lengths : List ℕ) (others : Option Refusal) → too_long greatest lengths others ≡ None → others ≡ None
passed_long greatest lengths others none =
    passed_option (find (λ len. nat_lt greatest len) lengths) (λ len. refusals.RecordTooLong len greatest) others none

-- the area is there
pub passed_area : (found : Option Area) (rest : Area → Option Refusal) → option_map_or rest found (Some refusals.NoSuchArea) ≡ None
    → (area : Area) × ((found ≡ Some area) × (rest area ≡ None))
passed_area None rest none = absurd (cc)
passed_area (Some area) rest none = (area, (refl, none))
