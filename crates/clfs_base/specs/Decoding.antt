-- What a decoder of base copies answers, against what the bytes spell.
use Rattle.std.specs.Prelude.{◌≡◌, ◌⊎◌, ℕ, Option, Some, None, Result, Ok, Err}
use Rattle.clfs_base.specs.declared.refusal.BaseRefusal.{BaseRefusal}
use Rattle.clfs_base.specs.declared.refusal.BaseRefusal.TheVariants as refusals
use Rattle.clfs_base.specs.declared.refusal.NewestRefusal.{NewestRefusal}
use Rattle.clfs_base.specs.declared.refusal.NewestRefusal.TheVariants as newest

-- A refusal for a byte names the first wrong byte. Out of memory may come in place of any answer.
abbrev pub RefusesAt : BaseRefusal → Option ℕ → Type 0
RefusesAt refusals.NoMemory fault = Unit {0}
RefusesAt (refusals.BadByte at) fault = fault ≡ Some at

-- The answer is this value where no byte is wrong, or a refusal at the first wrong byte.
abbrev pub Gives : {Y : Type 0} → Result Y BaseRefusal → Option ℕ → Y → Type 0
Gives (Ok value) fault read = (fault ≡ None) × (value ≡ read)
Gives (Err refusal) fault read = RefusesAt refusal fault

-- The answer of a reading of the newest copy is this one. Out of memory or a fault of the disk may come in its place.
abbrev pub GivesNewest : {Y : Type 0} → Result Y NewestRefusal → Result Y NewestRefusal → Type 0
GivesNewest (Ok value) read = read ≡ Ok value
GivesNewest (Err newest.NoMemory) read = Unit {0}
GivesNewest (Err newest.DiskFault) read = Unit {0}
GivesNewest (Err newest.NoBase) read = read ≡ Err newest.NoBase
GivesNewest (Err (newest.BadByte slot at)) read = read ≡ Err (newest.BadByte slot at)

-- a refusal that says nothing of the files
abbrev pub IsOutside : NewestRefusal → Type 0
IsOutside refusal = (refusal ≡ newest.NoMemory) ⊎ (refusal ≡ newest.DiskFault)
