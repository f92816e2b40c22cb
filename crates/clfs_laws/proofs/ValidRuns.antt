-- What a valid state stays over steps and journals.
use Rattle.clfs_laws.proofs.Words.{◌≡◌, ℕ, ◌≤◌, Bool, true, false, refl, sym, subst, inl, inr, ◌⊎◌, arith, List, [], ◌∷◌, ◌++◌, Option, Some, None, MatchBool}
use Rattle.clfs_laws.proofs.Words.{option_map_or, own, Entry, Happened, Fine, Fault, Damage, Reply, State, Area, area_of, GoesOn, IsLegal, mine, held_by}
use Rattle.clfs_laws.proofs.Words.{held_in, ReopenStep, IsBroken, IsOutOfMemory, Reopens, with_broken, IsValid, HasSpaceLaws}
use Rattle.clfs_laws.proofs.HeldRuns.{held_is}
use Rattle.clfs_laws.proofs.ValidAreas.{valid_broken}
use Rattle.clfs_laws.proofs.ValidSteps.{valid_step}

valid_as : (s t : State) → t ≡ s → IsValid s → IsValid t
valid_as s t same valid = subst IsValid (sym same) valid

reopens_valid : (told : Bool) (s : State) (happened : Happened) (reply : Reply) (t : State) → Reopens told s happened reply t → IsValid s → IsValid t
reopens_valid told s Fine reply t is valid = is.valid
reopens_valid told s Fault reply t is valid = valid_as (with_broken s) t is.1 (valid_broken s true valid)
reopens_valid told s Damage reply t is valid = valid_as (with_broken s) t is.1 (valid_broken s true valid)

reopened_by : (told : Bool) (s : State) (happened : Happened) (reply : Reply) (t : State) (broken : Bool)
    → MatchBool broken (IsBroken s reply t) (IsOutOfMemory s reply t ⊎ Reopens told s happened reply t) → IsValid s → IsValid t
reopened_by told s happened reply t true is valid = valid_as s t is.1 valid
reopened_by told s happened reply t false (inl want) valid = valid_as s t want.1 valid
reopened_by told s happened reply t false (inr reopens) valid = reopens_valid told s happened reply t reopens valid

-- opening again leaves a valid state
pub valid_reopened : (told : Bool) (s : State) (happened : Happened) (reply : Reply) (t : State) → ReopenStep told s happened reply t → IsValid s → IsValid t
unfolding ReopenStep
valid_reopened told s happened reply t step valid = reopened_by told s happened reply t s.broken step valid

pub valid_through : HasSpaceLaws → (told : Bool) (before : List Entry) (s t : State) (entries : List Entry) → GoesOn told before s entries t → IsValid s → IsValid t
valid_through space told before s t [] goes valid = valid_as s t goes valid
valid_through space told before s t (entry ∷ entries) goes valid =
    valid_through space told (before ++ entry ∷ []) goes.0 t entries goes.1.1
    (valid_step space told s entry.client entry.call entry.happened entry.reply goes.0 valid goes.1.0.step)

-- a journal leaves a valid state
pub valid_journal : HasSpaceLaws → (told : Bool) (s t : State) (journal : List Entry) → IsLegal told journal s t → IsValid s → IsValid t
valid_journal space told s t journal legal valid = valid_through space told [] s t journal legal valid

-- an area that holds something is there
pub record HoldsEnough (s : State) (client number n : ℕ) : Type 0 where
  pub area : Area
  pub there : area_of s client number ≡ Some area
  pub enough : own n ≤ area.held

holds_by : (s : State) (client number n : ℕ) (found : Option Area) → area_of s client number ≡ found → own n ≤ option_map_or (λ (area : Area). area.held) found 0
    → HoldsEnough s client number n
holds_by s client number n None is enough = absurd (omega (arith, enough))
holds_by s client number n (Some found) is enough = record { area = found; there = is; enough = enough }

pub holds_enough : (told : Bool) (s t : State) (journal : List Entry) (client number n : ℕ) → IsLegal told journal s t
    → own n ≤ held_by s client (mine journal client) number → HoldsEnough t client number n
holds_enough told s t journal client number n legal enough =
    let same : held_in t client number ≡ held_by s client (mine journal client) number = held_is told s t journal client number legal in
    holds_by t client number n (area_of t client number) refl (omega (arith, enough, same))
