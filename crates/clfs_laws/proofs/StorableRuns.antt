-- What files can hold stays so over steps, journals and runs.
use Rattle.clfs_laws.proofs.Words.{◌≡◌, Bool, true, false, refl, sym, subst, inl, inr, ◌⊎◌, List, [], ◌∷◌, ◌++◌, All, MatchBool, AllByRecursion}
use Rattle.clfs_laws.proofs.Words.{recursion_from_All, Entry, Happened, Fine, Fault, Damage, Reply, State, MeetsCondition, GoesOn, IsLegal, Request, asks}
use Rattle.clfs_laws.proofs.Words.{reopens, bad_line, RequestStep, Run, ReopenStep, Reopens, IsBroken, IsOutOfMemory, with_broken, IsStorable, IsValid}
use Rattle.clfs_laws.proofs.Words.{HasSpaceLaws, RequestMeets}
use Rattle.clfs_laws.proofs.StorableSteps.{storable_same, storable_step}
use Rattle.clfs_laws.proofs.ValidRuns.{valid_reopened}
use Rattle.clfs_laws.proofs.ValidSteps.{valid_step}

-- another name for the state
storable_as : (s t : State) → t ≡ s → IsStorable s → IsStorable t
storable_as s t same storable = subst IsStorable (sym same) storable

-- opening again, by what happened
reopens_storable : (told : Bool) (s : State) (happened : Happened) (reply : Reply) (t : State) → Reopens told s happened reply t → IsStorable s
    → IsStorable t
reopens_storable told s Fine reply t is storable = is.storable
reopens_storable told s Fault reply t is storable = storable_as (with_broken s) t is.1 (storable_same s (with_broken s) refl refl refl refl refl storable)
reopens_storable told s Damage reply t is storable = storable_as (with_broken s) t is.1 (storable_same s (with_broken s) refl refl refl refl refl storable)

-- by whether the log is broken
reopened_by : (told : Bool) (s : State) (happened : Happened) (reply : Reply) (t : State) (broken : Bool)
    → MatchBool broken (IsBroken s reply t) (IsOutOfMemory s reply t ⊎ Reopens told s happened reply t) → IsStorable s → IsStorable t
reopened_by told s happened reply t true is storable = storable_as s t is.1 storable
reopened_by told s happened reply t false (inl want) storable = storable_as s t want.1 storable
reopened_by told s happened reply t false (inr reopens_so) storable = reopens_storable told s happened reply t reopens_so storable

-- opening again leaves a state that files can hold
pub storable_reopened : (told : Bool) (s : State) (happened : Happened) (reply : Reply) (t : State) → ReopenStep told s happened reply t
    → IsStorable s → IsStorable t
unfolding ReopenStep
storable_reopened told s happened reply t step storable = reopened_by told s happened reply t s.broken step storable

-- entries one after the other
storable_through : HasSpaceLaws → (told : Bool) (before : List Entry) (s t : State) (entries : List Entry) → GoesOn told before s entries t → IsValid s
    → IsStorable s
    → AllByRecursion (λ (entry : Entry). MeetsCondition entry.client entry.call) entries → IsStorable t
storable_through space told before s t [] goes valid storable meets = storable_as s t goes storable
storable_through space told before s t (entry ∷ entries) goes valid storable meets =
    let step = goes.1.0.step in
    storable_through space told (before ++ entry ∷ []) goes.0 t entries goes.1.1
    (valid_step space told s entry.client entry.call entry.happened entry.reply goes.0 valid step)
    (storable_step space told s entry.client entry.call entry.happened entry.reply goes.0 valid storable meets.0 step) meets.1

-- so do any part of a journal whose calls meet their conditions, and the whole
pub storable_part : HasSpaceLaws → (told : Bool) (before : List Entry) (s t : State) (entries : List Entry) → GoesOn told before s entries t → IsValid s → IsStorable s
    → All (λ (entry : Entry). MeetsCondition entry.client entry.call) entries → IsStorable t
storable_part space told before s t entries goes valid storable meets =
    storable_through space told before s t entries goes valid storable (recursion_from_All (λ (entry : Entry). MeetsCondition entry.client entry.call) entries meets)

pub storable_journal : HasSpaceLaws → (told : Bool) (s t : State) (journal : List Entry) → IsLegal told journal s t → IsValid s → IsStorable s
    → All (λ (entry : Entry). MeetsCondition entry.client entry.call) journal → IsStorable t
storable_journal space told s t journal legal valid storable meets = storable_part space told [] s t journal legal valid storable meets

-- what one request leaves
pub record IsKept (t : State) : Type 0 where
  pub valid : IsValid t
  pub storable : IsStorable t

pub request_keeps : HasSpaceLaws → (told : Bool) (s : State) (request : Request) (happened : Happened) (reply : Reply) (t : State)
    → RequestStep told s request happened reply t
    → RequestMeets request → IsKept s → IsKept t
request_keeps space told s (asks client call) happened reply t step meets kept = record {
  valid = valid_step space told s client call happened reply t kept.valid step;
  storable = storable_step space told s client call happened reply t kept.valid kept.storable meets step;
}
request_keeps space told s (reopens client) happened reply t step meets kept = record {
  valid = valid_reopened told s happened reply t step kept.valid;
  storable = storable_reopened told s happened reply t step kept.storable;
}
request_keeps space told s (bad_line at) happened reply t step meets kept = subst IsKept (sym step.1) kept

-- requests one after the other
run_keeps : HasSpaceLaws → (told : Bool) (s : State) (requests : List Request) (happened : List Happened) (replies : List Reply) (t : State)
    → Run told s requests happened replies t
    → AllByRecursion RequestMeets requests → IsKept s → IsKept t
run_keeps space told s [] [] [] t run meets kept = subst IsKept (sym run) kept
run_keeps space told s [] [] (reply ∷ replies) t run meets kept = absurd run
run_keeps space told s [] (happened ∷ more) replies t run meets kept = absurd run
run_keeps space told s (request ∷ requests) [] replies t run meets kept = absurd run
run_keeps space told s (request ∷ requests) (happened ∷ more) [] t run meets kept = absurd run
run_keeps space told s (request ∷ requests) (happened ∷ more) (reply ∷ replies) t run meets kept =
    run_keeps space told run.0 requests more replies t run.1.1 meets.1 (request_keeps space told s request happened reply run.0 run.1.0 meets.0 kept)

-- and a run of requests that meet their conditions
pub kept_run : HasSpaceLaws → (told : Bool) (s : State) (requests : List Request) (happened : List Happened) (replies : List Reply) (t : State)
    → Run told s requests happened replies t
    → All RequestMeets requests → IsKept s → IsKept t
kept_run space told s requests happened replies t run meets kept =
    run_keeps space told s requests happened replies t run (recursion_from_All RequestMeets requests meets) kept
