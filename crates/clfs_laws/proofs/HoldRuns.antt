-- The hold's container never falls, in a step, where the log is opened again, and along a journal.
use Rattle.clfs_laws.proofs.Words.{◌≡◌, ℕ, ◌≤◌, Bool, true, false, ap, inl, inr, ◌⊎◌, arith, List, [], ◌∷◌, ◌++◌, MatchBool, container_of, Call, Entry}
use Rattle.clfs_laws.proofs.Words.{Happened, Fine, Fault, Damage, Reply, State, hold, cut, GoesOn, IsLegal, Step, ReopenStep, Reopens, IsBroken}
use Rattle.clfs_laws.proofs.Words.{IsOutOfMemory, IsValid, HasSpaceLaws}
use Rattle.clfs_laws.proofs.HoldRises.{hold_rises, hold_cut}
use Rattle.clfs_laws.proofs.ValidSteps.{valid_step}

-- a hold that doesn't fall lies in no lower container
higher_container : (a b : ℕ) → a ≤ b → container_of a ≤ container_of b
higher_container a b more = omega (arith, more)

pub container_rises : HasSpaceLaws → (told : Bool) (s : State) (client : ℕ) (call : Call) (happened : Happened) (reply : Reply) (t : State)
    → IsValid s → Step told s client call happened reply t → container_of (hold s) ≤ container_of (hold t)
container_rises space told s client call happened reply t valid step =
    higher_container (hold s) (hold t) (hold_rises space told s client call happened reply t valid step)

-- a state whose hold is that of another one
same_container : (s t : State) → hold t ≡ hold s → container_of (hold s) ≤ container_of (hold t)
same_container s t same = omega (arith, same)

reopens_rises : (s : State) (happened : Happened) (reply : Reply) (t : State) → IsValid s → Reopens true s happened reply t
    → container_of (hold s) ≤ container_of (hold t)
reopens_rises s Fine reply t valid is =
    let same = is.read.1.hold in
    let higher = higher_container (hold s) (hold (cut s)) (hold_cut s valid) in
    omega (arith, same, higher)
reopens_rises s Fault reply t valid is = same_container s t (ap hold is.1)
reopens_rises s Damage reply t valid is = same_container s t (ap hold is.1)

reopened_by : (s : State) (happened : Happened) (reply : Reply) (t : State) (broken : Bool) → IsValid s
    → MatchBool broken (IsBroken s reply t) (IsOutOfMemory s reply t ⊎ Reopens true s happened reply t) → container_of (hold s) ≤ container_of (hold t)
reopened_by s happened reply t true valid is = same_container s t (ap hold is.1)
reopened_by s happened reply t false valid (inl want) = same_container s t (ap hold want.1)
reopened_by s happened reply t false valid (inr reopens) = reopens_rises s happened reply t valid reopens

-- where the log is opened again over a disk that tells
pub reopening_rises : (s : State) (happened : Happened) (reply : Reply) (t : State) → IsValid s → ReopenStep true s happened reply t
    → container_of (hold s) ≤ container_of (hold t)
unfolding ReopenStep
reopening_rises s happened reply t valid step = reopened_by s happened reply t s.broken valid step

rises_through : HasSpaceLaws → (told : Bool) (before : List Entry) (s t : State) (entries : List Entry) → GoesOn told before s entries t → IsValid s → hold s ≤ hold t
rises_through space told before s t [] goes valid = let same : hold t ≡ hold s = ap hold goes in omega (arith, same)
rises_through space told before s t (entry ∷ entries) goes valid =
    let step = goes.1.0.step in
    let mid : State = goes.0 in
    let first = hold_rises space told s entry.client entry.call entry.happened entry.reply mid valid step in
    let rest = rises_through space told (before ++ entry ∷ []) mid t entries goes.1.1
    (valid_step space told s entry.client entry.call entry.happened entry.reply mid valid step) in
    omega (arith, first, rest)

-- along a legal journal
pub journal_container_rises : HasSpaceLaws → (told : Bool) (s t : State) (journal : List Entry) → IsValid s → IsLegal told journal s t
    → container_of (hold s) ≤ container_of (hold t)
journal_container_rises space told s t journal valid legal = higher_container (hold s) (hold t) (rises_through space told [] s t journal legal valid)
