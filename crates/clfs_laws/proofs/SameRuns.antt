-- Logs that are the same open again alike, and requests come to the same from both.
use Rattle.clfs_laws.proofs.Words.{◌≡◌, Bool, true, false, refl, sym, ap, ◌∙◌, subst, inl, inr, ◌⊎◌, List, [], ◌∷◌, MatchBool, Happened, Fine, Fault, Damage}
use Rattle.clfs_laws.proofs.Words.{Reply, State, flushed, cut, IsSame, ReopenStep, Reopens, IsOpenedAnew, IsBroken, IsOutOfMemory, with_broken, Request, asks}
use Rattle.clfs_laws.proofs.Words.{reopens, bad_line, RequestStep, Run, IsValid, HasSpaceLaws}
use Rattle.clfs_model.specs.Step.{IsReopened}
use Rattle.clfs_laws.proofs.Equivalence.{same_itself, same_turned, same_through, same_cut}
use Rattle.clfs_laws.proofs.SameSteps.{broken_same, steps_alike}
use Rattle.clfs_laws.proofs.ValidRuns.{valid_reopened}
use Rattle.clfs_laws.proofs.ValidSteps.{valid_step}

-- what opening again comes to, by the case of the log
abbrev ReopensBy : Bool → Bool → State → Happened → Reply → State → Type 0
ReopensBy broken told s happened reply t = MatchBool broken (IsBroken s reply t) (IsOutOfMemory s reply t ⊎ Reopens told s happened reply t)

-- what was read of one may be read of the other
read_alike : (told : Bool) (s u t : State) → IsValid s → IsValid u → IsSame s u
    → MatchBool told ((flushed t ≡ flushed s) × IsSame (cut s) t) (IsOpenedAnew s t)
    → MatchBool told ((flushed t ≡ flushed u) × IsSame (cut u) t) (IsOpenedAnew u t)
read_alike true s u t valid valid_u same read =
    let same_flushed : flushed u ≡ flushed s = ap flushed same.others in
    (read.0 ∙ sym same_flushed, same_through (cut u) (cut s) t (same_turned (cut s) (cut u) (same_cut s u valid valid_u same)) read.1)
read_alike false s u t valid valid_u same read =
    let same_buffers : u.buffers ≡ s.buffers = ap (λ (x : State). x.buffers) same.others in
    (read.0, (read.1.0, (read.1.1.0 ∙ sym same_buffers, read.1.1.1)))

reopened_alike : (told : Bool) (s u : State) (reply : Reply) (t : State) → IsValid s → IsValid u → IsSame s u → IsReopened told s reply t
    → IsReopened told u reply t
reopened_alike told s u reply t valid valid_u same is = record {
  flushed_part = is.flushed_part;
  valid = is.valid;
  storable = is.storable;
  read = read_alike told s u t valid valid_u same is.read;
}

-- another name for the first state
same_as : (s t u : State) → t ≡ s → IsSame s u → IsSame t u
same_as s t u is same = let F : State → Type 0 = λ x. IsSame x u in subst F (sym is) same

-- whatever happens there
reopens_alike : (told : Bool) (s u : State) (happened : Happened) (reply : Reply) (t : State) → IsValid s → IsValid u → IsSame s u
    → Reopens told s happened reply t
    → (v : State) × (Reopens told u happened reply v × IsSame t v)
reopens_alike told s u Fine reply t valid valid_u same is = (t, (reopened_alike told s u reply t valid valid_u same is, same_itself t))
reopens_alike told s u Fault reply t valid valid_u same is =
    (with_broken u, ((is.0, refl), same_as (with_broken s) t (with_broken u) is.1 (broken_same s u same)))
reopens_alike told s u Damage reply t valid valid_u same is =
    (with_broken u, ((is.0, refl), same_as (with_broken s) t (with_broken u) is.1 (broken_same s u same)))

reopening_by : (told : Bool) (s u : State) (happened : Happened) (reply : Reply) (t : State) (broken : Bool) → IsValid s → IsValid u → IsSame s u
    → ReopensBy broken told s happened reply t → (v : State) × (ReopensBy broken told u happened reply v × IsSame t v)
reopening_by told s u happened reply t true valid valid_u same is = (u, ((is.0, refl), same_as s t u is.1 same))
reopening_by told s u happened reply t false valid valid_u same (inl want) = (u, (inl (want.0, refl), same_as s t u want.1 same))
reopening_by told s u happened reply t false valid valid_u same (inr opens) =
    let other = reopens_alike told s u happened reply t valid valid_u same opens in
    (other.0, (inr other.1.0, other.1.1))

-- opening again
pub reopening_alike : (told : Bool) (s u : State) (happened : Happened) (reply : Reply) (t : State)
    → IsValid s → IsValid u → IsSame s u → ReopenStep told s happened reply t → (v : State) × (ReopenStep told u happened reply v × IsSame t v)
unfolding ReopenStep
reopening_alike told s u happened reply t valid valid_u same step =
    let other = reopening_by told s u happened reply t s.broken valid valid_u same step in
    let same_broken : u.broken ≡ s.broken = ap (λ (x : State). x.broken) same.others in
    let F : Bool → Type 0 = λ broken. ReopensBy broken told u happened reply other.0 in
    (other.0, (subst F (sym same_broken) other.1.0, other.1.1))

-- one request
request_alike : HasSpaceLaws → (told : Bool) (s u : State) (request : Request) (happened : Happened) (reply : Reply) (t : State)
    → IsValid s → IsValid u → IsSame s u → RequestStep told s request happened reply t
    → (v : State) × (RequestStep told u request happened reply v × IsSame t v)
request_alike space told s u (asks client call) happened reply t valid valid_u same step = steps_alike space told s u client call happened reply t valid valid_u same step
request_alike space told s u (reopens client) happened reply t valid valid_u same step = reopening_alike told s u happened reply t valid valid_u same step
request_alike space told s u (bad_line at) happened reply t valid valid_u same step = (u, ((step.0, refl), same_as s t u step.1 same))

-- it leaves a valid state
request_valid : HasSpaceLaws → (told : Bool) (s : State) (request : Request) (happened : Happened) (reply : Reply) (t : State) → IsValid s
    → RequestStep told s request happened reply t → IsValid t
request_valid space told s (asks client call) happened reply t valid step = valid_step space told s client call happened reply t valid step
request_valid space told s (reopens client) happened reply t valid step = valid_reopened told s happened reply t step valid
request_valid space told s (bad_line at) happened reply t valid step = subst IsValid (sym step.1) valid

-- lists of requests
pub runs_alike : HasSpaceLaws → (told : Bool) (s u : State) (requests : List Request) (happened : List Happened) (given : List Reply) (t : State)
    → IsValid s → IsValid u → IsSame s u → Run told s requests happened given t → (v : State) × (Run told u requests happened given v × IsSame t v)
runs_alike space told s u [] [] [] t valid valid_u same run = (u, (refl, same_as s t u run same))
runs_alike space told s u (request ∷ requests) (first ∷ happened) (reply ∷ given) t valid valid_u same run =
    let mid : State = run.0 in
    let other = request_alike space told s u request first reply mid valid valid_u same run.1.0 in
    let rest = runs_alike space told mid other.0 requests happened given t (request_valid space told s request first reply mid valid run.1.0)
    (request_valid space told u request first reply other.0 valid_u other.1.0) other.1.1 run.1.1 in
    (rest.0, ((other.0, (other.1.0, rest.1.0)), rest.1.1))
runs_alike space told s u _ _ _ t valid valid_u same run = absurd run
