-- A step leaves the state as it was, or as it was and broken, or as the answer says.
use Rattle.clfs_laws.proofs.Words.{◌≡◌, ℕ, Bool, true, false, refl, sym, subst, inl, inr, Option, Some, None, MatchOption, Call, Refusal, Happened, Fine}
use Rattle.clfs_laws.proofs.Words.{Fault, Damage, Reply, State, flushed, refusal, answer, Step, Goes, Comes, with_broken}
use Rattle.clfs_model.specs.declared.reply.Reply.TheVariants as replies
use Rattle.clfs_laws.proofs.StepCases.{broken_step, whole_step}

-- what holds of those three states
pub record HoldsOfEach (P : State → Type 0) (s : State) (client : ℕ) (call : Call) : Type 0 where
  pub same : P s
  pub broken : P (with_broken s)
  pub answered : refusal s client call ≡ None → P (answer s client call).state

-- another name for the state
at_state : (P : State → Type 0) (s t : State) → t ≡ s → P s → P t
at_state P s t same is = subst P (sym same) is

fine_leads : (P : State → Type 0) (told : Bool) (s : State) (client : ℕ) (call : Call) (reply : Reply) (t : State) (first : Option Refusal)
    → refusal s client call ≡ first
    → MatchOption first (Comes told (flushed s) (answer s client call) reply t) (λ r. (reply ≡ replies.Refused r) × (t ≡ s)) → HoldsOfEach P s client call → P t
fine_leads P told s client call reply t None is comes holds = at_state P (answer s client call).state t comes.1 (holds.answered is)
fine_leads P told s client call reply t (Some first) is comes holds = at_state P s t comes.1 holds.same

goes_leads : (P : State → Type 0) (told : Bool) (s : State) (client : ℕ) (call : Call) (happened : Happened) (reply : Reply) (t : State)
    → Goes told s client call happened reply t → HoldsOfEach P s client call → P t
goes_leads P told s client call Fine reply t goes holds = fine_leads P told s client call reply t (refusal s client call) refl goes holds
goes_leads P told s client call Fault reply t goes holds = at_state P (with_broken s) t goes.1.1.1 holds.broken
goes_leads P told s client call Damage reply t goes holds = at_state P (with_broken s) t goes.1.1.1 holds.broken

leads_by : (P : State → Type 0) (told : Bool) (s : State) (client : ℕ) (call : Call) (happened : Happened) (reply : Reply) (t : State) (broken : Bool)
    → s.broken ≡ broken → Step told s client call happened reply t → HoldsOfEach P s client call → P t
leads_by P told s client call happened reply t true is step holds = at_state P s t (broken_step told s client call happened reply t is step).1 holds.same
leads_by P told s client call happened reply t false is step holds = elim (whole_step told s client call happened reply t is step) [
  | inl want ↦ at_state P s t want.1.1 holds.same
  | inr goes ↦ goes_leads P told s client call happened reply t goes holds
]

-- holds of the state that a step leaves
pub step_leads : (P : State → Type 0) (told : Bool) (s : State) (client : ℕ) (call : Call) (happened : Happened) (reply : Reply) (t : State)
    → Step told s client call happened reply t → HoldsOfEach P s client call → P t
step_leads P told s client call happened reply t step holds = leads_by P told s client call happened reply t s.broken refl step holds
