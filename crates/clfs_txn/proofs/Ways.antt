-- The ways that a call of the log can go, one by one, and what each leaves of a plan.
use Rattle.clfs_txn.proofs.Words.{◌≡◌, ℕ, Bool, true, false, refl, subst, inl, inr, Option, Some, None, MatchOption, Call, Refusal, Happened, Fine, Fault}
use Rattle.clfs_txn.proofs.Words.{Damage, Reply, State, answer, flushed, refusal, Step, Goes, Comes, IsBroken, IsDamaged, calls_disk, reads_disk}
use Rattle.clfs_txn.proofs.Words.{takes_memory, Plan, calls, CarriesOut}
use Rattle.clfs_model.specs.declared.refusal.Refusal.TheVariants as refusals
use Rattle.clfs_model.specs.declared.reply.Reply.TheVariants as replies
use Rattle.clfs_model.specs.Step.{with_broken}
use Rattle.clfs_txn.proofs.Written.{where_not, where_so}

-- how a call of a log that isn't broken went: the refusal that came, with the state after it, or the answer
pub data Way (told : Bool) (s : State) (client : ℕ) (call : Call) (reply : Reply) (t : State) : Type 0 where
  lacked : takes_memory call ≡ true → reply ≡ replies.Refused refusals.NoMemory → t ≡ s → Way told s client call reply t
  came : refusal s client call ≡ None → Comes told (flushed s) (answer s client call) reply t → Way told s client call reply t
  refused : (first : Refusal) → refusal s client call ≡ Some first → reply ≡ replies.Refused first → t ≡ s → Way told s client call reply t
  faulted : calls_disk s call ≡ true → reply ≡ replies.Refused refusals.DiskFault → t ≡ with_broken s → Way told s client call reply t
  damaged : reads_disk call ≡ true → IsDamaged reply → t ≡ with_broken s → Way told s client call reply t

way_fine : (told : Bool) (s : State) (client : ℕ) (call : Call) (reply : Reply) (t : State) (found : Option Refusal) → refusal s client call ≡ found
    → MatchOption found (Comes told (flushed s) (answer s client call) reply t) (λ first. (reply ≡ replies.Refused first) × (t ≡ s))
    → Way told s client call reply t
way_fine told s client call reply t None is comes = came is comes
way_fine told s client call reply t (Some first) is goes = refused first is goes.0 goes.1

way_of : (told : Bool) (s : State) (client : ℕ) (call : Call) (happened : Happened) (reply : Reply) (t : State)
    → Goes told s client call happened reply t → Way told s client call reply t
way_of told s client call Fine reply t goes = way_fine told s client call reply t (refusal s client call) refl goes
way_of told s client call Fault reply t goes = faulted goes.1.0 goes.1.1.0 goes.1.1.1
way_of told s client call Damage reply t goes = damaged goes.1.0 goes.1.1.0 goes.1.1.1

pub way : (told : Bool) (s : State) (client : ℕ) (call : Call) (happened : Happened) (reply : Reply) (t : State) → s.broken ≡ false
    → Step told s client call happened reply t → Way told s client call reply t
unfolding Step
way told s client call happened reply t whole step = elim (where_not s.broken _ _ whole step) [
  | inl lacks ↦ lacked lacks.0 lacks.1.0 lacks.1.1
  | inr goes ↦ way_of told s client call happened reply t goes
]

-- a broken log says so
pub broken_way : (told : Bool) (s : State) (client : ℕ) (call : Call) (happened : Happened) (reply : Reply) (t : State) → s.broken ≡ true
    → Step told s client call happened reply t → IsBroken s reply t
unfolding Step
broken_way told s client call happened reply t broken step = where_so s.broken _ _ broken step

-- a call that was carried out, and what comes after it
pub record Called {A : Type 0} (told : Bool) (client : ℕ) (s : State) (call : Call) (rest : Reply → Plan A) (result : A) (t : State) : Type 0 where
  pub reply : Reply
  pub mid : State
  pub went : Way told s client call reply mid
  pub behind : CarriesOut told client mid (rest reply) result t

pub called : {A : Type 0} (told : Bool) (client : ℕ) (s : State) (call : Call) (rest : Reply → Plan A) (result : A) (t : State) → s.broken ≡ false
    → CarriesOut told client s (calls call rest) result t → Called told client s call rest result t
called told client s call rest result t whole (happened, reply, mid, (step, behind)) = record {
  reply = reply;
  mid = mid;
  went = way told s client call happened reply mid whole step;
  behind = behind;
}

-- what came where the reply is known
pub by_reply : {A : Type 0} (told : Bool) (client : ℕ) (s : State) (rest : Reply → Plan A) (reply other : Reply) (mid same : State) (result : A) (t : State)
    → reply ≡ other → mid ≡ same → CarriesOut told client mid (rest reply) result t → CarriesOut told client same (rest other) result t
by_reply told client s rest reply other mid same result t p q behind =
    subst (λ (x : State). CarriesOut told client x (rest other) result t) q
    (subst (λ (r : Reply). CarriesOut told client mid (rest r) result t) p behind)
