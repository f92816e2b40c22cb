-- What a call comes to where nothing happened and memory sufficed, on a log that isn't broken.
use Rattle.clfs_laws.proofs.Words.{◌≡◌, ◌≢◌, ℕ, Bool, true, false, refl, subst, inl, inr, Option, Some, None, MatchOption, LogEntry, Call, Refusal, Fine}
use Rattle.clfs_laws.proofs.Words.{Reply, State, flushed, refusal, Outcome, answer, Step, Comes, IsReply}
use Rattle.clfs_model.specs.declared.refusal.Refusal.TheVariants as refusals
use Rattle.clfs_model.specs.declared.reply.Reply.TheVariants as replies
use Rattle.clfs_laws.proofs.StepCases.{broken_step, whole_step}

-- a step that isn't stopped
abbrev pub ComesBy : Bool → State → ℕ → Call → Reply → State → Option Refusal → Type 0
ComesBy told s client call reply t first = MatchOption first (Comes told (flushed s) (answer s client call) reply t) (λ r. (reply ≡ replies.Refused r) × (t ≡ s))

pub fine_comes : (told : Bool) (s t : State) (client : ℕ) (call : Call) (reply : Reply) → s.broken ≡ false → Step told s client call Fine reply t
    → reply ≢ replies.Refused refusals.NoMemory → ComesBy told s client call reply t (refusal s client call)
fine_comes told s t client call reply whole step memory = elim (whole_step told s client call Fine reply t whole step) [
  | inl want ↦ absurd (memory want.1.0)
  | inr goes ↦ goes
]

-- a call that meets a refusal answers it, and one that meets none is answered
pub fine_refused : (told : Bool) (s t : State) (client : ℕ) (call : Call) (reply : Reply) (first : Refusal) → s.broken ≡ false
    → Step told s client call Fine reply t
    → reply ≢ replies.Refused refusals.NoMemory → refusal s client call ≡ Some first → (reply ≡ replies.Refused first) × (t ≡ s)
fine_refused told s t client call reply first whole step memory is =
    subst (ComesBy told s client call reply t) is (fine_comes told s t client call reply whole step memory)

pub fine_answered : (told : Bool) (s t : State) (client : ℕ) (call : Call) (reply : Reply) → s.broken ≡ false → Step told s client call Fine reply t
    → reply ≢ replies.Refused refusals.NoMemory → refusal s client call ≡ None → Comes told (flushed s) (answer s client call) reply t
fine_answered told s t client call reply whole step memory is =
    subst (ComesBy told s client call reply t) is (fine_comes told s t client call reply whole step memory)

-- a reply that is no refusal
abbrev pub IsNoRefusal : Reply → Type 0
IsNoRefusal reply = (given : Refusal) → reply ≢ replies.Refused given

not_refused_by : (told : Bool) (s t : State) (client : ℕ) (call : Call) (reply : Reply) (first : Option Refusal) → refusal s client call ≡ first
    → IsNoRefusal reply → ComesBy told s client call reply t first → (refusal s client call ≡ None) × Comes told (flushed s) (answer s client call) reply t
not_refused_by told s t client call reply None is none comes = (is, comes)
not_refused_by told s t client call reply (Some first) is none comes = absurd (none first comes.0)

done_by : (told : Bool) (s t : State) (client : ℕ) (call : Call) (reply : Reply) (broken : Bool) → s.broken ≡ broken → IsNoRefusal reply
    → Step told s client call Fine reply t → (refusal s client call ≡ None) × Comes told (flushed s) (answer s client call) reply t
done_by told s t client call reply true is none step = absurd (none refusals.Broken (broken_step told s client call Fine reply t is step).0)
done_by told s t client call reply false is none step =
    not_refused_by told s t client call reply (refusal s client call) refl none
    (fine_comes told s t client call reply is step (none refusals.NoMemory))

-- where the reply is no refusal, the call met none and was answered
pub done : (told : Bool) (s t : State) (client : ℕ) (call : Call) (reply : Reply) → IsNoRefusal reply → Step told s client call Fine reply t
    → (refusal s client call ≡ None) × Comes told (flushed s) (answer s client call) reply t
done told s t client call reply none step = done_by told s t client call reply s.broken refl none step

-- another name for the outcome
pub comes_as : (told : Bool) (stable : ℕ) (o p : Outcome) (reply : Reply) (t : State) → o ≡ p → Comes told stable o reply t → Comes told stable p reply t
comes_as told stable o p reply t same comes = let F : Outcome → Type 0 = λ x. Comes told stable x reply t in subst F same comes

-- the number of a cursor that was found is the machine's
pub same_cursor : (told : Bool) (stable number cursor : ℕ) (entry read : LogEntry) → IsReply told stable (replies.Found number entry) (replies.Found cursor read)
    → cursor ≡ number
same_cursor true stable number cursor entry read is = cc
same_cursor false stable number cursor entry read is = let same : replies.Found cursor read ≡ replies.Found number is.0 = is.1.1 in cc
