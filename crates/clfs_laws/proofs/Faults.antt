-- A call that met a disk fault or damage leaves the log broken.
use Rattle.clfs_laws.proofs.Words.{◌≡◌, ℕ, Bool, true, false, refl, ap, ◌∙◌, inl, inr, ◌⊎◌, Option, Some, None, MatchOption, Call, Refusal, Happened, Fine}
use Rattle.clfs_laws.proofs.Words.{Fault, Damage, Reply, State, happened_of, happened_of_refusal, flushed, refusal, answer, Step, Goes, Comes, IsReply}
use Rattle.clfs_laws.proofs.Words.{IsReplyRead, is_of_call, is_own_reply}
use Rattle.clfs_model.specs.declared.refusal.Refusal.TheVariants as refusals
use Rattle.clfs_model.specs.declared.reply.Reply.TheVariants as replies
use Rattle.clfs_laws.proofs.CallRefusals.{Told, own_of, terms_of, refusal_told}
use Rattle.clfs_laws.proofs.OwnAnswers.{answer_own}
use Rattle.clfs_laws.proofs.StepCases.{broken_step, whole_step}

-- nothing happened where a call was refused by its own list, or answered
pub fine_refusal : (given : Refusal) → is_of_call given ≡ true → happened_of_refusal given ≡ Fine
fine_refusal refusals.DiskFault own = absurd (cc)
fine_refusal (refusals.Damaged container offset at) own = absurd (cc)
fine_refusal _ own = refl

fine_reply : (reply : Reply) → is_own_reply reply ≡ true → happened_of reply ≡ Fine
fine_reply (replies.Refused given) own = fine_refusal given own
fine_reply _ own = refl

-- whatever is read of a record, the reply tells that the same happened
read_fine : (stable : ℕ) (answered reply : Reply) → IsReplyRead stable answered reply → happened_of reply ≡ happened_of answered
read_fine stable (replies.Found cursor entry) reply is = ap happened_of is.1.1
read_fine stable (replies.Next entry) reply is = ap happened_of is.1.1
read_fine stable (replies.Stream number) reply is = ap happened_of is
read_fine stable (replies.Area number) reply is = ap happened_of is
read_fine stable replies.Done reply is = ap happened_of is
read_fine stable (replies.Held sectors) reply is = ap happened_of is
read_fine stable (replies.Sectors sectors) reply is = ap happened_of is
read_fine stable (replies.Placed lsn) reply is = ap happened_of is
read_fine stable (replies.Flushed lsn) reply is = ap happened_of is
read_fine stable (replies.Base lsn) reply is = ap happened_of is
read_fine stable (replies.Tail lsn) reply is = ap happened_of is
read_fine stable (replies.Extents extents) reply is = ap happened_of is
read_fine stable (replies.Containers containers) reply is = ap happened_of is
read_fine stable (replies.Info info) reply is = ap happened_of is
read_fine stable (replies.Refused refusal) reply is = ap happened_of is

reply_fine : (told : Bool) (stable : ℕ) (answered reply : Reply) → IsReply told stable answered reply → happened_of reply ≡ happened_of answered
reply_fine true stable answered reply is = ap happened_of is
reply_fine false stable answered reply is = read_fine stable answered reply is

-- where nothing happened, the reply tells so
pub fine_told : (told : Bool) (s : State) (client : ℕ) (call : Call) (reply : Reply) (t : State) (first : Option Refusal) → Told (terms_of s client call) first
    → MatchOption first (Comes told (flushed s) (answer s client call) reply t) (λ r. (reply ≡ replies.Refused r) × (t ≡ s)) → happened_of reply ≡ Fine
fine_told told s client call reply t None tells comes = reply_fine told (flushed s) (answer s client call).reply reply comes.0 ∙ fine_reply (answer s client call).reply (answer_own s client call)
fine_told told s client call reply t (Some first) tells comes = ap happened_of comes.0 ∙ fine_refusal first (own_of (terms_of s client call) first tells)

-- a step tells that nothing happened, or leaves the log broken
goes_told : (told : Bool) (s : State) (client : ℕ) (call : Call) (happened : Happened) (reply : Reply) (t : State)
    → Goes told s client call happened reply t → (happened_of reply ≡ Fine) ⊎ (t.broken ≡ true)
goes_told told s client call Fine reply t goes = inl (fine_told told s client call reply t (refusal s client call) (refusal_told s client call) goes)
goes_told told s client call Fault reply t goes = inr (ap (λ (x : State). x.broken) goes.1.1.1)
goes_told told s client call Damage reply t goes = inr (ap (λ (x : State). x.broken) goes.1.1.1)

told_by : (told : Bool) (s : State) (client : ℕ) (call : Call) (happened : Happened) (reply : Reply) (t : State) (broken : Bool) → s.broken ≡ broken
    → Step told s client call happened reply t → (happened_of reply ≡ Fine) ⊎ (t.broken ≡ true)
told_by told s client call happened reply t true is step = inl (ap happened_of (broken_step told s client call happened reply t is step).0)
told_by told s client call happened reply t false is step = elim (whole_step told s client call happened reply t is step) [
  | inl want ↦ inl (ap happened_of want.1.0)
  | inr goes ↦ goes_told told s client call happened reply t goes
]

-- where the reply doesn't tell that nothing happened, the log is broken
pub not_fine_breaks : (told : Bool) (s : State) (client : ℕ) (call : Call) (happened : Happened) (reply : Reply) (t : State)
    → Step told s client call happened reply t → (happened_of reply ≡ Fine → ⊥) → t.broken ≡ true
not_fine_breaks told s client call happened reply t step not_fine = elim (told_by told s client call happened reply t s.broken refl step) [
  | inl fine ↦ absurd (not_fine fine)
  | inr broken ↦ broken
]
