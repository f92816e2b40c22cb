-- A call of the log that makes no call on the disk and takes no memory leaves the log broken or not, as it was.
use Rattle.clfs_txn.proofs.Words.{◌≡◌, ◌≢◌, ℕ, Bool, true, false, inl, inr, refl, sym, ap, ◌∙◌, cases_Bool, Call, Happened, Fine, Fault, Damage, Reply, State}
use Rattle.clfs_txn.proofs.Words.{happened_of, Step, IsBroken, calls_disk, reads_disk, takes_memory}
use Rattle.clfs_model.specs.declared.refusal.Refusal.TheVariants as refusals
use Rattle.clfs_model.specs.declared.reply.Reply.TheVariants as replies
use Rattle.clfs_txn.proofs.Written.{where_not}

-- what the laws say
pub record QuietLaws : Type 0 where
  pub unbroken : (told : Bool) (s : State) (client : ℕ) (call : Call) (happened : Happened) (reply : Reply) (t : State)
      → s.broken ≡ false → happened_of reply ≡ Fine → Step told s client call happened reply t
      → (t.broken ≡ false) × (reply ≢ replies.Refused refusals.Broken)
  pub broken : (told : Bool) (s : State) (client : ℕ) (call : Call) (happened : Happened) (reply : Reply) (t : State)
      → s.broken ≡ true → Step told s client call happened reply t → IsBroken s reply t

-- the call meets nothing
pub record IsQuiet (s : State) (call : Call) : Type 0 where
  pub disk : calls_disk s call ≡ false
  pub reads : reads_disk call ≡ false
  pub memory : takes_memory call ≡ false

calm : (told : Bool) (s : State) (client : ℕ) (call : Call) (happened : Happened) (reply : Reply) (t : State) → IsQuiet s call → s.broken ≡ false
    → Step told s client call happened reply t → happened ≡ Fine
unfolding Step
calm told s client call Fine reply t quiet whole step = refl
calm told s client call Fault reply t quiet whole step = elim (where_not s.broken _ _ whole step) [
  | inl lacks ↦ let takes = lacks.0 in let none = quiet.memory in absurd (cc (takes, none))
  | inr goes ↦ let called = goes.1.0 in let none = quiet.disk in absurd (cc (called, none))
]
calm told s client call Damage reply t quiet whole step = elim (where_not s.broken _ _ whole step) [
  | inl lacks ↦ let takes = lacks.0 in let none = quiet.memory in absurd (cc (takes, none))
  | inr goes ↦ let read = goes.1.0 in let none = quiet.reads in absurd (cc (read, none))
]

pub still_broken : QuietLaws → (told : Bool) (s : State) (client : ℕ) (call : Call) (reply : Reply) (t : State) → IsQuiet s call
    → Step told s client call (happened_of reply) reply t → t.broken ≡ s.broken
still_broken laws told s client call reply t quiet step = elim (cases_Bool s.broken) [
  | inl broken ↦ ap (λ (x : State). x.broken) (laws.broken told s client call (happened_of reply) reply t broken step).1
  | inr whole ↦
      (laws.unbroken told s client call (happened_of reply) reply t whole (calm told s client call (happened_of reply) reply t quiet whole step) step).0 ∙ sym whole
]
