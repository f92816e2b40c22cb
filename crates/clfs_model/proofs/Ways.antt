-- The ways in which the machine can step, for callers to cite.
use Rattle.std.proofs.Common.{◌≡◌, ℕ, Bool, true, false, refl, sym, inl, inr, subst}
use Rattle.std.specs.Prelude.{Option, Some, None, MatchOption, MatchBool, nat_lt}
use Rattle.clfs_lsn.specs.declared.entry.LogEntry.{LogEntry}
use Rattle.clfs_model.specs.declared.call.Call.{Call}
use Rattle.clfs_model.specs.declared.reply.Happened.{Happened}
use Rattle.clfs_model.specs.declared.reply.Happened.TheVariants.{Fine, Fault, Damage}
use Rattle.clfs_model.specs.declared.refusal.Refusal.{Refusal}
use Rattle.clfs_model.specs.declared.refusal.Refusal.TheVariants as refusals
use Rattle.clfs_model.specs.declared.reply.Reply.{Reply}
use Rattle.clfs_model.specs.declared.reply.Reply.TheVariants as replies
use Rattle.clfs_model.specs.declared.state.State.{State}
use Rattle.clfs_model.specs.Refusals.{refusal}
use Rattle.clfs_model.specs.Answers.{answer}
use Rattle.clfs_model.specs.Step.{Step, IsReply, IsReplyRead, IsRecordRead, IsDamaged, takes_memory, reads_disk, calls_disk, with_broken}

-- the second of two facts where the test is false
at_false : (b : Bool) (P Q : Type 0) → b ≡ false → Q → MatchBool b P Q
at_false b P Q e q = let F : Bool → Type 0 = λ c. MatchBool c P Q in subst F (sym e) q

-- the first of two facts where the test is true
at_true : (b : Bool) (P Q : Type 0) → b ≡ true → P → MatchBool b P Q
at_true b P Q e p = let F : Bool → Type 0 = λ c. MatchBool c P Q in subst F (sym e) p

-- the fact that belongs to an option's case
at_option : {A : Type 0} (o p : Option A) (P : Type 0) (Q : A → Type 0) → o ≡ p → MatchOption p P Q → MatchOption o P Q
at_option {A} o p P Q e q = let F : Option A → Type 0 = λ c. MatchOption c P Q in subst F (sym e) q

-- the record that is read may be the machine's own
own_record : (stable : ℕ) (entry : LogEntry) → IsRecordRead stable entry entry
own_record stable entry = by_place (nat_lt entry.lsn stable)
  where
    by_place : (below : Bool) → MatchBool below (entry.lsn ≡ entry.lsn) (entry ≡ entry)
    by_place true = refl
    by_place false = refl

own_read : (stable : ℕ) (reply : Reply) → IsReplyRead stable reply reply
own_read stable (replies.Found cursor entry) = (entry, (own_record stable entry, refl))
own_read stable (replies.Next entry) = (entry, (own_record stable entry, refl))
own_read stable (replies.Stream number) = refl
own_read stable (replies.Area number) = refl
own_read stable replies.Done = refl
own_read stable (replies.Held sectors) = refl
own_read stable (replies.Sectors sectors) = refl
own_read stable (replies.Placed lsn) = refl
own_read stable (replies.Flushed lsn) = refl
own_read stable (replies.Base lsn) = refl
own_read stable (replies.Tail lsn) = refl
own_read stable (replies.Extents extents) = refl
own_read stable (replies.Containers containers) = refl
own_read stable (replies.Info info) = refl
own_read stable (replies.Refused refusal) = refl

-- the machine's own reply is its reply over every disk
own_reply : (told : Bool) (stable : ℕ) (answered reply : Reply) → reply ≡ answered → IsReply told stable answered reply
own_reply true stable answered reply e = e
own_reply false stable answered reply e = let F : Reply → Type 0 = λ r. IsReplyRead stable answered r in subst F (sym e) (own_read stable answered)

-- a broken log answers that it is broken
pub is_broken : (told : Bool) (s : State) (client : ℕ) (call : Call) (happened : Happened) → s.broken ≡ true
    → Step told s client call happened (replies.Refused refusals.Broken) s
unfolding Step
is_broken told s client call happened broken = at_true s.broken _ _ broken (refl, refl)

-- out of memory may stand in place of any other answer
pub no_memory : (told : Bool) (s : State) (client : ℕ) (call : Call) (happened : Happened) → s.broken ≡ false → takes_memory call ≡ true
    → Step told s client call happened (replies.Refused refusals.NoMemory) s
unfolding Step
no_memory told s client call happened whole takes = at_false s.broken _ _ whole (inl (takes, (refl, refl)))

-- the first refusal comes
pub refused : (told : Bool) (s : State) (client : ℕ) (call : Call) (first : Refusal) → s.broken ≡ false → refusal s client call ≡ Some first
    → Step told s client call Fine (replies.Refused first) s
unfolding Step
refused told s client call first whole e =
    at_false s.broken _ _ whole (inr (at_option (refusal s client call) (Some first) _ _ e (refl, refl)))

-- a call that isn't refused is answered
pub answered : (told : Bool) (s : State) (client : ℕ) (call : Call) (reply : Reply) (t : State) → s.broken ≡ false
    → refusal s client call ≡ None → reply ≡ (answer s client call).reply → t ≡ (answer s client call).state
    → Step told s client call Fine reply t
unfolding Step
answered told s client call reply t whole e r st =
    at_false s.broken _ _ whole (inr (at_option (refusal s client call) None _ _ e (own_reply told _ _ reply r, st)))

-- a call that isn't refused and that calls the disk may meet a fault
pub faulted : (told : Bool) (s : State) (client : ℕ) (call : Call) → s.broken ≡ false → refusal s client call ≡ None → calls_disk s call ≡ true
    → Step told s client call Fault (replies.Refused refusals.DiskFault) (with_broken s)
unfolding Step
faulted told s client call whole e calls = at_false s.broken _ _ whole (inr (e, (calls, (refl, refl))))

-- a call that isn't refused and that reads may meet damage
pub damaged : (told : Bool) (s : State) (client : ℕ) (call : Call) (reply : Reply) → s.broken ≡ false → refusal s client call ≡ None → reads_disk call ≡ true
    → IsDamaged reply → Step told s client call Damage reply (with_broken s)
unfolding Step
damaged told s client call reply whole e reads damage = at_false s.broken _ _ whole (inr (e, (reads, (damage, refl))))
