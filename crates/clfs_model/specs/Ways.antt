-- The ways in which a step can go, as facts for whoever shows that a program's call is a step.
use Rattle.std.specs.Prelude.{◌≡◌, ℕ, Bool, true, false, Some, None}
use Rattle.clfs_model.specs.declared.call.Call.{Call}
use Rattle.clfs_model.specs.declared.refusal.Refusal.{Refusal}
use Rattle.clfs_model.specs.declared.refusal.Refusal.TheVariants as refusals
use Rattle.clfs_model.specs.declared.reply.Happened.{Happened}
use Rattle.clfs_model.specs.declared.reply.Happened.TheVariants.{Fine, Fault, Damage}
use Rattle.clfs_model.specs.declared.reply.Reply.{Reply}
use Rattle.clfs_model.specs.declared.reply.Reply.TheVariants as replies
use Rattle.clfs_model.specs.declared.state.State.{State}
use Rattle.clfs_model.specs.Refusals.{refusal}
use Rattle.clfs_model.specs.Answers.{answer}
use Rattle.clfs_model.specs.Step.{Step, IsDamaged, takes_memory, reads_disk, calls_disk, with_broken}

-- A broken log says so; out of memory may stand in place of any other answer of a call that takes memory; the first refusal comes,
-- and a call that meets none is answered; one that isn't refused may meet a fault of the disk where it calls the disk, and damage
-- where it reads.
pub record GoesTheseWays : Type 0 where
  pub broken : (told : Bool) (s : State) (client : ℕ) (call : Call) (happened : Happened) → s.broken ≡ true
      → Step told s client call happened (replies.Refused refusals.Broken) s
  pub no_memory : (told : Bool) (s : State) (client : ℕ) (call : Call) (happened : Happened) → s.broken ≡ false → takes_memory call ≡ true
      → Step told s client call happened (replies.Refused refusals.NoMemory) s
  pub refused : (told : Bool) (s : State) (client : ℕ) (call : Call) (first : Refusal) → s.broken ≡ false → refusal s client call ≡ Some first
      → Step told s client call Fine (replies.Refused first) s
  pub answered : (told : Bool) (s : State) (client : ℕ) (call : Call) (reply : Reply) (t : State) → s.broken ≡ false
      → refusal s client call ≡ None → reply ≡ (answer s client call).reply → t ≡ (answer s client call).state
      → Step told s client call Fine reply t
  pub faulted : (told : Bool) (s : State) (client : ℕ) (call : Call) → s.broken ≡ false → refusal s client call ≡ None → calls_disk s call ≡ true
      → Step told s client call Fault (replies.Refused refusals.DiskFault) (with_broken s)
  pub damaged : (told : Bool) (s : State) (client : ℕ) (call : Call) (reply : Reply) → s.broken ≡ false → refusal s client call ≡ None
      → reads_disk call ≡ true → IsDamaged reply → Step told s client call Damage reply (with_broken s)
