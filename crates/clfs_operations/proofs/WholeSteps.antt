-- A step that tells no fault and no damage leaves a log that isn't broken so, and its reply doesn't say that the log is broken: a law of the
-- machine, in terms of what a reply tells.
use Rattle.std.proofs.Common.{◌≡◌, ◌≢◌, ℕ, Bool, false, refl, ap, ◌∙◌}
use Rattle.clfs_model.specs.declared.call.Call.{Call}
use Rattle.clfs_model.specs.declared.refusal.Refusal.TheVariants as refusals
use Rattle.clfs_model.specs.declared.reply.Happened.{Happened}
use Rattle.clfs_model.specs.declared.reply.Happened.TheVariants.{Fine}
use Rattle.clfs_model.specs.declared.reply.Reply.{Reply}
use Rattle.clfs_model.specs.declared.reply.Reply.TheVariants as replies
use Rattle.clfs_model.specs.declared.state.State.{State}
use Rattle.clfs_model.specs.Happened.{happened_of}
use Rattle.clfs_model.specs.Run.{Request, RequestStep, asks, reopens, bad_line}
use Rattle.clfs_model.specs.Step.{Step, ReopenStep}
use Rattle.clfs_operations.specs.Told.{tells_fault, tells_damage, tells_broken}

-- what a call and opening again leave of a log that isn't broken, as the law says it
pub record StayUnbroken : Type 0 where
  pub calls : (told : Bool) (s : State) (client : ℕ) (call : Call) (happened : Happened) (reply : Reply) (t : State)
      → s.broken ≡ false → happened_of reply ≡ Fine → Step told s client call happened reply t
      → (t.broken ≡ false) × (reply ≢ replies.Refused refusals.Broken)
  pub reopening : (told : Bool) (s : State) (happened : Happened) (reply : Reply) (t : State)
      → s.broken ≡ false → happened_of reply ≡ Fine → ReopenStep told s happened reply t
      → (t.broken ≡ false) × (reply ≢ replies.Refused refusals.Broken)

-- what a step leaves that told nothing of the disk
pub record LeavesWhole (reply : Reply) (t : State) : Type 0 where
  pub whole : t.broken ≡ false
  pub says_nothing : tells_broken reply ≡ false

-- in a step whose reply tells neither a fault nor damage nothing happened
fine_of : (reply : Reply) → tells_fault reply ≡ false → tells_damage reply ≡ false → happened_of reply ≡ Fine
fine_of (replies.Refused refusals.DiskFault) no_fault no_damage = absurd (cc no_fault)
fine_of (replies.Refused (refusals.Damaged container offset at)) no_fault no_damage = absurd (cc no_damage)
fine_of _ no_fault no_damage = refl

-- another reply than the refusal of a broken log doesn't tell that it is one
silent : (reply : Reply) → reply ≢ replies.Refused refusals.Broken → tells_broken reply ≡ false
silent (replies.Refused refusals.Broken) other = absurd (other refl)
silent _ other = refl

left_whole : (reply : Reply) (t : State) → (t.broken ≡ false) × (reply ≢ replies.Refused refusals.Broken) → LeavesWhole reply t
left_whole reply t is = record { whole = is.0; says_nothing = silent reply is.1 }

pub request_whole : StayUnbroken → (told : Bool) (s : State) (request : Request) (happened : Happened) (reply : Reply) (t : State) → s.broken ≡ false
    → tells_fault reply ≡ false → tells_damage reply ≡ false → RequestStep told s request happened reply t → LeavesWhole reply t
request_whole stay told s (asks client call) happened reply t whole no_fault no_damage step =
    left_whole reply t (stay.calls told s client call happened reply t whole (fine_of reply no_fault no_damage) step)
request_whole stay told s (reopens client) happened reply t whole no_fault no_damage step =
    left_whole reply t (stay.reopening told s happened reply t whole (fine_of reply no_fault no_damage) step)
request_whole stay told s (bad_line at) happened reply t whole no_fault no_damage step =
    record { whole = ap (λ (u : State). u.broken) step.1 ∙ whole; says_nothing = ap tells_broken step.0 }
