-- What a manager's call answers, as a step of the log machine, and how one that may write leaves the disk.
use Rattle.std.specs.Prelude.{◌≡◌, ℕ, ◌≤◌, Bool, true, Result, Ok, Err, IfErr, IsErrOf, length}
use Rattle.clfs_disk.specs.State.{DiskState}
use Rattle.clfs_laws.specs.Refused.{is_of_call}
use Rattle.clfs_lsn.specs.Size.{most_data}
use Rattle.clfs_model.specs.declared.call.Call.{Call}
use Rattle.clfs_model.specs.declared.refusal.Refusal.{Refusal}
use Rattle.clfs_model.specs.declared.refusal.Refusal.TheVariants as refusals
use Rattle.clfs_model.specs.declared.reply.Reply.{Reply}
use Rattle.clfs_model.specs.declared.reply.Reply.TheVariants as replies
use Rattle.clfs_model.specs.declared.state.State.{State}
use Rattle.clfs_model.specs.Happened.{happened_of}
use Rattle.clfs_model.specs.Run.{asks, bad_line}
use Rattle.clfs_model.specs.Step.{Step}
use Rattle.clfs_manager.specs.Crashes.{CrashSurvives}
use Rattle.clfs_manager.specs.Written.{LeavesCopy, WritesDisk}

-- an answer as the machine's reply
abbrev pub replied : {A : Type 0} → (A → Reply) → Result A Refusal → Reply
replied answer (Ok value) = answer value
replied answer (Err refusal) = replies.Refused refusal

-- A call that a client made was answered so, which is a step of the machine from one state to another.
abbrev pub Steps : {A : Type 0} → Bool → State → ℕ → Call → (A → Reply) → Result A Refusal → State → Type 0
Steps told s client call answer result t = Step told s client call (happened_of (replied answer result)) (replied answer result) t

-- A client's call that may write, as a manager answers it: by the reply that has its value it is a step of the machine. Whatever the answer, a crash at any
-- moment of the call leaves what survives it; where memory ran out, nothing but the flushed part of the log, which is what survives a bad line. A broken
-- log makes no call on the disk, nor does a call that is refused for what was asked. A base copy that the call writes is of the second version, and the
-- files that it makes are at full length.
pub record WritesAs {A D : Type 0} (state : D → DiskState) (client : ℕ) (call : Call) (answer : A → Reply) (result : Result A Refusal) (old new : State × D) : Type 0 where
  pub step : (told : Bool) → Steps told old.0 client call answer result new.0
  pub writes : WritesDisk (IsErrOf result refusals.DiskFault) (state old.1) (state new.1)
  pub moments : CrashSurvives (asks client call) old.0 (state old.1) (state new.1)
  pub no_memory : IsErrOf result refusals.NoMemory → CrashSurvives (bad_line 0) old.0 (state old.1) (state new.1)
  pub stopped : old.0.broken ≡ true → new.1 ≡ old.1
  pub refused : IfErr result (λ refusal. is_of_call refusal ≡ true → new.1 ≡ old.1)
  pub copy : LeavesCopy (IsErrOf result refusals.DiskFault) (state old.1) (state new.1)

-- A reply no larger than the memory that serves any: a record's data has the bytes of a largest record at most.
abbrev pub IsSmall : Reply → Type 0
IsSmall (replies.Found cursor entry) = length entry.bytes ≤ most_data
IsSmall (replies.Next entry) = length entry.bytes ≤ most_data
IsSmall _ = Unit {0}

-- The call was refused for what was asked: not because memory ran out, nor by a fault, by damage or because the log is broken.
abbrev pub IsRefused : Reply → Type 0
IsRefused (replies.Refused refusal) = is_of_call refusal ≡ true
IsRefused _ = ⊥
