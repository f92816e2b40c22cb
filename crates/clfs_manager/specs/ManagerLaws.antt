-- The laws of the log machine and of what a crash leaves by which a manager's calls are answered.
use Rattle.std.specs.Prelude.{ℕ, Bool}
use Rattle.clfs_model.specs.declared.call.Call.{Call}
use Rattle.clfs_model.specs.declared.reply.Happened.{Happened}
use Rattle.clfs_model.specs.declared.reply.Reply.{Reply}
use Rattle.clfs_model.specs.declared.state.State.{State}
use Rattle.clfs_model.specs.Conditions.{MeetsCondition}
use Rattle.clfs_model.specs.Step.{ReopenStep, Step}
use Rattle.clfs_model.specs.Storable.{IsStorable}
use Rattle.clfs_model.specs.Valid.{IsValid}
use Rattle.clfs_model.specs.Ways.{GoesTheseWays}
use Rattle.clfs_manager.specs.CallLaws.{CallLaws}

-- the ways in which a step goes, that a step and an opening again leave a state that a log can be in and that files can hold, and what a crash leaves
pub record ManagerLaws : Type 0 where
  pub ways : GoesTheseWays
  pub valid : (told : Bool) (s : State) (client : ℕ) (call : Call) (happened : Happened) (reply : Reply) (t : State)
      → IsValid s → Step told s client call happened reply t → IsValid t
  pub storable : (told : Bool) (s : State) (client : ℕ) (call : Call) (happened : Happened) (reply : Reply) (t : State)
      → IsValid s → IsStorable s → MeetsCondition client call → Step told s client call happened reply t → IsStorable t
  pub opened_valid : (told : Bool) (s : State) (happened : Happened) (reply : Reply) (t : State) → IsValid s → ReopenStep told s happened reply t → IsValid t
  pub opened_storable : (told : Bool) (s : State) (happened : Happened) (reply : Reply) (t : State)
      → IsValid s → IsStorable s → ReopenStep told s happened reply t → IsStorable t
  pub crashes : CallLaws
