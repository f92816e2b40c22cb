-- A run in two parts.
use Rattle.std.specs.Prelude.{◌≡◌, Bool, List, ◌++◌}
use Rattle.clfs_model.specs.declared.reply.Happened.{Happened}
use Rattle.clfs_model.specs.declared.reply.Reply.{Reply}
use Rattle.clfs_model.specs.declared.state.State.{State}
use Rattle.clfs_model.specs.Run.{Request, Run}

-- a run over some requests and then over others, with the state between them
pub record RunsBy (told : Bool) (s : State) (front rest : List Request) (happened : List Happened) (replies : List Reply) (t : State) : Type 0 where
  pub mid : State
  pub of_front : List Happened
  pub of_rest : List Happened
  pub to_front : List Reply
  pub to_rest : List Reply
  pub happened_is : happened ≡ of_front ++ of_rest
  pub replies_are : replies ≡ to_front ++ to_rest
  pub first : Run told s front of_front to_front mid
  pub second : Run told mid rest of_rest to_rest t
