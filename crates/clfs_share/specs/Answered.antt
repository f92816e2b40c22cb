-- How a line of a client is answered over a shared log, by the client's session.
use Rattle.std.specs.Prelude.{◌≡◌, ◌⊎◌, ℕ, ◌≤◌, true, false, List, length}
use Rattle.clfs_model.specs.declared.call.Call.{Call}
use Rattle.clfs_model.specs.declared.refusal.Refusal.TheVariants as refusals
use Rattle.clfs_model.specs.declared.reply.Reply.{Reply}
use Rattle.clfs_model.specs.declared.reply.Reply.TheVariants as replies
use Rattle.clfs_model.specs.Lines.{without_return}
use Rattle.clfs_model.specs.Run.{Request, asks, reopens, bad_line}
use Rattle.clfs_model.specs.Step.{takes_memory}
use Rattle.clfs_model.specs.Text.{reply_line, client_of}
use Rattle.clfs_turn.specs.Seats.{IsSameSeat}
use Rattle.clfs_shared.specs.Counts.{most_calls}
use Rattle.clfs_shared.specs.Journal.{is_out_of_memory}
use Rattle.clfs_shared.specs.Sessions.{SessionState, IsStepped, own_entries}
use Rattle.clfs_share.specs.Lines.{own_request}

-- A call was answered. If memory ran out nothing has changed, and the call takes memory or the client has made as many calls as it may. Else the call
-- stands after all that the session had seen, at the end of a journal that leads to a state from which it is a step of the log machine, and the session
-- has seen all of that.
pub record AnswersCall (s : SessionState) (call : Call) (reply : Reply) (t : SessionState) : Type 0 where
  pub same : IsSameSeat s t
  pub none : is_out_of_memory reply ≡ true → t.seen ≡ s.seen
  pub wanted : is_out_of_memory reply ≡ true → (takes_memory call ≡ true) ⊎ (most_calls ≤ length (own_entries s))
  pub step : is_out_of_memory reply ≡ false → IsStepped s t call reply

-- What a line asks for was answered. A line that asks for nothing leaves the session as it is.
abbrev pub AnswersRequest : SessionState → Request → Reply → SessionState → Type 0
AnswersRequest s (asks client call) reply t = (client ≡ s.client) × AnswersCall s call reply t
AnswersRequest s (reopens client) reply t = ⊥
AnswersRequest s (bad_line at) reply t = (reply ≡ replies.Refused (refusals.BadLine at)) × (t ≡ s)

-- One line was answered, and its reply is this text.
pub record AnswersLine (s : SessionState) (line text : List ℕ) (t : SessionState) : Type 0 where
  pub reply : Reply
  pub answered : AnswersRequest s (own_request s.client (without_return line)) reply t
  pub is : text ≡ reply_line (client_of (own_request s.client (without_return line))) reply
