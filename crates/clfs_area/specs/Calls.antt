-- The calls that a shared area makes of its log, and what the log answered.
use Rattle.std.specs.Prelude.{◌≡◌, ℕ, Bool, true, false, [], Result, Ok, Err}
use Rattle.clfs_model.specs.declared.call.Call.{Call}
use Rattle.clfs_model.specs.declared.call.Call.TheVariants as calls
use Rattle.clfs_model.specs.declared.call.Draft.{Draft}
use Rattle.clfs_model.specs.declared.refusal.Refusal.{Refusal}
use Rattle.clfs_model.specs.declared.reply.Reply.{Reply}
use Rattle.clfs_model.specs.declared.reply.Reply.TheVariants as replies
use Rattle.clfs_shared.specs.Journal.{is_out_of_memory}
use Rattle.clfs_shared.specs.Sessions.{SessionState, IsStepped}

-- The session made this call of the log, and this is the log's answer: if memory ran out the session has seen no more than before. Any other answer
-- is the machine's, at the end of the journal, and the session's own calls became more by this one.
pub record HasAsked (s t : SessionState) (call : Call) (reply : Reply) : Type 0 where
  pub none : is_out_of_memory reply ≡ true → t.seen ≡ s.seen
  pub step : is_out_of_memory reply ≡ false → IsStepped s t call reply

-- an append in sectors that the area holds
abbrev pub held_append : ℕ → Draft → Call
held_append number draft = calls.Append number draft true []

-- the log's answer to an append, by the area's
abbrev pub placed_reply : Result ℕ Refusal → Reply
placed_reply (Ok lsn) = replies.Placed lsn
placed_reply (Err given) = replies.Refused given

-- the log's answer to a call that changes what the area holds, by the area's and by what it holds then
abbrev pub held_reply : {A : Type 0} → ℕ → Result A Refusal → Reply
held_reply held (Ok answer) = replies.Held held
held_reply held (Err given) = replies.Refused given

-- the same, if the area's answer is what it holds
abbrev pub sectors_reply : Result ℕ Refusal → Reply
sectors_reply (Ok held) = replies.Held held
sectors_reply (Err given) = replies.Refused given

-- an LSN or a refusal
abbrev pub is_placed_reply : Reply → Bool
is_placed_reply (replies.Placed lsn) = true
is_placed_reply (replies.Refused given) = true
is_placed_reply _ = false

-- held sectors or a refusal
abbrev pub is_held_reply : Reply → Bool
is_held_reply (replies.Held sectors) = true
is_held_reply (replies.Refused given) = true
is_held_reply _ = false
