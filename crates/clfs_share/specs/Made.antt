-- The calls that a client made, each with its reply, as the journal has them and as the client's lines give them.
use Rattle.std.specs.Prelude.{◌≡◌, ◌⊎◌, ℕ, ◌≤◌, true, if◌then◌else◌, List, [], ◌∷◌, map}
use Rattle.clfs_model.specs.declared.call.Call.{Call}
use Rattle.clfs_model.specs.declared.journal.Entry.{Entry}
use Rattle.clfs_model.specs.declared.refusal.Refusal.TheVariants as refusals
use Rattle.clfs_model.specs.declared.reply.Reply.{Reply}
use Rattle.clfs_model.specs.declared.reply.Reply.TheVariants as replies
use Rattle.clfs_model.specs.Run.{Request, asks, reopens, bad_line}
use Rattle.clfs_model.specs.Step.{takes_memory}
use Rattle.clfs_model.specs.Text.{reply_line, client_of}
use Rattle.clfs_shared.specs.Counts.{most_calls}
use Rattle.clfs_shared.specs.Journal.{is_out_of_memory}

-- a call and its reply
pub record Made : Type 0 where
  pub call : Call
  pub reply : Reply

-- a call that was answered so
abbrev pub made : Call → Reply → Made
made call reply = record { call = call; reply = reply }

-- the call of an entry, with its reply
abbrev pub made_of : Entry → Made
made_of entry = made entry.call entry.reply

-- the calls of entries, each with its reply
abbrev pub all_made : List Entry → List Made
all_made entries = map made_of entries

-- The calls that requests and their replies give, in order. A call that memory ran out for wasn't made.
abbrev pub calls_made : List Request → List Reply → List Made
calls_made [] answers = []
calls_made (request ∷ requests) [] = []
calls_made (asks client call ∷ requests) (reply ∷ answers) =
    if is_out_of_memory reply then calls_made requests answers else made call reply ∷ calls_made requests answers
calls_made (reopens client ∷ requests) (reply ∷ answers) = calls_made requests answers
calls_made (bad_line at ∷ requests) (reply ∷ answers) = calls_made requests answers

-- each request has a reply, and one that asks for nothing has the place where it goes wrong
abbrev pub AreReplies : List Request → List Reply → Type 0
AreReplies [] [] = Unit {0}
AreReplies [] (reply ∷ answers) = ⊥
AreReplies (request ∷ requests) [] = ⊥
AreReplies (asks client call ∷ requests) (reply ∷ answers) = AreReplies requests answers
AreReplies (reopens client ∷ requests) (reply ∷ answers) = ⊥
AreReplies (bad_line at ∷ requests) (reply ∷ answers) = (reply ≡ replies.Refused (refusals.BadLine at)) × AreReplies requests answers

-- Memory ran out only for calls that take some, or where the client has made as many calls as it may.
abbrev pub AreWanted : ℕ → List Request → List Reply → Type 0
AreWanted own [] answers = Unit {0}
AreWanted own (request ∷ requests) [] = Unit {0}
AreWanted own (asks client call ∷ requests) (reply ∷ answers) =
    (is_out_of_memory reply ≡ true → (takes_memory call ≡ true) ⊎ (most_calls ≤ own)) × AreWanted own requests answers
AreWanted own (reopens client ∷ requests) (reply ∷ answers) = AreWanted own requests answers
AreWanted own (bad_line at ∷ requests) (reply ∷ answers) = AreWanted own requests answers

-- the lines of the replies to requests
abbrev pub reply_lines : List Request → List Reply → List (List ℕ)
reply_lines [] answers = []
reply_lines (request ∷ requests) [] = []
reply_lines (request ∷ requests) (reply ∷ answers) = reply_line (client_of request) reply ∷ reply_lines requests answers
