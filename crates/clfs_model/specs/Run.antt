-- Runs of the log machine over lists of requests.
use Rattle.std.specs.Prelude.{◌≡◌, ℕ, Bool, true, false, if◌then◌else◌, List, [], ◌∷◌, map}
use Rattle.std.specs.Option.{option_map_or}
use Rattle.clfs_model.specs.declared.call.Call.{Call}
use Rattle.clfs_model.specs.declared.refusal.Refusal.TheVariants as refusals
use Rattle.clfs_model.specs.declared.reply.Happened.{Happened}
use Rattle.clfs_model.specs.declared.reply.Happened.TheVariants.{Fine}
use Rattle.clfs_model.specs.declared.reply.Reply.{Reply}
use Rattle.clfs_model.specs.declared.reply.Reply.TheVariants as replies
use Rattle.clfs_model.specs.declared.state.State.{State}
use Rattle.clfs_model.specs.Flush.{flushed, cut}
use Rattle.clfs_model.specs.Refusals.{refusal}
use Rattle.clfs_model.specs.Answers.{Outcome, outcome, answer}
use Rattle.clfs_model.specs.Step.{Step, ReopenStep}

-- what a line asks for: a client's call, a client's opening of the log again, or nothing, with the place where it goes wrong
pub data Request : Type 0 where
  asks : ℕ → Call → Request
  reopens : ℕ → Request
  bad_line : ℕ → Request

-- the reply to one request, and the state that it leaves; a bad line changes nothing
abbrev pub RequestStep : Bool → State → Request → Happened → Reply → State → Type 0
RequestStep told s (asks client call) happened reply t = Step told s client call happened reply t
RequestStep told s (reopens client) happened reply t = ReopenStep told s happened reply t
RequestStep told s (bad_line at) happened reply t = (reply ≡ replies.Refused (refusals.BadLine at)) × (t ≡ s)

-- The machine may give these replies to these requests, one after the other, and come to the last state; each request has one
-- thing that happened.
abbrev pub Run : Bool → State → List Request → List Happened → List Reply → State → Type 0
Run told s [] [] [] t = t ≡ s
Run told s (request ∷ requests) (happened ∷ more) (reply ∷ replies) t =
    (mid : State) × (RequestStep told s request happened reply mid × Run told mid requests more replies t)
Run told s _ _ _ t = ⊥

-- nothing happened in any of the requests
abbrev pub all_fine : List Request → List Happened
all_fine requests = map (λ _. Fine) requests

-- what comes of a request where nothing happens and memory suffices
unfoldable pub fine_outcome : State → Request → Outcome
fine_outcome s (asks client call) =
    if s.broken then outcome (replies.Refused refusals.Broken) s
    else option_map_or (λ first. outcome (replies.Refused first) s) (refusal s client call) (answer s client call)
fine_outcome s (reopens client) =
    if s.broken then outcome (replies.Refused refusals.Broken) s else outcome (replies.Flushed (flushed s)) (cut s)
fine_outcome s (bad_line at) = outcome (replies.Refused (refusals.BadLine at)) s

-- the replies to these requests where nothing happens and memory suffices
abbrev pub replies_of : State → List Request → List Reply
replies_of s [] = []
replies_of s (request ∷ requests) = (fine_outcome s request).reply ∷ replies_of (fine_outcome s request).state requests

-- the state that these requests leave then
abbrev pub state_after : State → List Request → State
state_after s [] = s
state_after s (request ∷ requests) = state_after (fine_outcome s request).state requests

-- whether a request is a client's call or a bad line
abbrev pub is_no_reopening : Request → Bool
is_no_reopening (reopens client) = false
is_no_reopening _ = true
