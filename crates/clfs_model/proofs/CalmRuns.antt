-- Replies where nothing happens and memory suffices are those of a run.
use Rattle.std.proofs.Common.{◌≡◌, ℕ, Bool, true, false, refl, List, [], ◌∷◌}
use Rattle.std.specs.Prelude.{Option, Some, None, if◌then◌else◌}
use Rattle.std.specs.List.{list_all}
use Rattle.std.specs.Option.{option_map_or}
use Rattle.clfs_model.specs.declared.call.Call.{Call}
use Rattle.clfs_model.specs.declared.refusal.Refusal.{Refusal}
use Rattle.clfs_model.specs.declared.refusal.Refusal.TheVariants as refusals
use Rattle.clfs_model.specs.declared.reply.Happened.TheVariants.{Fine}
use Rattle.clfs_model.specs.declared.reply.Reply.TheVariants as replies
use Rattle.clfs_model.specs.declared.state.State.{State}
use Rattle.clfs_model.specs.Refusals.{refusal}
use Rattle.clfs_model.specs.Answers.{Outcome, outcome, answer}
use Rattle.clfs_model.specs.Step.{Step}
use Rattle.clfs_model.specs.Run.{Request, asks, reopens, bad_line, RequestStep, Run, all_fine, fine_outcome, replies_of, state_after, is_no_reopening}
use Rattle.clfs_model.proofs.Ways.{is_broken, refused, answered}

-- the outcome of a call on a log that isn't broken
abbrev whole_outcome : State → ℕ → Call → Option Refusal → Outcome
whole_outcome s client call found = option_map_or (λ first. outcome (replies.Refused first) s) found (answer s client call)

whole_step : (s : State) (client : ℕ) (call : Call) (found : Option Refusal) → s.broken ≡ false → refusal s client call ≡ found
    → Step true s client call Fine (whole_outcome s client call found).reply (whole_outcome s client call found).state
whole_step s client call None whole e = answered true s client call _ _ whole e refl refl
whole_step s client call (Some first) whole e = refused true s client call first whole e

-- the outcome of a call by whether the log is broken
abbrev outcome_by : Bool → State → ℕ → Call → Outcome
outcome_by broken s client call =
    if broken then outcome (replies.Refused refusals.Broken) s else whole_outcome s client call (refusal s client call)

step_by : (s : State) (client : ℕ) (call : Call) (broken : Bool) → s.broken ≡ broken
    → Step true s client call Fine (outcome_by broken s client call).reply (outcome_by broken s client call).state
step_by s client call true e = is_broken true s client call Fine e
step_by s client call false e = whole_step s client call (refusal s client call) e refl

-- one call
fine_step : (s : State) (client : ℕ) (call : Call)
    → Step true s client call Fine (fine_outcome s (asks client call)).reply (fine_outcome s (asks client call)).state
unfolding fine_outcome
fine_step s client call = step_by s client call s.broken refl

-- one bad line
bad_step : (s : State) (at : ℕ) → RequestStep true s (bad_line at) Fine (fine_outcome s (bad_line at)).reply (fine_outcome s (bad_line at)).state
unfolding fine_outcome
bad_step s at = (refl, refl)

-- a list of requests
pub calm_run : (s : State) (requests : List Request) → list_all is_no_reopening requests ≡ true
    → Run true s requests (all_fine requests) (replies_of s requests) (state_after s requests)
calm_run s [] none = refl
calm_run s (asks client call ∷ requests) none = (_, (fine_step s client call, calm_run (fine_outcome s (asks client call)).state requests none))
calm_run s (reopens client ∷ requests) none = absurd (cc)
calm_run s (bad_line at ∷ requests) none = (_, (bad_step s at, calm_run (fine_outcome s (bad_line at)).state requests none))
