-- Moving a base as a call of the machine, in which a flush is another one.
use Rattle.clfs_manager.proofs.Words.{◌≡◌, ℕ, true, false, sym, ap, ◌∙◌, None, Refusal, Fine, Fault, State, Outcome, answer, outcome, flush}
use Rattle.clfs_manager.proofs.Words.{happened_of_refusal, refusal, Step, GoesTheseWays, is_of_call, with_base}
use Rattle.clfs_model.specs.declared.call.Call.TheVariants as calls
use Rattle.clfs_model.specs.declared.refusal.Refusal.TheVariants as refusals
use Rattle.clfs_model.specs.declared.reply.Reply.TheVariants as replies
use Rattle.clfs_manager.proofs.ReadSteps.{own_is_fine}

-- a refusal of a call's own list is no fault of the disk
pub own_is_no_fault : (given : Refusal) → is_of_call given ≡ true → given ≡ refusals.DiskFault → ⊥
own_is_no_fault given own is = let clash : Fault ≡ Fine = sym (ap happened_of_refusal is) ∙ own_is_fine given own in cc clash

pub advanced_step : GoesTheseWays → (s : State) (client number lsn stream : ℕ) → s.broken ≡ false → refusal s client (calls.Advance number lsn) ≡ None
    → answer s client (calls.Advance number lsn) ≡ outcome (replies.Base lsn) (with_base stream lsn (flush s))
    → Step false s client (calls.Advance number lsn) Fine (replies.Base lsn) (with_base stream lsn (flush s))
advanced_step ways s client number lsn stream whole allowed is =
    ways.answered false s client (calls.Advance number lsn) (replies.Base lsn) (with_base stream lsn (flush s)) whole allowed
    (sym (ap (λ (o : Outcome). o.reply) is)) (sym (ap (λ (o : Outcome). o.state) is))
