-- The steps of a journal, whatever its numbers.
use Rattle.std.specs.Prelude.{◌≡◌, ◌≢◌, Bool, List, [], ◌∷◌}
use Rattle.clfs_model.specs.declared.journal.Entry.{Entry}
use Rattle.clfs_model.specs.declared.refusal.Refusal.TheVariants as refusals
use Rattle.clfs_model.specs.declared.reply.Reply.TheVariants as replies
use Rattle.clfs_model.specs.declared.state.State.{State}
use Rattle.clfs_model.specs.Step.{Step}

-- The entries are steps of the machine, one after the other; out of memory is none.
abbrev pub AreSteps : Bool → State → List Entry → State → Type 0
AreSteps told s [] t = t ≡ s
AreSteps told s (entry ∷ entries) t = (mid : State) × (Step told s entry.client entry.call entry.happened entry.reply mid
    × ((entry.reply ≢ replies.Refused refusals.NoMemory) × AreSteps told mid entries t))
