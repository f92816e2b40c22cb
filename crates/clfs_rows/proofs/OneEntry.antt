-- A journal of one entry.
use Rattle.clfs_rows.proofs.Words.{Bool, sym, subst, Entry, State, Step}
use Rattle.std.proofs.Common.{[], ◌∷◌}
use Rattle.clfs_model.specs.Journals.{IsLegal}

-- It is one step of the machine.
pub step_of_entry : (told : Bool) (s : State) (entry : Entry) (t : State) → IsLegal told (entry ∷ []) s t
    → Step told s entry.client entry.call entry.happened entry.reply t
step_of_entry told s entry t legal =
    subst (λ (mid : State). Step told s entry.client entry.call entry.happened entry.reply mid) (sym legal.1.1) legal.1.0.step
