use Rattle.clfs_cells.proofs.Words.{refl, Fine, asks, [], ◌∷◌}
use Rattle.clfs_cells.proofs.Carrying.{FineSteps, MemoryLacks, one_step, carried, carried_without}
use Rattle.clfs_cells.proofs.laws.computed_ends_are_carried_out.Goals as goal

pub returns-clause-calls : goal.returns-clause-calls
returns-clause-calls c =
    let steps : FineSteps = λ s client call. one_step s client call (c.calm_replies_are_a_run.ensures s (asks client call ∷ []) refl) in
    carried steps

pub returns-clause-loading : goal.returns-clause-loading
returns-clause-loading c =
    let steps : FineSteps = λ s client call. one_step s client call (c.calm_replies_are_a_run.ensures s (asks client call ∷ []) refl) in
    carried steps

pub returns-clause-without_memory : goal.returns-clause-without_memory
returns-clause-without_memory c =
    let steps : FineSteps = λ s client call. one_step s client call (c.calm_replies_are_a_run.ensures s (asks client call ∷ []) refl) in
    let lacks : MemoryLacks = λ told s client call whole takes. c.ways_of_a_step.ensures.no_memory told s client call Fine whole takes in
    carried_without steps lacks
