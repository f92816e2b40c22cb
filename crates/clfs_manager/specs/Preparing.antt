-- How a call leaves the state that stops while it takes memory or grows the log.
use Rattle.std.specs.Prelude.{◌≡◌}
use Rattle.clfs_model.specs.declared.refusal.Refusal.{Refusal}
use Rattle.clfs_model.specs.declared.refusal.Refusal.TheVariants as refusals
use Rattle.clfs_model.specs.declared.state.State.{State}
use Rattle.clfs_model.specs.Step.{with_broken}

-- Out of memory changes nothing, and a fault breaks the log. No other refusal comes.
abbrev pub LeavesOf : Refusal → State → State → Type 0
LeavesOf refusals.NoMemory s t = t ≡ s
LeavesOf refusals.DiskFault s t = t ≡ with_broken s
LeavesOf _ s t = ⊥
