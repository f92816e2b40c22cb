-- The four policies of a log, of each kind one at most.
use Rattle.std.specs.Prelude.{ℕ, Bool, true, false, ◌||◌, nat_lt, max, if◌then◌else◌, Option, Some, None, is_some, unwrap_or}
use Rattle.clfs_lsn.specs.Limits.{most_containers, fewest_containers, greatest_rate}
use Rattle.clfs_lsn.specs.declared.policy.Policy.{Policy}
use Rattle.clfs_lsn.specs.declared.policy.Policy.TheVariants as policies
use Rattle.clfs_lsn.specs.declared.policy.PolicyKind.{PolicyKind}
use Rattle.clfs_lsn.specs.declared.policy.PolicyKind.TheVariants as kinds
use Rattle.clfs_model.specs.declared.refusal.Refusal.{Refusal}
use Rattle.clfs_model.specs.declared.refusal.Refusal.TheVariants as refusals
use Rattle.clfs_model.specs.declared.state.State.{State}
use Rattle.clfs_model.specs.Live.{active}
use Rattle.clfs_model.specs.Space.{containers_for_reserved}

-- a value outside its range
abbrev pub outside : ℕ → ℕ → ℕ → Option Refusal
outside value least greatest =
    if nat_lt value least || nat_lt greatest value then Some (refusals.PolicyConflict least greatest) else None

-- A maximum goes from the installed minimum, else the fewest containers, to the most; a minimum from the fewest to the installed
-- maximum, else the most; a growth rate from 1 to the greatest. Automatic growth has no value.
abbrev pub policy_refusal : State → Policy → Option Refusal
policy_refusal s (policies.Maximum value) = outside value (unwrap_or s.minimum fewest_containers) most_containers
policy_refusal s (policies.Minimum value) = outside value fewest_containers (unwrap_or s.maximum most_containers)
policy_refusal s (policies.Growth value) = outside value 1 greatest_rate
policy_refusal s policies.Automatic = None

-- the state with a policy in place of one of its kind
abbrev pub with_policy : State → Policy → State
with_policy s (policies.Maximum value) = record s { maximum = Some value }
with_policy s (policies.Minimum value) = record s { minimum = Some value }
with_policy s (policies.Growth value) = record s { growth = Some value }
with_policy s policies.Automatic = record s { automatic = true }

-- whether a policy of this kind is installed
abbrev pub is_installed : State → PolicyKind → Bool
is_installed s kinds.Maximum = is_some s.maximum
is_installed s kinds.Minimum = is_some s.minimum
is_installed s kinds.Growth = is_some s.growth
is_installed s kinds.Automatic = s.automatic

-- the state without the policy of this kind
abbrev pub without_policy : State → PolicyKind → State
without_policy s kinds.Maximum = record s { maximum = None }
without_policy s kinds.Minimum = record s { minimum = None }
without_policy s kinds.Growth = record s { growth = None }
without_policy s kinds.Automatic = record s { automatic = false }

-- the fewest containers that the log can shrink to: two, the installed minimum, those in use, and those for what areas hold
abbrev pub needed_containers : State → ℕ
needed_containers s = max (max fewest_containers (unwrap_or s.minimum 0)) (max (active s) (containers_for_reserved s))
