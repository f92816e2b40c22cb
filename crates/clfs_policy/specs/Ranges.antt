-- The ranges of policies, and what installing one and taking one away leave.
use Rattle.std.specs.Prelude.{◌≤◌, ℕ, Bool, true, false, ◌||◌, nat_lt, if◌then◌else◌, Option, Some, None, IfSome, is_some, unwrap_or}
use Rattle.clfs_lsn.specs.Limits.{most_containers, fewest_containers, greatest_rate}
use Rattle.clfs_lsn.specs.declared.policy.Policy.{Policy}
use Rattle.clfs_lsn.specs.declared.policy.Policy.TheVariants as values
use Rattle.clfs_lsn.specs.declared.policy.PolicyKind.{PolicyKind}
use Rattle.clfs_lsn.specs.declared.policy.PolicyKind.TheVariants as kinds
use Rattle.clfs_policy.specs.declared.policies.Conflict.{Conflict}
use Rattle.clfs_policy.specs.declared.policies.Policies.{Policies}

-- the range, where a value lies outside it
abbrev pub outside : ℕ → ℕ → ℕ → Option Conflict
outside value least greatest =
    if nat_lt value least || nat_lt greatest value then Some (record { min = least; max = greatest }) else None

-- The range that a policy's value lies outside of. A maximum goes from the installed minimum, else the fewest containers, to the most
-- containers; a minimum from the fewest to the installed maximum, else the most; a growth rate from 1 to the greatest. Automatic
-- growth has no value.
abbrev pub conflict_of : Policies → Policy → Option Conflict
conflict_of policies (values.Maximum value) = outside value (unwrap_or policies.minimum fewest_containers) most_containers
conflict_of policies (values.Minimum value) = outside value fewest_containers (unwrap_or policies.maximum most_containers)
conflict_of policies (values.Growth value) = outside value 1 greatest_rate
conflict_of policies values.Automatic = None

-- the policies with one in place of that of its kind
abbrev pub installed : Policies → Policy → Policies
installed policies (values.Maximum value) = record policies { maximum = Some value }
installed policies (values.Minimum value) = record policies { minimum = Some value }
installed policies (values.Growth value) = record policies { growth = Some value }
installed policies values.Automatic = record policies { automatic = true }

-- whether a policy of the kind is installed
abbrev pub is_installed : Policies → PolicyKind → Bool
is_installed policies kinds.Maximum = is_some policies.maximum
is_installed policies kinds.Minimum = is_some policies.minimum
is_installed policies kinds.Growth = is_some policies.growth
is_installed policies kinds.Automatic = policies.automatic

-- the policies without that of the kind
abbrev pub removed : Policies → PolicyKind → Policies
removed policies kinds.Maximum = record policies { maximum = None }
removed policies kinds.Minimum = record policies { minimum = None }
removed policies kinds.Growth = record policies { growth = None }
removed policies kinds.Automatic = record policies { automatic = false }

-- The installed policies are such as may be installed beside each other: a log can follow all of them.
pub record AreAllowed (policies : Policies) : Type 0 where
  pub maximum : IfSome policies.maximum (λ most. (fewest_containers ≤ most) × (most ≤ most_containers))
  pub minimum : IfSome policies.minimum (λ least. (fewest_containers ≤ least) × (least ≤ most_containers))
  pub order : IfSome policies.maximum (λ most. IfSome policies.minimum (λ least. least ≤ most))
  pub growth : IfSome policies.growth (λ rate. (1 ≤ rate) × (rate ≤ greatest_rate))
