-- A valid state stays valid when its number of containers or its policies change as a call changes them.
use Rattle.clfs_laws.proofs.Words.{◌≡◌, ℕ, ◌+◌, ◌<◌, ◌≤◌, Bool, true, false, refl, inl, inr, arith, Option, Some, None, IfSome, unwrap_or, max, nat_lt, ◌||◌}
use Rattle.clfs_laws.proofs.Words.{◌&&◌, cases_Bool, ltb-true, ltb-false, nat_tests, All-weaker, free_sectors, growth, Place, Shape, Policy, PolicyKind}
use Rattle.clfs_laws.proofs.Words.{State, hold, active, free, reserved, with_containers, growth_rate, size_limit, grown_if, grown, outside, policy_refusal}
use Rattle.clfs_laws.proofs.Words.{with_policy, without_policy, needed_containers, size_refusal, IsValid, HasPolicies, IsArea, IsRecord, IsWaiting}
use Rattle.clfs_laws.proofs.Words.{HasSpaceLaws}
use Rattle.clfs_lsn.specs.declared.policy.Policy.TheVariants as policies
use Rattle.clfs_lsn.specs.declared.policy.PolicyKind.TheVariants as kinds
use Rattle.clfs_model.specs.Space.{containers_for_reserved}
use Rattle.clfs_model.specs.declared.refusal.Refusal.TheVariants as refusals
use Rattle.clfs_laws.proofs.NotRefused.{passed}

-- with more containers there are no fewer free sectors
pub free_more : (shape : Shape) (place : Place) (hold fewer more : ℕ) → fewer ≤ more → free_sectors shape place hold fewer ≤ free_sectors shape place hold more
free_more shape place hold fewer more fits = grind arith

-- a valid state with a number of containers that has those in use and the reserved sectors
pub valid_containers : (s : State) (n : ℕ) → IsValid s → 1 ≤ n → n ≤ 256 → active s ≤ n → reserved s ≤ free (with_containers n s) → (0 < reserved s → 2 ≤ n)
    → IsValid (with_containers n s)
valid_containers s n valid some few used room two = record {
  ranges = record {
    shape = valid.ranges.shape;
    some_containers = some;
    few_containers = few;
    some_buffers = valid.ranges.some_buffers;
    few_buffers = valid.ranges.few_buffers;
    place = valid.ranges.place;
  };
  policies = record {
    maximum = valid.policies.maximum;
    minimum = valid.policies.minimum;
    order = valid.policies.order;
    growth = valid.policies.growth;
  };
  tables = record {
    names = valid.tables.names;
    numbers = valid.tables.numbers;
    areas = All-weaker (IsArea s) (IsArea (with_containers n s))
        (λ area is. record { stream = is.stream; largest = is.largest; cursors = is.cursors }) s.areas valid.tables.areas;
    dedicated = valid.tables.dedicated;
  };
  records = record {
    rising = valid.records.rising;
    records = All-weaker (IsRecord s) (IsRecord (with_containers n s))
        (λ entry is. record { stream = is.stream; named = is.named; below = is.below; previous = is.previous; undo_next = is.undo_next }) s.records valid.records.records;
    open_block = valid.records.open_block;
  };
  stable = record { bases = valid.stable.bases; restarts = valid.stable.restarts; tail = valid.stable.tail };
  waiting = record {
    few = valid.waiting.few;
    rising = valid.waiting.rising;
    blocks = All-weaker (IsWaiting s) (IsWaiting (with_containers n s))
        (λ start is. record { container = is.container; sequence = is.sequence; first = is.first; below = is.below }) s.waiting valid.waiting.blocks;
  };
  space = record { active = used; room = room; two = two };
}

-- more containers, up to the most that a log can have
pub valid_more : (s : State) (n : ℕ) → IsValid s → s.containers ≤ n → n ≤ 256 → IsValid (with_containers n s)
valid_more s n valid more few =
    let used = valid.space.active in
    let room : free s ≤ free (with_containers n s) = free_more s.shape s.place (hold s) s.containers n more in
    valid_containers s n valid (omega (arith, valid.ranges.some_containers)) few (omega (arith, used)) (omega (arith, room, valid.space.room))
    (λ some. let two = valid.space.two some in omega (arith, two))

-- a maximum of a valid state is at most 256
limit_few : (s : State) (maximum : Option ℕ) → IfSome maximum (λ most. (2 ≤ most) × (most ≤ 256)) → unwrap_or maximum 256 ≤ 256
limit_few s None fits = omega arith
limit_few s (Some most) fits = fits.1

grown_more : HasSpaceLaws → (s : State) (wanted : ℕ) (found : Option ℕ) → IsValid s → growth s.shape s.place (hold s) s.containers (growth_rate s) (size_limit s) wanted ≡ found
    → IsValid (with_containers (unwrap_or found s.containers) s)
grown_more space s wanted None valid is = valid
grown_more space s wanted (Some n) valid is =
    let step = space.growth s.shape s.place (hold s) s.containers (growth_rate s) (size_limit s) wanted n is in
    valid_more s n valid (omega (arith, step.whole_steps.2)) (omega (arith, step.at_most, limit_few s s.maximum valid.policies.maximum))

grown_by : HasSpaceLaws → (s : State) (test : Bool) (wanted : ℕ) → IsValid s → IsValid (grown_if test s wanted)
grown_by space s true wanted valid = grown_more space s wanted (growth s.shape s.place (hold s) s.containers (growth_rate s) (size_limit s) wanted) valid refl
grown_by space s false wanted valid = valid

-- a log that grows stays valid
pub valid_grown : HasSpaceLaws → (s : State) (need : ℕ) → IsValid s → IsValid (grown s need)
unfolding grown
valid_grown space s need valid = grown_by space s _ (reserved s + need) valid

-- a valid state with other policies, such as may be installed
pub valid_policies : (s : State) (maximum minimum growth_policy : Option ℕ) (automatic : Bool) → IsValid s
    → HasPolicies (record s { maximum = maximum; minimum = minimum; growth = growth_policy; automatic = automatic })
    → IsValid (record s { maximum = maximum; minimum = minimum; growth = growth_policy; automatic = automatic })
valid_policies s maximum minimum growth_policy automatic valid fits = let t : State = record s { maximum = maximum; minimum = minimum; growth = growth_policy; automatic = automatic } in record {
  ranges = record {
    shape = valid.ranges.shape;
    some_containers = valid.ranges.some_containers;
    few_containers = valid.ranges.few_containers;
    some_buffers = valid.ranges.some_buffers;
    few_buffers = valid.ranges.few_buffers;
    place = valid.ranges.place;
  };
  policies = fits;
  tables = record {
    names = valid.tables.names;
    numbers = valid.tables.numbers;
    areas = All-weaker (IsArea s) (IsArea t) (λ area is. record { stream = is.stream; largest = is.largest; cursors = is.cursors }) s.areas valid.tables.areas;
    dedicated = valid.tables.dedicated;
  };
  records = record {
    rising = valid.records.rising;
    records = All-weaker (IsRecord s) (IsRecord t)
        (λ entry is. record { stream = is.stream; named = is.named; below = is.below; previous = is.previous; undo_next = is.undo_next }) s.records valid.records.records;
    open_block = valid.records.open_block;
  };
  stable = record { bases = valid.stable.bases; restarts = valid.stable.restarts; tail = valid.stable.tail };
  waiting = record {
    few = valid.waiting.few;
    rising = valid.waiting.rising;
    blocks = All-weaker (IsWaiting s) (IsWaiting t)
        (λ start is. record { container = is.container; sequence = is.sequence; first = is.first; below = is.below }) s.waiting valid.waiting.blocks;
  };
  space = record { active = valid.space.active; room = valid.space.room; two = valid.space.two };
}

-- a value within its range isn't refused, and one that isn't refused is within it
in_range : (value least greatest : ℕ) → (nat_lt value least || nat_lt greatest value) ≡ false → (least ≤ value) × (value ≤ greatest)
in_range value least greatest fits = (grind (arith, nat_tests), grind (arith, nat_tests))

order_above : (maximum minimum : Option ℕ) (value : ℕ) → IfSome minimum (λ least. (2 ≤ least) × (least ≤ 256)) → unwrap_or minimum 2 ≤ value → IfSome minimum (λ least. least ≤ value)
order_above maximum None value lower above = tt
order_above maximum (Some least) value lower above = above

minimum_two : (minimum : Option ℕ) (value : ℕ) → IfSome minimum (λ least. (2 ≤ least) × (least ≤ 256)) → unwrap_or minimum 2 ≤ value → 2 ≤ value
minimum_two None value lower above = above
minimum_two (Some least) value lower above = omega (arith, lower.0, above)

order_below : (maximum : Option ℕ) (value : ℕ) → value ≤ unwrap_or maximum 256 → IfSome maximum (λ most. value ≤ most)
order_below None value below = tt
order_below (Some most) value below = below

maximum_few : (maximum : Option ℕ) (value : ℕ) → IfSome maximum (λ most. (2 ≤ most) × (most ≤ 256)) → value ≤ unwrap_or maximum 256 → value ≤ 256
maximum_few None value upper below = below
maximum_few (Some most) value upper below = omega (arith, upper.1, below)

-- no order is owed where one of the two isn't installed
no_minimum : (maximum : Option ℕ) → IfSome maximum (λ most. IfSome {T = ℕ} None (λ least. least ≤ most))
no_minimum None = tt
no_minimum (Some most) = tt

passed_range : (value least greatest : ℕ) → outside value least greatest ≡ None → (least ≤ value) × (value ≤ greatest)
passed_range value least greatest none = in_range value least greatest (passed (nat_lt value least || nat_lt greatest value) (refusals.PolicyConflict least greatest) None none).0

-- a policy that isn't refused is installed in a valid state
pub valid_installed : (s : State) (policy : Policy) → IsValid s → policy_refusal s policy ≡ None → IsValid (with_policy s policy)
valid_installed s (policies.Maximum value) valid none =
    let range = passed_range value (unwrap_or s.minimum 2) 256 none in
    valid_policies s (Some value) s.minimum s.growth s.automatic valid (record {
      maximum = (minimum_two s.minimum value valid.policies.minimum range.0, range.1);
      minimum = valid.policies.minimum;
      order = order_above s.maximum s.minimum value valid.policies.minimum range.0;
      growth = valid.policies.growth;
    })
valid_installed s (policies.Minimum value) valid none =
    let range = passed_range value 2 (unwrap_or s.maximum 256) none in
    valid_policies s s.maximum (Some value) s.growth s.automatic valid (record {
      maximum = valid.policies.maximum;
      minimum = (range.0, maximum_few s.maximum value valid.policies.maximum range.1);
      order = order_below s.maximum value range.1;
      growth = valid.policies.growth;
    })
valid_installed s (policies.Growth value) valid none =
    let range = passed_range value 1 254 none in
    valid_policies s s.maximum s.minimum (Some value) s.automatic valid (record {
      maximum = valid.policies.maximum;
      minimum = valid.policies.minimum;
      order = valid.policies.order;
      growth = range;
    })
valid_installed s policies.Automatic valid none =
    valid_policies s s.maximum s.minimum s.growth true valid (record {
      maximum = valid.policies.maximum;
      minimum = valid.policies.minimum;
      order = valid.policies.order;
      growth = valid.policies.growth;
    })

-- without a policy a valid state is valid
pub valid_removed : (s : State) (kind : PolicyKind) → IsValid s → IsValid (without_policy s kind)
valid_removed s kinds.Maximum valid = valid_policies s None s.minimum s.growth s.automatic valid
    (record { maximum = tt; minimum = valid.policies.minimum; order = tt; growth = valid.policies.growth })
valid_removed s kinds.Minimum valid = valid_policies s s.maximum None s.growth s.automatic valid
    (record { maximum = valid.policies.maximum; minimum = tt; order = no_minimum s.maximum; growth = valid.policies.growth })
valid_removed s kinds.Growth valid = valid_policies s s.maximum s.minimum None s.automatic valid
    (record { maximum = valid.policies.maximum; minimum = valid.policies.minimum; order = valid.policies.order; growth = tt })
valid_removed s kinds.Automatic valid = valid_policies s s.maximum s.minimum s.growth false valid
    (record { maximum = valid.policies.maximum; minimum = valid.policies.minimum; order = valid.policies.order; growth = valid.policies.growth })

-- the second part of a test fails where the first passes and the whole fails
second_false : (a b : Bool) → a ≡ true → (a && b) ≡ false → b ≡ false
second_false true b passes fails = fails
second_false false b passes fails = absurd (cc)

-- the greatest of four numbers is at least each
at_least_all : (a b c d n : ℕ) → max (max a b) (max c d) ≤ n → (a ≤ n) × ((c ≤ n) × (d ≤ n))
at_least_all a b c d n fits = (omega (arith, fits), (omega (arith, fits), omega (arith, fits)))

-- a size that isn't refused
pub valid_sized : HasSpaceLaws → (s : State) (asked : ℕ) → IsValid s → size_refusal s asked ≡ None → IsValid (with_containers asked s)
valid_sized space s asked valid none =
    let grows = passed (nat_lt s.containers asked && nat_lt (size_limit s) asked) (refusals.ContainerLimit (size_limit s)) _ none in
    let shrinks = passed (nat_lt asked s.containers && nat_lt asked (needed_containers s)) (refusals.CantShrink (active s) (needed_containers s)) None grows.1 in
    elim (cases_Bool (nat_lt asked s.containers)) [
      | inl fewer ↦
          let enough : needed_containers s ≤ asked = ltb-false asked (needed_containers s) (second_false _ _ fewer shrinks.0) in
          let all = at_least_all 2 (unwrap_or s.minimum 0) (active s) (containers_for_reserved s) asked enough in
          let least = space.fewest s.shape s.place (hold s) s.containers (reserved s) valid.space.active valid.space.room in
          let room : free (with_containers (containers_for_reserved s) s) ≤ free (with_containers asked s) =
          free_more s.shape s.place (hold s) (containers_for_reserved s) asked all.1.1 in
          let below : asked < s.containers = ltb-true asked s.containers fewer in
          valid_containers s asked valid (omega (arith, all.0)) (omega (arith, below, valid.ranges.few_containers)) all.1.0
          (omega (arith, room, least.enough)) (λ some. all.0)
      | inr more ↦
          let above : s.containers ≤ asked = ltb-false asked s.containers more in
          elim (cases_Bool (nat_lt s.containers asked)) [
            | inl grown ↦
                let within : asked ≤ size_limit s = ltb-false (size_limit s) asked (second_false _ _ grown grows.0) in
                valid_more s asked valid above (omega (arith, within, limit_few s s.maximum valid.policies.maximum))
            | inr same ↦
                let equal : asked ≤ s.containers = ltb-false s.containers asked same in
                valid_more s asked valid above (omega (arith, equal, valid.ranges.few_containers))
          ]
    ]

more_by : HasSpaceLaws → (s : State) (wanted : ℕ) (found : Option ℕ) → growth s.shape s.place (hold s) s.containers (growth_rate s) (size_limit s) wanted ≡ found
    → s.containers ≤ unwrap_or found s.containers
more_by space s wanted None is = omega arith
more_by space s wanted (Some n) is =
    let step = space.growth s.shape s.place (hold s) s.containers (growth_rate s) (size_limit s) wanted n is in omega (arith, step.whole_steps.2)

more_if : HasSpaceLaws → (s : State) (test : Bool) (wanted : ℕ) → s.containers ≤ (grown_if test s wanted).containers
more_if space s true wanted = more_by space s wanted (growth s.shape s.place (hold s) s.containers (growth_rate s) (size_limit s) wanted) refl
more_if space s false wanted = omega arith

-- a log that grows has no fewer containers
pub grown_no_fewer : HasSpaceLaws → (s : State) (need : ℕ) → s.containers ≤ (grown s need).containers
unfolding grown
grown_no_fewer space s need = more_if space s _ (reserved s + need)

only_containers : (s : State) (test : Bool) (wanted : ℕ) → grown_if test s wanted ≡ with_containers (grown_if test s wanted).containers s
only_containers s true wanted = refl
only_containers s false wanted = refl

-- growth changes nothing but the number of containers
pub grown_is : (s : State) (need : ℕ) → grown s need ≡ with_containers (grown s need).containers s
unfolding grown
grown_is s need = only_containers s _ (reserved s + need)
