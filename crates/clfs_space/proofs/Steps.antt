-- Growth by whole steps.
use Rattle.std.proofs.Common.{◌≡◌, ℕ, ◌+◌, ◌-◌, ◌*◌, ◌<◌, ◌≤◌, max, Bool, true, false, ◌&&◌, nat_le, Some, None, inl, inr, ap, arith}
use Rattle.std.proofs.Math.Nat.{mul-le-mul_left, mul-le-mul_right}
use Rattle.std.proofs.lemmas.Bool.Decides.{nat_tests}
use Rattle.std.specs.Int.{div_ceil}
use Rattle.clfs_lsn.specs.declared.place.Place.{Place}
use Rattle.clfs_lsn.specs.declared.shape.Shape.{Shape}
use Rattle.clfs_lsn.specs.Space.{active_containers, free_sectors, is_enough, growth}
use Rattle.clfs_space.specs.Enough.{IsThreshold, IsOutOfReach}
use Rattle.clfs_space.specs.Growing.{IsLeastStep, HasNoStep}
use Rattle.clfs_space.proofs.Finds.{find-Some, find-None, find-at, find-nowhere, order}
use Rattle.clfs_space.proofs.Thresholds.{times-enough, times-short}

-- the test that growth makes of a number of containers
abbrev is_step : Shape → Place → ℕ → ℕ → ℕ → ℕ → Bool
is_step shape place hold maximum wanted n = nat_le n maximum && is_enough shape place hold wanted n

-- the number of containers after k steps
abbrev stepped : ℕ → ℕ → ℕ → ℕ
stepped containers rate k = containers + k * rate

-- fewer containers after k steps than after m are so by fewer steps
later_step : (rate k m : ℕ) → k * rate < m * rate → k < m
later_step rate k m h = elim (order k m) [
  | inl l ↦ l
  | inr (inl e) ↦ absurd (omega (arith, h, ap (λ n. n * rate) e))
  | inr (inr l) ↦ let more : m * rate ≤ k * rate = mul-le-mul_right rate (omega arith) in absurd (omega (arith, h, more))
]

-- what the test says, over plain numbers
passed : (n maximum wanted free : ℕ) → (nat_le n maximum && nat_le wanted free) ≡ true → (n ≤ maximum) × (wanted ≤ free)
passed n maximum wanted free h = grind (arith, nat_tests, h)

not_passed : (n maximum wanted free : ℕ) → (nat_le n maximum && nat_le wanted free) ≡ false → n ≤ maximum → free < wanted
not_passed n maximum wanted free h le = grind (arith, nat_tests, h)

passes : (n maximum wanted free : ℕ) → n ≤ maximum → wanted ≤ free → (nat_le n maximum && nat_le wanted free) ≡ true
passes n maximum wanted free le enough = grind (arith, nat_tests)

too_many : (n maximum wanted free : ℕ) → maximum < n → (nat_le n maximum && nat_le wanted free) ≡ false
too_many n maximum wanted free more = grind (arith, nat_tests)

too_few : (n maximum wanted free : ℕ) → free < wanted → (nat_le n maximum && nat_le wanted free) ≡ false
too_few n maximum wanted free short = grind (arith, nat_tests)

pub growth-Some : (shape : Shape) (place : Place) (hold containers rate maximum wanted n : ℕ)
    → growth shape place hold containers rate maximum wanted ≡ Some n → IsLeastStep shape place hold containers rate maximum wanted n
growth-Some shape place hold containers rate maximum wanted n h =
    let free : ℕ → ℕ = free_sectors shape place hold in
    let found = find-Some (is_step shape place hold maximum wanted) (stepped containers rate) 256 1 n h in
    let last = stepped containers rate found.step in
    let will = passed last maximum wanted (free last) found.passes in
    let before = λ (k : ℕ) (l : containers + k * rate < n).
    let earlier : k < found.step = later_step rate k found.step (omega (arith, l, found.value)) in
    let it : ℕ = containers + k * rate in
    let few : it ≤ maximum = omega (arith, l, found.value, will.0) in
    λ (some : 1 ≤ k). not_passed it maximum wanted (free it) (found.first k some earlier) few in
    record {
      whole_steps = (found.step, found.from, found.value);
      at_most = rw found.value will.0;
      enough = rw found.value will.1;
      least = λ k some l. before k l some;
    }

pub growth-None : (shape : Shape) (place : Place) (hold containers rate maximum wanted : ℕ) → 1 ≤ rate → maximum ≤ 256
    → growth shape place hold containers rate maximum wanted ≡ None → HasNoStep shape place hold containers rate maximum wanted
growth-None shape place hold containers rate maximum wanted some small h k from few =
    let it = containers + k * rate in
    let steps : k < 1 + 256 = omega (arith, few, small, mul-le-mul_left k some) in
    let none = find-None (is_step shape place hold maximum wanted) (stepped containers rate) 256 1 h in
    not_passed it maximum wanted (free_sectors shape place hold it) (none k from steps) few

-- no step before that is enough
short_before : (shape : Shape) (place : Place) (hold containers rate maximum wanted t k j : ℕ)
    → 1 ≤ rate → active_containers place hold ≤ containers → IsThreshold shape place hold wanted t
    → k ≡ max (div_ceil (t - containers) rate) 1 → 1 ≤ j → j < k
    → is_step shape place hold maximum wanted (containers + j * rate) ≡ false
short_before shape place hold containers rate maximum wanted t k j some active h is from l =
    let it = containers + j * rate in
    let below : it < t = omega (arith, times-short (t - containers) rate j some (omega (arith, is, from, l))) in
    too_few it maximum wanted (free_sectors shape place hold it) (h.short it (omega (arith, active)) below)

-- where the wanted sectors want a number of containers, growth gives the first step that has as many
pub growth-threshold : (shape : Shape) (place : Place) (hold containers rate maximum wanted t k : ℕ)
    → 1 ≤ rate → maximum ≤ 256 → active_containers place hold ≤ containers → IsThreshold shape place hold wanted t
    → k ≡ max (div_ceil (t - containers) rate) 1 → containers + k * rate ≤ maximum
    → growth shape place hold containers rate maximum wanted ≡ Some (containers + k * rate)
growth-threshold shape place hold containers rate maximum wanted t k some small active h is few =
    let free : ℕ → ℕ = free_sectors shape place hold in
    let it = containers + k * rate in
    let reached : t ≤ it = omega (arith, times-enough (t - containers) rate k some (omega (arith, is))) in
    let steps : k < 1 + 256 = omega (arith, few, small, mul-le-mul_left k some) in
    find-at (is_step shape place hold maximum wanted) (stepped containers rate) 256 1 k (omega (arith, is)) steps
    (passes it maximum wanted (free it) few (h.enough it reached))
    (λ j from l. short_before shape place hold containers rate maximum wanted t k j some active h is from l)

-- and none where that step is past the maximum
pub growth-past_maximum : (shape : Shape) (place : Place) (hold containers rate maximum wanted t k : ℕ)
    → 1 ≤ rate → active_containers place hold ≤ containers → IsThreshold shape place hold wanted t
    → k ≡ max (div_ceil (t - containers) rate) 1 → maximum < containers + k * rate
    → growth shape place hold containers rate maximum wanted ≡ None
growth-past_maximum shape place hold containers rate maximum wanted t k some active h is past =
    find-nowhere (is_step shape place hold maximum wanted) (stepped containers rate) 256 1 (λ j from below.
    let it = containers + j * rate in
    elim (order j k) as (λ _. is_step shape place hold maximum wanted it ≡ false) [
      | inl l ↦ short_before shape place hold containers rate maximum wanted t k j some active h is from l
      | inr later ↦
          let more : k * rate ≤ j * rate = mul-le-mul_right rate (elim later [ inl e ↦ omega (arith, e) | inr l ↦ omega (arith, l) ]) in
          too_many it maximum wanted (free_sectors shape place hold it) (omega (arith, past, more))
    ])

-- or where no number of containers is enough
pub growth-out_of_reach : (shape : Shape) (place : Place) (hold containers rate maximum wanted : ℕ)
    → IsOutOfReach shape place hold wanted → growth shape place hold containers rate maximum wanted ≡ None
growth-out_of_reach shape place hold containers rate maximum wanted h =
    find-nowhere (is_step shape place hold maximum wanted) (stepped containers rate) 256 1 (λ j from below.
    let it = containers + j * rate in
    too_few it maximum wanted (free_sectors shape place hold it) (h it))
