-- The fewest containers that are enough.
use Rattle.std.proofs.Common.{◌≡◌, ℕ, ◌+◌, ◌-◌, ◌<◌, ◌≤◌, Bool, true, false, nat_le, List, [], ◌∷◌, map, find, unwrap_or}
use Rattle.std.proofs.Common.{Option, Some, None, IfSome, IfNone, inl, inr, ap, refl, sym, ◌∙◌, arith}
use Rattle.std.proofs.lemmas.Bool.Decides.{nat_tests}
use Rattle.std.specs.List.{range_with_len}
use Rattle.clfs_lsn.specs.declared.place.Place.{Place}
use Rattle.clfs_lsn.specs.declared.shape.Shape.{Shape}
use Rattle.clfs_lsn.specs.Space.{active_containers, free_sectors, is_enough, least_containers}
use Rattle.clfs_space.specs.Enough.{IsThreshold, IsOutOfReach}
use Rattle.clfs_space.specs.Growing.{IsFewest}
use Rattle.clfs_space.proofs.Finds.{find-Some, find-None, find-at, order}

-- mapping to the same changes nothing
map-same : (xs : List ℕ) → map (λ (x : ℕ). x) xs ≡ xs
map-same [] = refl
map-same (x ∷ xs) = ap (λ rest. x ∷ rest) (map-same xs)

-- what the test of a number of containers says, over plain numbers
test_passes : (wanted free : ℕ) → wanted ≤ free → nat_le wanted free ≡ true
test_passes wanted free h = grind (arith, nat_tests)

test_fails : (wanted free : ℕ) → free < wanted → nat_le wanted free ≡ false
test_fails wanted free h = grind (arith, nat_tests)

failed_test : (wanted free : ℕ) → nat_le wanted free ≡ false → free < wanted
failed_test wanted free h = grind (arith, nat_tests, h)

passed_test : (wanted free : ℕ) → nat_le wanted free ≡ true → wanted ≤ free
passed_test wanted free h = grind (arith, nat_tests, h)

-- the least number that is enough is the first from those in use on
least_containers-threshold : (shape : Shape) (place : Place) (hold containers reserved t : ℕ)
    → IsThreshold shape place hold reserved t → t ≤ containers → least_containers shape place hold containers reserved ≡ t
least_containers-threshold shape place hold containers reserved t h few =
    let used = active_containers place hold in
    let free : ℕ → ℕ = free_sectors shape place hold in
    let test : ℕ → Bool = is_enough shape place hold reserved in
    let numbers = range_with_len used (containers + 1 - used) in
    let found : find test (map (λ x. x) numbers) ≡ Some t =
    find-at test (λ x. x) (containers + 1 - used) used t h.used (omega (arith, few, h.used))
    (test_passes reserved (free t) (h.enough t (omega arith)))
    (λ j from l. test_fails reserved (free j) (h.short j from l)) in
    let listed : find test numbers ≡ Some t = rw (map-same numbers) at found in
    ap (λ o. unwrap_or o containers) listed

-- the containers that there are, being enough, are at least so many
threshold-le : (shape : Shape) (place : Place) (hold containers reserved t : ℕ)
    → IsThreshold shape place hold reserved t → active_containers place hold ≤ containers
    → reserved ≤ free_sectors shape place hold containers → t ≤ containers
threshold-le shape place hold containers reserved t h active have =
    elim (order containers t) [
      | inl l ↦ absurd (omega (arith, have, h.short containers active l))
      | inr (inl e) ↦ omega (arith, e)
      | inr (inr l) ↦ omega (arith, l)
    ]

pub least_containers-is : (shape : Shape) (place : Place) (hold containers reserved : ℕ) (r : Option ℕ)
    → active_containers place hold ≤ containers → reserved ≤ free_sectors shape place hold containers
    → IfSome r (IsThreshold shape place hold reserved) → IfNone r (IsOutOfReach shape place hold reserved)
    → unwrap_or r containers ≡ least_containers shape place hold containers reserved
least_containers-is shape place hold containers reserved None active have some none = absurd (omega (arith, have, none containers))
least_containers-is shape place hold containers reserved (Some t) active have some none =
    sym (least_containers-threshold shape place hold containers reserved t some
    (threshold-le shape place hold containers reserved t some active have))

pub fewest : (shape : Shape) (place : Place) (hold containers reserved : ℕ)
    → active_containers place hold ≤ containers → reserved ≤ free_sectors shape place hold containers
    → IsFewest shape place hold containers reserved (least_containers shape place hold containers reserved)
fewest shape place hold containers reserved active have =
    let used = active_containers place hold in
    let free : ℕ → ℕ = free_sectors shape place hold in
    let test : ℕ → Bool = is_enough shape place hold reserved in
    let len = containers + 1 - used in
    let numbers = range_with_len used len in
    let mapped : find test (map (λ x. x) numbers) ≡ find test numbers = ap (λ xs. find test xs) (map-same numbers) in
    elim (find test numbers) as (λ o. find test numbers ≡ o → IsFewest shape place hold containers reserved (unwrap_or o containers)) [
      | None ↦ λ e.
          let fails = find-None test (λ x. x) len used (mapped ∙ e) containers active (omega (arith, active)) in
          absurd (omega (arith, have, failed_test reserved (free containers) fails))
      | Some y ↦ λ e.
          let found = find-Some test (λ x. x) len used y (mapped ∙ e) in
          record {
            used = omega (arith, found.value, found.from);
            at_most = omega (arith, found.value, found.below, active);
            enough = rw found.value (passed_test reserved (free found.step) found.passes);
            least = λ m from l. failed_test reserved (free m) (found.first m from (omega (arith, found.value, l)));
          }
    ] refl
