-- An append lowers the free sectors by at most those of its record's own block.
use Rattle.std.proofs.Common.{◌≡◌, ℕ, ◌+◌, ◌-◌, ◌*◌, ◌<◌, ◌≤◌, Bool, true, false, if◌then◌else◌, refl, arith}
use Rattle.std.proofs.Math.Nat.{mul-le-mul_right, suc-mul}
use Rattle.std.proofs.lemmas.Bool.Decides.{nat_tests}
use Rattle.clfs_lsn.specs.declared.place.Place.{Place}
use Rattle.clfs_lsn.specs.declared.shape.Shape.{Shape}
use Rattle.clfs_lsn.specs.Size.{size, own}
use Rattle.clfs_lsn.specs.Place.{block_end, joins, begins_here, begun, place_after}
use Rattle.clfs_lsn.specs.Space.{next_containers, free_sectors}
use Rattle.clfs_space.specs.Appending.{HasRoom}
use Rattle.clfs_space.proofs.Sectors.{own-le-block, sectors-record}

-- one container fewer to go on to is at most one container's sectors fewer
one_fewer : (a b each : ℕ) → a ≤ b + 1 → a * each ≤ b * each + each
one_fewer a b each h = omega (arith, mul-le-mul_right each h, suc-mul b each)

-- the record joins the open block
joined : (shape : Shape) (place : Place) (hold containers n : ℕ) → joins shape place n ≡ true
    → free_sectors shape place hold containers - own n
    ≤ free_sectors shape (record place { used = place.used + size n; records = place.records + 1 }) hold containers
joined shape place hold containers n joins_it = omega (arith, sectors-record place.used n)

-- it begins a block after the open one
begun_here : (shape : Shape) (place : Place) (hold containers n : ℕ)
    → free_sectors shape place hold containers - own n ≤ free_sectors shape (begun place.container (block_end place) n) hold containers
begun_here shape place hold containers n = omega arith

-- it begins the next container: what is left in this one counted for nothing
begun_next : (shape : Shape) (place : Place) (hold containers n : ℕ) → HasRoom shape place hold containers n
    → shape.container_sectors - block_end place < own n
    → free_sectors shape place hold containers - own n ≤ free_sectors shape (begun (place.container + 1) 0 n) hold containers
begun_next shape place hold containers n room beyond =
    let long = own-le-block shape.block_sectors n room.is_shape.some_sectors room.length in
    let after = begun (place.container + 1) 0 n in
    let fewer : next_containers place hold containers ≤ next_containers after hold containers + 1 = omega arith in
    omega (
      arith,
      long,
      room.is_shape.two_blocks,
      beyond,
      one_fewer (next_containers place hold containers) (next_containers after hold containers)
          (shape.container_sectors - shape.block_sectors + 1) fewer,
    )

-- what holds of either value holds of the chosen one
if_either : {A : Type 0} (P : A → Type 0) (b : Bool) (x y : A) → (b ≡ true → P x) → (b ≡ false → P y) → P (if b then x else y)
if_either P true x y at_true at_false = at_true refl
if_either P false x y at_true at_false = at_false refl

-- in each case
pub free-place_after : (shape : Shape) (place : Place) (hold containers n : ℕ) → HasRoom shape place hold containers n
    → free_sectors shape place hold containers - own n ≤ free_sectors shape (place_after shape place n).1 hold containers
free-place_after shape place hold containers n room =
    let Keeps : ℕ × Place → Type 0 =
    λ after. free_sectors shape place hold containers - own n ≤ free_sectors shape after.1 hold containers in
    if_either Keeps (joins shape place n) _ _ (λ h. joined shape place hold containers n h)
    (λ _. if_either Keeps (begins_here shape place n) _ _ (λ _. begun_here shape place hold containers n)
    (λ h. begun_next shape place hold containers n room (grind (arith, nat_tests, h))))
