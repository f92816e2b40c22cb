-- From which number of containers on the free sectors are enough.
use Rattle.std.proofs.Common.{◌≡◌, ℕ, ◌+◌, ◌-◌, ◌*◌, ◌^◌, ◌<◌, ◌≤◌, arith}
use Rattle.std.proofs.Math.Nat.{mul-le-mul_right, suc-mul}
use Rattle.std.proofs.lemmas.Grind.{div_ceil_times}
use Rattle.std.specs.Int.{div_ceil}
use Rattle.clfs_lsn.specs.declared.place.Place.{Place}
use Rattle.clfs_lsn.specs.declared.shape.Shape.{Shape}
use Rattle.clfs_lsn.specs.Size.{IsShape}
use Rattle.clfs_lsn.specs.Space.{active_containers, left_sectors, next_containers}
use Rattle.clfs_space.specs.Enough.{IsThreshold, IsOutOfReach}

-- so many times a number are at least what was divided by it and rounded up
pub times-enough : (missing each k : ℕ) → 0 < each → div_ceil missing each ≤ k → missing ≤ k * each
times-enough missing each k some h =
    omega (arith, (div_ceil_times missing each some).0, mul-le-mul_right each h)

-- and fewer times it are less
pub times-short : (missing each k : ℕ) → 0 < each → k < div_ceil missing each → k * each < missing
times-short missing each k some h =
    let most : (k + 1) * each ≤ div_ceil missing each * each = mul-le-mul_right each (omega arith) in
    omega (arith, (div_ceil_times missing each some).1, most, suc-mul k each)

-- the sectors that an empty container can surely take
abbrev pub each_of : Shape → ℕ
each_of shape = shape.container_sectors - shape.block_sectors + 1

-- the wanted sectors that the place's container can't surely take
abbrev pub missing_of : Shape → Place → ℕ → ℕ
missing_of shape place wanted = wanted - (left_sectors shape place - (shape.block_sectors - 1))

pub threshold : (shape : Shape) (place : Place) (hold wanted k : ℕ) → IsShape shape
    → k ≡ div_ceil (missing_of shape place wanted) (each_of shape) → k ≤ 2 ^ 32 - 1 - place.container
    → IsThreshold shape place hold wanted (active_containers place hold + k)
threshold shape place hold wanted k s is ids =
    let each = each_of shape in
    let missing = missing_of shape place wanted in
    record {
      used = omega arith;
      enough = λ m h. omega (arith, times-enough missing each (next_containers place hold m) (omega arith) (omega (arith, is, ids, h)));
      short = λ m u h. omega (arith, times-short missing each (next_containers place hold m) (omega arith) (omega (arith, is, u, h)));
    }

pub out_of_reach : (shape : Shape) (place : Place) (hold wanted : ℕ) → IsShape shape
    → 2 ^ 32 - 1 - place.container < div_ceil (missing_of shape place wanted) (each_of shape)
    → IsOutOfReach shape place hold wanted
out_of_reach shape place hold wanted s ids m =
    omega (arith, times-short (missing_of shape place wanted) (each_of shape) (next_containers place hold m) (omega arith) (omega (arith, ids)))
