-- Sizes in sectors.
use Rattle.std.proofs.Common.{ℕ, ◌+◌, ◌-◌, ◌*◌, ◌≤◌, arith}
use Rattle.clfs_lsn.specs.Size.{size, sectors, own}

-- a record that is none too long takes at most the sectors of the largest block
pub own-le-block : (b n : ℕ) → 1 ≤ b → n ≤ 504 * b - 48 → own n ≤ b
own-le-block b n some h = omega arith

-- a record adds at most the sectors of its own block
pub sectors-record : (used n : ℕ) → sectors (used + size n) ≤ sectors used + own n
sectors-record used n = omega arith
