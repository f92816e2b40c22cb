-- A record that isn't too long takes no more sectors than the largest block.
use Rattle.clfs_laws.proofs.Words.{ℕ, ◌-◌, ◌*◌, ◌≤◌, arith, own}

pub own_fits : (b n : ℕ) → 1 ≤ b → n ≤ 504 * b - 48 → own n ≤ b
own_fits b n some short = omega arith
