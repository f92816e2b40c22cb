-- Numbers for what is new among others: a client's areas, an area's cursors.
use Rattle.std.specs.Prelude.{ℕ, ◌+◌, Bool, not, find, unwrap_or}
use Rattle.std.specs.List.{range_with_len}

-- A new number is the least from 1 on that isn't used. Where so many have numbers, it is one of the first so many, or the one
-- after them.
abbrev pub least_unused : ℕ → (ℕ → Bool) → ℕ
least_unused count is_used = unwrap_or (find (λ number. not (is_used number)) (range_with_len 1 count)) (count + 1)
