-- A base that a record moves.
use Rattle.std.specs.Prelude.{ℕ, ◌-◌, max, List, slice_index, set}

-- the bases with that of one stream raised to a new one, where this is higher
abbrev pub raised : List ℕ → ℕ → ℕ → List ℕ
raised bases stream base = set bases (stream - 1) (max (slice_index bases (stream - 1)) base)
