-- Which records of a log are printed, and of which blocks the lines.
use Rattle.std.specs.Prelude.{ℕ, ◌+◌, ◌-◌, Bool, true, ◌&&◌, nat_le, nat_lt, List}
use Rattle.std.specs.Option.{option_map_or}
use Rattle.std.specs.Str.{bytes_eq}
use Rattle.clfs_base.specs.Spelling.{row_in}
use Rattle.clfs_base.specs.declared.image.Row.{Row}
use Rattle.clfs_dump.specs.declared.selection.Selection.{Selection}

-- an LSN isn't below the least that is asked for: that itself is printed
abbrev pub is_high_enough : Selection → ℕ → Bool
is_high_enough selection lsn = option_map_or (λ from. nat_le from lsn) selection.from true

-- an LSN is below the end of those that are asked for: that itself isn't printed
abbrev pub is_low_enough : Selection → ℕ → Bool
is_low_enough selection lsn = option_map_or (λ to. nat_lt lsn to) selection.to true

-- a stream of these rows has the name that is asked for
abbrev pub is_of_stream : Selection → List Row → ℕ → Bool
is_of_stream selection rows stream = option_map_or (λ name. bytes_eq (row_in rows (stream - 1)).name name) selection.stream true

-- a record at this LSN in this stream is printed, whether a base lies above it or not
abbrev pub is_chosen : Selection → List Row → ℕ → ℕ → Bool
is_chosen selection rows lsn stream = is_high_enough selection lsn && (is_low_enough selection lsn && is_of_stream selection rows stream)

-- one of so many LSNs, from this one on, can be asked for
abbrev pub meets_range : Selection → ℕ → ℕ → Bool
meets_range selection start records = option_map_or (λ from. nat_lt from (start + records)) selection.from true && is_low_enough selection start
