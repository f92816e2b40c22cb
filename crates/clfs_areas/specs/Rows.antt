-- The rows of the areas.
use Rattle.std.specs.Prelude.{◌≢◌, ℕ, Bool, ◌==◌, ◌&&◌, ◌⊎◌, List}
use Rattle.std.specs.List.{list_any}
use Rattle.clfs_areas.specs.declared.row.AreaName.{AreaName}
use Rattle.clfs_areas.specs.declared.row.AreaRow.{AreaRow}

-- whether a row is that of a client's area
abbrev pub is_row : ℕ → ℕ → AreaRow → Bool
is_row client number row = (row.client == client) && (row.number == number)

-- whether a row is one of a client
abbrev pub is_client_row : ℕ → AreaRow → Bool
is_client_row client row = row.client == client

-- whether a client has a row of a number
abbrev pub is_used : ℕ → List AreaRow → ℕ → Bool
is_used client rows number = list_any (is_row client number) rows

-- the name in a row
abbrev pub name_in : AreaRow → AreaName
name_in row = record { client = row.client; number = row.number }

-- whether a name is that of a client's area
abbrev pub is_name : ℕ → ℕ → AreaName → Bool
is_name client number name = (client == name.client) && (number == name.number)

-- two rows of which at least the client or the number differs
abbrev pub AreDifferentRows : AreaRow → AreaRow → Type 0
AreDifferentRows a b = (a.client ≢ b.client) ⊎ (a.number ≢ b.number)
