-- The rows of the areas, and the sectors that they hold.
use Rattle.std.specs.Prelude.{◌≡◌, ℕ, ◌+◌, Bool, false, ◌==◌, ◌&&◌, ◌||◌, if◌then◌else◌, List, [], ◌∷◌, slice_index_or, slice_set}
use Rattle.clfs_ledger.specs.declared.row.Reservation.{Reservation}

-- the row is that of the client's area
abbrev pub is_of : ℕ → ℕ → Reservation → Bool
is_of client area row = row.client == client && row.area == area

-- the area has a row
abbrev pub has_row : List Reservation → ℕ → ℕ → Bool
has_row [] client area = false
has_row (row ∷ rows) client area = is_of client area row || has_row rows client area

-- the sectors that the area holds: those of its row, and none where it has no row
abbrev pub held_of : List Reservation → ℕ → ℕ → ℕ
held_of [] client area = 0
held_of (row ∷ rows) client area = if is_of client area row then row.held else held_of rows client area

-- the sectors that all areas hold
abbrev pub total_held : List Reservation → ℕ
total_held [] = 0
total_held (row ∷ rows) = row.held + total_held rows

-- the rows, with so many sectors in the area's row
abbrev pub with_held : List Reservation → ℕ → ℕ → ℕ → List Reservation
with_held [] client area held = []
with_held (row ∷ rows) client area held =
    if is_of client area row then record row { held = held } ∷ rows else row ∷ with_held rows client area held

-- a row of no area
abbrev pub no_row : Reservation
no_row = record { client = 0; area = 0; held = 0 }

-- the row at a place, from 0 on
abbrev pub row_at : ℕ → List Reservation → Reservation
row_at place rows = slice_index_or rows place no_row

-- the rows, with so many sectors in the one at a place
abbrev pub with_held_at : ℕ → ℕ → List Reservation → List Reservation
with_held_at place held rows = slice_set rows place (record (row_at place rows) { held = held })

-- the rows but the area's
abbrev pub without : List Reservation → ℕ → ℕ → List Reservation
without [] client area = []
without (row ∷ rows) client area = if is_of client area row then rows else row ∷ without rows client area

-- every other area holds what it held
abbrev pub OtherRowsStay : List Reservation → List Reservation → ℕ → ℕ → Type 0
OtherRowsStay old new client area =
    (c a : ℕ) → (c == client && a == area) ≡ false → held_of new c a ≡ held_of old c a
