-- The sets of a transaction: what was in a cell before them, and what they leave there.
use Rattle.std.specs.Prelude.{◌≡◌, ℕ, ◌<◌, Bool, ◌==◌, if◌then◌else◌, List, [], ◌∷◌, find, slice_get}
use Rattle.std.specs.List.{AllByRecursion}
use Rattle.std.specs.Option.{option_map_or}
use Rattle.clfs_lsn.specs.Lsn.{null_lsn}
use Rattle.clfs_cells.specs.declared.begun.Made.{Made}

-- the newest of some sets, which come the newest first, or null where there is none
abbrev pub newest_of : List Made → ℕ
newest_of made = option_map_or (λ (m : Made). m.lsn) (slice_get made 0) null_lsn

-- a set is of this cell
abbrev pub is_of_cell : ℕ → Made → Bool
is_of_cell cell made = made.change.cell == cell

-- the value of a cell from before the first of these sets of it, which come in order
abbrev pub value_before : List Made → ℕ → ℕ
value_before made cell = option_map_or (λ (m : Made). m.change.old) (find (is_of_cell cell) made) 0

-- the value that a cell has by the newest of these sets of it, which come the newest first, or this one where none is of it
abbrev pub value_by : ℕ → ℕ → List Made → ℕ
value_by before cell [] = before
value_by before cell (made ∷ older) = if is_of_cell cell made then made.change.new else value_by before cell older

-- Sets that lie one on the other, the newest first: undoing goes from each to the one below it, and each found in its cell what those below it leave there.
abbrev pub AreStacked : (ℕ → ℕ) → List Made → Type 0
AreStacked before [] = Unit {0}
AreStacked before (made ∷ older) =
    (made.undo_next ≡ newest_of older) × (made.change.old ≡ value_by (before made.change.cell) made.change.cell older) × AreStacked before older

-- the records of the sets rise, in the order in which these were made
abbrev pub Rise : List Made → Type 0
Rise [] = Unit {0}
Rise (made ∷ later) = AllByRecursion (λ (other : Made). made.lsn < other.lsn) later × Rise later
