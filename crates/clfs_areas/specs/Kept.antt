-- What the parts of the table stand for, and what is true of them.
use Rattle.std.specs.Prelude.{◌≡◌, List, [], ◌∷◌, map, AllPairs}
use Rattle.clfs_model.specs.declared.state.Area.{Area}
use Rattle.clfs_cursor.specs.Rows.{AreaCursors}
use Rattle.clfs_ledger.specs.declared.row.Reservation.{Reservation}
use Rattle.clfs_areas.specs.Table.{AreaTable}
use Rattle.clfs_areas.specs.Rows.{name_in, AreDifferentRows}
use Rattle.clfs_areas.specs.declared.row.AreaRow.{AreaRow}
use Rattle.clfs_areas.specs.declared.areas.Areas.TheInside.{Inside}

-- an area of its parts
abbrev pub area_by : AreaRow → AreaCursors → Reservation → Area
area_by row cursors reservation = record {
  client = row.client;
  number = row.number;
  stream = row.stream;
  largest = row.largest;
  reads = row.reads;
  held = reservation.held;
  cursors = cursors.cursors;
}

-- the areas of their parts, which stand at the same places
abbrev pub areas_by : List AreaRow → List AreaCursors → List Reservation → List Area
areas_by (row ∷ rows) (cursors ∷ others) (reservation ∷ reservations) = area_by row cursors reservation ∷ areas_by rows others reservations
areas_by _ _ _ = []

-- what the row of an area says, but for its cursors and what it holds
abbrev pub row_of : Area → AreaRow
row_of area = record { client = area.client; number = area.number; stream = area.stream; largest = area.largest; reads = area.reads }

-- an area's cursors, and how many it may have
abbrev pub cursors_of : Area → AreaCursors
cursors_of area = record { cursors = area.cursors; reads = area.reads }

-- what an area holds, with whose it is
abbrev pub reservation_of : Area → Reservation
reservation_of area = record { client = area.client; area = area.number; held = area.held }

-- the areas of all clients
abbrev pub inside_areas : Inside → List Area
inside_areas inside = areas_by inside.rows.items inside.cursors.areas inside.reservations

-- the table that the parts stand for
abbrev pub table_of : Inside → AreaTable
table_of inside = record { areas = inside_areas inside; capacity = inside.cursors.capacity }

-- The parts tell these areas, each at the same place.
pub record AreParts (areas : List Area) (rows : List AreaRow) (cursors : List AreaCursors) (reservations : List Reservation) : Type 0 where
  -- an area that has a row has its cursors and its row in the ledger too
  pub rows_are : rows ≡ map row_of areas
  -- its cursors are its own, and it may have as many as its row says
  pub cursors_are : cursors ≡ map cursors_of areas
  -- the ledger has its sectors under its client and its number
  pub reservations_are : reservations ≡ map reservation_of areas

-- What is true of the parts inside.
pub record AreJoined (inside : Inside) : Type 0 where
  -- none has an area that the others lack, or has it at another place
  pub parts : AreParts (inside_areas inside) inside.rows.items inside.cursors.areas inside.reservations
  -- no area has the client and the number of another, so that what is found by them is the one that is meant
  pub different : AllPairs AreDifferentRows inside.rows.items
  -- each is found where its row stands
  pub names_are : inside.names.keys ≡ map name_in inside.rows.items
