-- The parts of the table and the areas that they tell.
use Rattle.clfs_areas.proofs.Words.{◌≡◌, refl, sym, ap, subst, List, [], ◌∷◌, map, Area, AreaCursors, Reservation, AreaTable, row_of, cursors_of}
use Rattle.clfs_areas.proofs.Words.{reservation_of, table_of, AreParts, AreJoined, AreaRow, Inside}
use Rattle.clfs_areas.specs.Kept.{areas_by}

-- the parts of areas tell these areas
joined_again : (areas : List Area) → areas_by (map row_of areas) (map cursors_of areas) (map reservation_of areas) ≡ areas
joined_again [] = refl
joined_again (area ∷ areas) = ap (λ (rest : List Area). area ∷ rest) (joined_again areas)

pub parts_tell : (areas : List Area) (rows : List AreaRow) (cursors : List AreaCursors) (reservations : List Reservation)
    → AreParts areas rows cursors reservations → areas_by rows cursors reservations ≡ areas
parts_tell areas rows cursors reservations parts = rw (parts.rows_are, parts.cursors_are, parts.reservations_are) (joined_again areas)

-- and belong together
pub parts_kept : (areas : List Area) (rows : List AreaRow) (cursors : List AreaCursors) (reservations : List Reservation)
    → AreParts areas rows cursors reservations → AreParts (areas_by rows cursors reservations) rows cursors reservations
parts_kept areas rows cursors reservations parts =
    subst (λ (told : List Area). AreParts told rows cursors reservations) (sym (parts_tell areas rows cursors reservations parts)) parts

-- the parts of a table are those of the areas that contracts see
pub parts_seen : (inside : Inside) (table : AreaTable) → table_of inside ≡ table → AreJoined inside
    → AreParts table.areas inside.rows.items inside.cursors.areas inside.reservations
parts_seen inside table view_is joined =
    subst (λ (told : AreaTable). AreParts told.areas inside.rows.items inside.cursors.areas inside.reservations) view_is joined.parts
