-- The cursors of one area that are changed.
use Rattle.clfs_areas.proofs.Words.{◌≡◌, ℕ, ◌<◌, refl, sym, ap, ◌∙◌, List, length, map, slice_set, map-set, get_or-map, Area, Cursor, AreaCursors, AreaTable}
use Rattle.clfs_areas.proofs.Words.{no_area, area_at, row_of, cursors_of, reservation_of, table_of, AreParts, AreJoined, Inside}
use Rattle.clfs_cursor.specs.Rows as seen
use Rattle.clfs_cursor.specs.Rows.{no_cursors, with_cursors}
use Rattle.clfs_areas.proofs.First.{change_leaves}
use Rattle.clfs_areas.proofs.Changed.{after, after_is}
use Rattle.clfs_areas.proofs.Parts.{parts_seen}

module _ (inside : Inside) (table : AreaTable) (view_is : table_of inside ≡ table) (joined : AreJoined inside) (place : ℕ) (there : place < length table.areas) where
  parts : AreParts table.areas inside.rows.items inside.cursors.areas inside.reservations
  parts = parts_seen inside table view_is joined

  -- the cursors of the area
  pub cursors_there : seen.area_at place inside.cursors.areas ≡ cursors_of (area_at place table.areas)
  cursors_there = ap (λ (all : List AreaCursors). seen.area_at place all) parts.cursors_are ∙ get_or-map cursors_of table.areas place no_area no_cursors there

  module _ (change : List Cursor → List Cursor) where
    -- an area with its cursors changed
    abbrev pub over_cursors : Area → Area
    over_cursors area = record area { cursors = change area.cursors }

    -- the changed cursors are those of the changed area, and the other parts stay
    pub cursors_changed : (now : List AreaCursors) → now ≡ with_cursors place (change (seen.area_at place inside.cursors.areas).cursors) inside.cursors.areas
        → AreParts (after inside table view_is joined place there over_cursors) inside.rows.items now inside.reservations
    cursors_changed now is = record {
      rows_are = parts.rows_are ∙ sym (change_leaves row_of _ over_cursors (λ area. refl) table.areas);
      cursors_are = is ∙ ap (λ (area : AreaCursors). slice_set inside.cursors.areas place (record area { cursors = change area.cursors })) cursors_there
          ∙ ap (λ (all : List AreaCursors). slice_set all place (cursors_of (over_cursors (area_at place table.areas)))) parts.cursors_are
          ∙ sym (map-set cursors_of table.areas place (over_cursors (area_at place table.areas)))
          ∙ sym (ap (λ (all : List Area). map cursors_of all) (after_is inside table view_is joined place there over_cursors));
      reservations_are = parts.reservations_are ∙ sym (change_leaves reservation_of _ over_cursors (λ area. refl) table.areas);
    }
