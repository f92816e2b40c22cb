-- What one area holds that is changed.
use Rattle.clfs_areas.proofs.Words.{◌≡◌, ℕ, ◌<◌, refl, sym, ap, ◌∙◌, arith, List, length, map, slice_set, length-map, map-set, get_or-map, Area, Reservation}
use Rattle.clfs_areas.proofs.Words.{AreaTable, no_area, area_at, row_of, cursors_of, reservation_of, table_of, AreParts, AreJoined, Inside}
use Rattle.clfs_ledger.specs.Rows.{no_row, row_at, with_held_at}
use Rattle.clfs_areas.proofs.First.{change_leaves}
use Rattle.clfs_areas.proofs.Changed.{after, after_is}
use Rattle.clfs_areas.proofs.Parts.{parts_seen}

module _ (inside : Inside) (table : AreaTable) (view_is : table_of inside ≡ table) (joined : AreJoined inside) (place : ℕ) (there : place < length table.areas) where
  parts : AreParts table.areas inside.rows.items inside.cursors.areas inside.reservations
  parts = parts_seen inside table view_is joined

  abbrev area : Area
  area = area_at place table.areas

  -- the ledger has a row for the area at its place
  pub place_in_ledger : place < length inside.reservations
  place_in_ledger = omega (arith, there, length-map table.areas reservation_of, ap length parts.reservations_are)

  ledger_row : row_at place inside.reservations ≡ reservation_of area
  ledger_row = ap (λ (all : List Reservation). row_at place all) parts.reservations_are ∙ get_or-map reservation_of table.areas place no_area no_row there

  -- with what it holds
  pub held_there : (row_at place inside.reservations).held ≡ area.held
  held_there = ap (λ (row : Reservation). row.held) ledger_row

  module _ (change : ℕ → ℕ) where
    -- an area that holds another number of sectors
    abbrev pub over_held : Area → Area
    over_held a = record a { held = change a.held }

    -- the changed row is that of the changed area, and the other parts stay
    pub held_is_changed : (now : List Reservation) → now ≡ with_held_at place (change (row_at place inside.reservations).held) inside.reservations
        → AreParts (after inside table view_is joined place there over_held) inside.rows.items inside.cursors.areas now
    held_is_changed now changed = record {
      rows_are = parts.rows_are ∙ sym (change_leaves row_of _ over_held (λ a. refl) table.areas);
      cursors_are = parts.cursors_are ∙ sym (change_leaves cursors_of _ over_held (λ a. refl) table.areas);
      reservations_are = changed
          ∙ ap (λ (row : Reservation). slice_set inside.reservations place (record row { held = change row.held })) ledger_row
          ∙ ap (λ (all : List Reservation). slice_set all place (reservation_of (over_held area))) parts.reservations_are
          ∙ sym (map-set reservation_of table.areas place (over_held area))
          ∙ sym (ap (λ (all : List Area). map reservation_of all) (after_is inside table view_is joined place there over_held));
    }
