-- An area that goes.
use Rattle.clfs_areas.proofs.Words.{◌≡◌, ℕ, ◌<◌, false, refl, sym, ap, ◌∙◌, subst, arith, zero, suc, List, [], ◌∷◌, length, map, Option, Some, None, AllPairs}
use Rattle.clfs_areas.proofs.Words.{filter, position, remove, option_map, length-map, Area, is_area, AreDifferentAreas, AreaCursors, Reservation, without}
use Rattle.clfs_areas.proofs.Words.{AreaTable, no_area, area_at, AreDifferentRows, is_name, name_in, row_of, cursors_of, reservation_of, inside_areas}
use Rattle.clfs_areas.proofs.Words.{table_of, AreParts, AreJoined, AreaName, AreaRow, Inside}
use Rattle.std.specs.Prelude.{not}
use Rattle.std.proofs.lemmas.List.Quantifiers.{all_pairs_remove}
use Rattle.clfs_areas.proofs.First.{IsFirst, found_first, first_rest, find_at_place, others_left, removed_left}
use Rattle.clfs_areas.proofs.Named.{place_named, different_areas, named_client, named_number, name_of_other}
use Rattle.clfs_areas.proofs.Parts.{parts_tell, parts_kept, parts_seen}

-- what f makes of a list without an element
map_removed : {X Y : Type 0} (f : X → Y) (xs : List X) (i : ℕ) → map f (remove xs i) ≡ remove (map f xs) i
map_removed f [] i = nothing i
  where
    nothing : (i : ℕ) → map f (remove [] i) ≡ remove (map f []) i
    nothing zero = refl
    nothing (suc i) = refl
map_removed f (x ∷ xs) zero = refl
map_removed {Y = Y} f (x ∷ xs) (suc i) = ap (λ (ys : List Y). f x ∷ ys) (map_removed f xs i)

-- the ledger's rows but the area's
ledger_without : (client number : ℕ) (areas : List Area) (place : ℕ) (d : Area) → IsFirst (is_area client number) areas place d
    → without (map reservation_of areas) client number ≡ map reservation_of (remove areas place)
ledger_without client number [] place d first = absurd (omega (arith, first.within))
ledger_without client number (area ∷ areas) zero d first = rw first.passes refl
ledger_without client number (area ∷ areas) (suc place) d first =
    rw (first.before 0 (omega arith)) (ap (λ (rows : List Reservation). reservation_of area ∷ rows)
    (ledger_without client number areas place d (first_rest (is_area client number) area areas place d first)))

module _ (inside : Inside) (table : AreaTable) (view_is : table_of inside ≡ table) (joined : AreJoined inside) (client number : ℕ)
    (placed : Option ℕ) (found : placed ≡ position (is_name client number) inside.names.keys) where
  -- all areas without the client's one of this number
  abbrev pub left : List Area
  left = filter (λ (area : Area). not (is_area client number area)) table.areas

  parts : AreParts table.areas inside.rows.items inside.cursors.areas inside.reservations
  parts = parts_seen inside table view_is joined

  seen : placed ≡ position (is_area client number) table.areas
  seen = found ∙ place_named table.areas inside.rows.items inside.names.keys client number joined.names_are parts.rows_are

  -- where it isn't there, all are left
  pub none_goes : placed ≡ None → table.areas ≡ left
  none_goes none = sym (others_left (is_area client number) table.areas
      (find_at_place (is_area client number) table.areas no_area
      ∙ ap (λ (place : Option ℕ). option_map (λ (at : ℕ). area_at at table.areas) place) (sym seen ∙ none)))

  module _ (place : ℕ) (some : placed ≡ Some place) where
    first : IsFirst (is_area client number) table.areas place no_area
    first = found_first (is_area client number) table.areas place no_area (sym seen ∙ some)

    -- a row and cursors stand there
    pub row_there : place < length inside.rows.items
    row_there = omega (arith, first.within, length-map table.areas row_of, ap length parts.rows_are)

    pub cursors_there : place < length inside.cursors.areas
    cursors_there = omega (arith, first.within, length-map table.areas cursors_of, ap length parts.cursors_are)

    -- no other area has the name
    behind : (k : ℕ) → place < k → k < length table.areas → is_area client number (area_at k table.areas) ≡ false
    behind k above within =
        let differ : AreDifferentAreas (area_at place table.areas) (area_at k table.areas) =
        different_areas table.areas inside.rows.items parts.rows_are joined.different place k no_area above within in
        let other = name_of_other (area_at place table.areas) (area_at k table.areas) differ in
        subst (λ (n : ℕ). is_area client n (area_at k table.areas) ≡ false) (named_number client number (area_at place table.areas) first.passes)
        (subst (λ (c : ℕ). is_area c (area_at place table.areas).number (area_at k table.areas) ≡ false)
        (named_client client number (area_at place table.areas) first.passes) other)

    left_is : left ≡ remove table.areas place
    left_is = removed_left (is_area client number) table.areas place no_area first behind

    module _ (now : Inside) (rows_are : now.rows.items ≡ remove inside.rows.items place) (names_are : now.names.keys ≡ remove inside.names.keys place) (cursors_are : now.cursors.areas ≡ remove inside.cursors.areas place)
        (reservations_are : now.reservations ≡ without inside.reservations client number) where
      parts_left : AreParts left now.rows.items now.cursors.areas now.reservations
      parts_left = subst (λ (areas : List Area). AreParts areas now.rows.items now.cursors.areas now.reservations) (sym left_is) record {
        rows_are = rows_are ∙ ap (λ (all : List AreaRow). remove all place) parts.rows_are ∙ sym (map_removed row_of table.areas place);
        cursors_are = cursors_are ∙ ap (λ (all : List AreaCursors). remove all place) parts.cursors_are ∙ sym (map_removed cursors_of table.areas place);
        reservations_are = reservations_are ∙ ap (λ (all : List Reservation). without all client number) parts.reservations_are
            ∙ ledger_without client number table.areas place no_area first;
      }

      -- the parts that are left tell the areas that are left
      pub told_left : inside_areas now ≡ left
      told_left = parts_tell left now.rows.items now.cursors.areas now.reservations parts_left

      -- and belong together
      pub joined_left : AreJoined now
      joined_left = record {
        parts = parts_kept left now.rows.items now.cursors.areas now.reservations parts_left;
        different = subst (λ (all : List AreaRow). AllPairs AreDifferentRows all) (sym rows_are)
            (all_pairs_remove AreDifferentRows inside.rows.items place row_there joined.different);
        names_are = names_are ∙ ap (λ (all : List AreaName). remove all place) joined.names_are ∙ sym (map_removed name_in inside.rows.items place)
            ∙ ap (λ (all : List AreaRow). map name_in all) (sym rows_are);
      }
