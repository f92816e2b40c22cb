-- One area that is changed.
use Rattle.clfs_areas.proofs.Words.{◌≡◌, ℕ, ◌<◌, sym, ap, ◌∙◌, subst, List, length, map, AllPairs, slice_set, Area, change_first, is_area, AreaTable, no_area}
use Rattle.clfs_areas.proofs.Words.{area_at, name_in, AreDifferentRows, inside_areas, table_of, AreParts, AreJoined, AreaRow, Inside}
use Rattle.std.proofs.lemmas.List.{get_or-set_same, length-set}
use Rattle.clfs_areas.proofs.First.{IsFirst, change_at}
use Rattle.clfs_areas.proofs.Named.{different_areas, named_first}
use Rattle.clfs_areas.proofs.Parts.{parts_tell, parts_kept, parts_seen}

module _ (inside : Inside) (table : AreaTable) (view_is : table_of inside ≡ table) (joined : AreJoined inside) (place : ℕ) (there : place < length table.areas) where
  -- the area
  abbrev pub before : Area
  before = area_at place table.areas

  pub first_of_name : IsFirst (is_area before.client before.number) table.areas place no_area
  first_of_name =
      let parts = parts_seen inside table view_is joined in
      named_first table.areas place (different_areas table.areas inside.rows.items parts.rows_are joined.different) there

  module _ (change : Area → Area) where
    -- all areas with this one changed
    abbrev pub after : List Area
    after = change_first (is_area before.client before.number) change table.areas

    pub after_is : after ≡ slice_set table.areas place (change before)
    after_is = change_at (is_area before.client before.number) change table.areas place no_area first_of_name

    module _ (now : Inside) (parts : AreParts after now.rows.items now.cursors.areas now.reservations) where
      -- the parts that tell them
      pub told_after : inside_areas now ≡ after
      told_after = parts_tell after now.rows.items now.cursors.areas now.reservations parts

      -- the changed area stands where it stood
      pub area_after : area_at place (inside_areas now) ≡ change before
      area_after = ap (λ (all : List Area). area_at place all) (told_after ∙ after_is) ∙ get_or-set_same table.areas place (change before) no_area there

      -- there are as many as before
      pub as_many_after : length (inside_areas now) ≡ length table.areas
      as_many_after = ap (λ (all : List Area). length all) (told_after ∙ after_is) ∙ length-set table.areas place (change before)

      -- and the parts belong together
      pub joined_after : inside.rows.items ≡ now.rows.items → inside.names.keys ≡ now.names.keys → AreJoined now
      joined_after same same_names = record {
        parts = parts_kept after now.rows.items now.cursors.areas now.reservations parts;
        different = subst (λ (rows : List AreaRow). AllPairs AreDifferentRows rows) same joined.different;
        names_are = sym same_names ∙ joined.names_are ∙ ap (λ (rows : List AreaRow). map name_in rows) same;
      }
