-- An area that is made.
use Rattle.clfs_areas.proofs.Words.{◌≡◌, ◌≢◌, ℕ, ◌<◌, Bool, true, false, refl, sym, ap, ◌∙◌, subst, arith, zero, suc, List, [], ◌∷◌, ◌++◌, length, map}
use Rattle.clfs_areas.proofs.Words.{get_or, ◌⊎◌, inl, inr, AllPairs, count_by, list_any, nat_tests, Area, least_unused, AreaCursors, Reservation, has_row}
use Rattle.clfs_areas.proofs.Words.{without, AreaTable, AreDifferentRows, is_client_row, is_name, is_row, is_used, name_in, row_of, cursors_of}
use Rattle.clfs_areas.proofs.Words.{reservation_of, inside_areas, table_of, AreParts, AreJoined, AreaName, AreaRow, Inside}
use Rattle.std.proofs.Common.{if◌then◌else◌}
use Rattle.std.proofs.lemmas.Bool.{cases_eq}
use Rattle.std.proofs.lemmas.List.{map-append}
use Rattle.std.proofs.lemmas.List.Quantifiers.{all_pairs_push}
use Rattle.clfs_ledger.specs.Rows.{is_of}
use Rattle.indexmap.specs.IndexSet.{insert_key}
use Rattle.clfs_areas.proofs.Clients.{held_row_seen}
use Rattle.clfs_areas.proofs.Named.{used_named}
use Rattle.clfs_areas.proofs.Numbers.{least_is_unused}
use Rattle.clfs_areas.proofs.Parts.{parts_tell, parts_kept, parts_seen}

-- a row that was added goes again
pub added_goes : (rows : List Reservation) (client number : ℕ) → has_row rows client number ≡ false
    → without (rows ++ record { client = client; area = number; held = 0 } ∷ []) client number ≡ rows
added_goes [] client number new =
    let own : is_of client number (record { client = client; area = number; held = 0 }) ≡ true = grind (arith, nat_tests) in
    rw own refl
added_goes (row ∷ rows) client number new = go (is_of client number row) refl (added_goes rows client number)
  where
    go : (b : Bool) → is_of client number row ≡ b
        → (has_row rows client number ≡ false → without (rows ++ record { client = client; area = number; held = 0 } ∷ []) client number ≡ rows)
        → without ((row ∷ rows) ++ record { client = client; area = number; held = 0 } ∷ []) client number ≡ row ∷ rows
    go true is rest = let some : true ≡ false = rw is at new in absurd (cc)
    go false is rest =
        let none : has_row rows client number ≡ false = rw is at new in
        rw is (ap (λ (others : List Reservation). row ∷ others) (rest none))

-- the names after one is inserted
abbrev pub with_name : List AreaName → AreaName → List AreaName
with_name names name = insert_key (λ (a b : AreaName). is_name a.client a.number b) names name

-- one that no row has goes last
name_added : (rows : List AreaRow) (names now : List AreaName) (client number : ℕ) → names ≡ map name_in rows → is_used client rows number ≡ false
    → now ≡ with_name names (record { client = client; number = number }) → now ≡ map name_in rows ++ record { client = client; number = number } ∷ []
name_added rows names now client number named unused is =
    let added : AreaName = record { client = client; number = number } in
    let none : list_any (is_name client number) names ≡ false =
    ap (λ (all : List AreaName). list_any (is_name client number) all) named ∙ used_named client rows number ∙ unused in
    is ∙ ap (λ (b : Bool). if b then names else names ++ added ∷ []) none ∙ ap (λ (all : List AreaName). all ++ added ∷ []) named

-- where none passes, that at a place doesn't
none_passes : {X : Type 0} (p : X → Bool) (xs : List X) → list_any p xs ≡ false → (k : ℕ) (d : X) → k < length xs → p (get_or xs k d) ≡ false
none_passes p [] none k d less = absurd (omega (arith, less))
none_passes {X} p (x ∷ xs) none k d less = go (p x) refl (none_passes p xs) k less
  where
    go : (b : Bool) → p x ≡ b → (list_any p xs ≡ false → (k : ℕ) (d : X) → k < length xs → p (get_or xs k d) ≡ false)
        → (k : ℕ) → k < length (x ∷ xs) → p (get_or (x ∷ xs) k d) ≡ false
    go true is rest k less = let some : true ≡ false = rw is at none in absurd (cc)
    go false is rest zero less = is
    go false is rest (suc k) less = let others : list_any p xs ≡ false = rw is at none in rest others k d (omega (arith, less))

-- a row of another client or number differs
other_row : (row new : AreaRow) → is_row new.client new.number row ≡ false → AreDifferentRows row new
other_row row new other = go (cases_eq row.client new.client)
  where
    go : (row.client ≡ new.client) ⊎ (row.client ≢ new.client) → AreDifferentRows row new
    go (inr differ) = inl differ
    go (inl same) = inr (λ (e : row.number ≡ new.number). grind (arith, nat_tests, other, same, e))

module _ (inside : Inside) (table : AreaTable) (view_is : table_of inside ≡ table) (joined : AreJoined inside) (client : ℕ) where
  parts : AreParts table.areas inside.rows.items inside.cursors.areas inside.reservations
  parts = parts_seen inside table view_is joined

  -- parts that are again what they were
  module _ (now : Inside) (rows_are : now.rows.items ≡ inside.rows.items) (same_names : now.names.keys ≡ inside.names.keys)
      (cursors_are : now.cursors.areas ≡ inside.cursors.areas) (reservations_are : now.reservations ≡ inside.reservations) where
    parts_again : AreParts table.areas now.rows.items now.cursors.areas now.reservations
    parts_again = record {
      rows_are = rows_are ∙ parts.rows_are;
      cursors_are = cursors_are ∙ parts.cursors_are;
      reservations_are = reservations_are ∙ parts.reservations_are;
    }

    pub told_again : inside_areas now ≡ table.areas
    told_again = parts_tell table.areas now.rows.items now.cursors.areas now.reservations parts_again

    pub joined_again : AreJoined now
    joined_again = record {
      parts = parts_kept table.areas now.rows.items now.cursors.areas now.reservations parts_again;
      different = subst (λ (all : List AreaRow). AllPairs AreDifferentRows all) (sym rows_are) joined.different;
      names_are = same_names ∙ joined.names_are ∙ ap (λ (all : List AreaRow). map name_in all) (sym rows_are);
    }

  -- a new number
  module _ (number : ℕ) (rows : List AreaRow) (same_rows : rows ≡ inside.rows.items)
      (is : number ≡ least_unused (count_by (is_client_row client) rows) (is_used client rows)) where
    -- no row of the client has it
    unused : is_used client inside.rows.items number ≡ false
    unused =
        ap (λ (n : ℕ). is_used client inside.rows.items n)
        (is ∙ ap (λ (all : List AreaRow). least_unused (count_by (is_client_row client) all) (is_used client all)) same_rows)
        ∙ least_is_unused client inside.rows.items

    -- nor has the ledger
    pub ledger_has_none : has_row inside.reservations client number ≡ false
    ledger_has_none =
        ap (λ (all : List Reservation). has_row all client number) parts.reservations_are
        ∙ held_row_seen table.areas client number
        ∙ ap (λ (all : List AreaRow). is_used client all number) (sym parts.rows_are) ∙ unused

    module _ (stream largest reads : ℕ) where
      -- the new area
      abbrev pub made : Area
      made = record { client = client; number = number; stream = stream; largest = largest; reads = reads; held = 0; cursors = [] }

      module _ (now : Inside) (rows_are : now.rows.items ≡ inside.rows.items ++ row_of made ∷ [])
          (more_names : now.names.keys ≡ with_name inside.names.keys (record { client = client; number = number }))
          (cursors_are : now.cursors.areas ≡ inside.cursors.areas ++ cursors_of made ∷ [])
          (reservations_are : now.reservations ≡ inside.reservations ++ reservation_of made ∷ []) where
        parts_now : AreParts (table.areas ++ made ∷ []) now.rows.items now.cursors.areas now.reservations
        parts_now = record {
          rows_are = rows_are ∙ ap (λ (all : List AreaRow). all ++ row_of made ∷ []) parts.rows_are ∙ sym (map-append row_of table.areas (made ∷ []));
          cursors_are = cursors_are ∙ ap (λ (all : List AreaCursors). all ++ cursors_of made ∷ []) parts.cursors_are
              ∙ sym (map-append cursors_of table.areas (made ∷ []));
          reservations_are = reservations_are ∙ ap (λ (all : List Reservation). all ++ reservation_of made ∷ []) parts.reservations_are
              ∙ sym (map-append reservation_of table.areas (made ∷ []));
        }

        -- it stands after the others
        pub told_now : inside_areas now ≡ table.areas ++ made ∷ []
        told_now = parts_tell (table.areas ++ made ∷ []) now.rows.items now.cursors.areas now.reservations parts_now

        -- and the parts belong together
        pub joined_now : AreJoined now
        joined_now = record {
          parts = parts_kept (table.areas ++ made ∷ []) now.rows.items now.cursors.areas now.reservations parts_now;
          different = subst (λ (all : List AreaRow). AllPairs AreDifferentRows all) (sym rows_are)
              (all_pairs_push AreDifferentRows inside.rows.items (row_of made) joined.different
              (λ k d less. other_row (get_or inside.rows.items k d) (row_of made) (none_passes (is_row client number) inside.rows.items unused k d less)));
          names_are = name_added inside.rows.items inside.names.keys now.names.keys client number joined.names_are unused more_names
              ∙ sym (map-append name_in inside.rows.items (row_of made ∷ [])) ∙ ap (λ (all : List AreaRow). map name_in all) (sym rows_are);
        }
