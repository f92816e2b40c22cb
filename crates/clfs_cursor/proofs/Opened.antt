-- The table of cursors, and its parts.
use Rattle.clfs_cursor.proofs.Words.{◌≡◌, ℕ, ◌<◌, ◌∙◌, ap, sym, subst, true, length, map, get_or, List, Option, Some, None, is_some, ◌==◌, find, option_map}
use Rattle.clfs_cursor.proofs.Words.{length-map, set-get_or, get, Cursor, cursor_in, cursors_without, cursors_moved, AreaCursors, Table, HaveDifferentNumbers}
use Rattle.clfs_cursor.proofs.Words.{no_cursors, area_at, with_cursors, Keys, AreDifferent, has_number, area_by, cursor_by, AreOwned, Numbered}
use Rattle.std.proofs.lemmas.List.{get_or_default}
use Rattle.clfs_cursor.specs.Table.{table_of}
use Rattle.clfs_cursor.specs.declared.cursors.Cursors.TheInside.{Inside}
use Rattle.clfs_cursor.proofs.Found.{different_seen, none_goes}
use Rattle.clfs_cursor.proofs.Moved.{none_moves}
use Rattle.clfs_cursor.proofs.Owned.{found_counts, key_is_there}
use Rattle.clfs_cursor.proofs.Seen.{found_seen}
use Rattle.clfs_cursor.proofs.Started.{area_there}

module _ (inside : Inside) (table : Table) (view_is : table_of inside ≡ table) (place : ℕ) (there : place < length table.areas) where
  -- an area of the table has a row
  pub row_there : place < length inside.rows.items
  row_there = subst (λ n. place < n)
      (ap (λ (t : Table). length t.areas) (sym view_is) ∙ length-map inside.rows.items (area_by inside.slots)) there

  -- two ways to read a row give the same one
  pub same_row : (a b : Keys) → a ≡ get_or inside.rows.items place a → b ≡ get_or inside.rows.items place b → a ≡ b
  same_row a b is_a is_b = is_a ∙ get_or_default inside.rows.items place a b row_there ∙ sym is_b

  -- a change of an area's cursors, as contracts see it
  pub change_seen : (areas : List AreaCursors) (change : List Cursor → List Cursor)
      → areas ≡ with_cursors place (change (area_at place (map (area_by inside.slots) inside.rows.items)).cursors) (map (area_by inside.slots) inside.rows.items)
      → areas ≡ with_cursors place (change (area_at place table.areas).cursors) table.areas
  change_seen areas change is = is ∙ ap (λ (t : Table). with_cursors place (change (area_at place t.areas).cursors) t.areas) view_is

  module _ (row : Keys) (is : row ≡ get_or inside.rows.items place row) where
    -- and is what the slab has at the row's keys
    pub area_seen : area_at place table.areas ≡ area_by inside.slots row
    area_seen = ap (λ (t : Table). area_at place t.areas) (sym view_is) ∙ area_there inside.slots inside.rows.items place row row_there is

    -- the cursor of a number is the one at the number's key
    pub cursor_seen : (number : ℕ) → cursor_in (area_at place table.areas).cursors number ≡ option_map (cursor_by inside.slots) (find (has_number number) row.numbered)
    cursor_seen number = ap (λ (a : AreaCursors). cursor_in a.cursors number) area_seen ∙ found_seen inside.slots row.numbered number

    -- its cursors have different numbers
    pub numbers_differ : AreDifferent row.numbered → HaveDifferentNumbers (area_at place table.areas).cursors
    numbers_differ different = subst (λ (area : AreaCursors). HaveDifferentNumbers area.cursors) (sym area_seen) (different_seen inside.slots row.numbered different)

    -- the slab has a cursor at a number's key
    pub there_by_number : AreOwned inside.slots inside.rows.items → (number key : ℕ) → find (has_number number) row.numbered ≡ Some (record { number = number; key = key })
        → is_some (get inside.slots key) ≡ true
    there_by_number owned number key found =
        key_is_there inside.slots inside.rows.items owned place row row_there is key
        (found_counts (has_number number) row.numbered (record { number = number; key = key }) found)

    -- where no cursor has the number, none ends, and none moves
    unchanged : (cursors : List Cursor) → cursors ≡ (area_at place table.areas).cursors → table.areas ≡ with_cursors place cursors table.areas
    unchanged cursors same =
        sym (ap (λ (cs : List Cursor). with_cursors place cs table.areas) same ∙ set-get_or table.areas place no_cursors)

    absent : (number : ℕ) → find (has_number number) row.numbered ≡ None → cursor_in (area_at place table.areas).cursors number ≡ None
    absent number none = cursor_seen number ∙ ap (λ (o : Option Numbered). option_map (cursor_by inside.slots) o) none

    pub none_ends : (number : ℕ) → find (has_number number) row.numbered ≡ None
        → table.areas ≡ with_cursors place (cursors_without number (area_at place table.areas).cursors) table.areas
    none_ends number none =
        unchanged (cursors_without number (area_at place table.areas).cursors)
        (none_goes (λ (cursor : Cursor). cursor.number == number) (area_at place table.areas).cursors (absent number none))

    pub no_move : (number lsn : ℕ) → find (has_number number) row.numbered ≡ None
        → table.areas ≡ with_cursors place (cursors_moved number lsn (area_at place table.areas).cursors) table.areas
    no_move number lsn none =
        unchanged (cursors_moved number lsn (area_at place table.areas).cursors)
        (none_moves number lsn (area_at place table.areas).cursors (absent number none))
