-- Where a cursor is after it was made, and after it moved.
use Rattle.clfs_laws.proofs.Words.{◌≡◌, ◌≢◌, ℕ, Bool, true, false, refl, sym, ap, ◌∙◌, inl, inr, List, [], ◌∷◌, Option, Some, None, find, map, not, ◌&&◌}
use Rattle.clfs_laws.proofs.Words.{◌==◌, if◌then◌else◌, AllByRecursion, option_map, option_or, cases_Bool, eqb-true, eq-eqb, ne_eqb, and_parts, find-append}
use Rattle.clfs_laws.proofs.Words.{State, Area, Cursor, CursorKind, Records, RestartAreas, area_of, change_area, is_area, with_cursor, with_cursor_at}
use Rattle.clfs_laws.proofs.Words.{is_over_restarts, unused_cursor, cursor_of_kind}
use Rattle.clfs_laws.proofs.Finding.{KeepsName, find_changed}
use Rattle.clfs_laws.proofs.RowSteps.{named_change}
use Rattle.clfs_laws.proofs.Unused.{unused_is_new, none_has}

-- the area that a call changed, found again
pub changed_there : (s : State) (client number : ℕ) (area : Area) (change : Area → Area) → KeepsName change → area_of s client number ≡ Some area
    → area_of (change_area change area.client area.number s) client number ≡ Some (change area)
changed_there s client number area change keeps is =
    ap (λ (areas : List Area). find (is_area client number) areas) (named_change s client number area change is)
    ∙ find_changed change keeps client number s.areas ∙ ap (λ (at : Option Area). option_map change at) is

-- whether a cursor has this number and goes over what a kind goes over
abbrev pub is_cursor : ℕ → CursorKind → Cursor → Bool
is_cursor number (Records mode) cursor = (cursor.number == number) && not (is_over_restarts cursor.kind)
is_cursor number RestartAreas cursor = (cursor.number == number) && is_over_restarts cursor.kind

-- that is how it is found
found_by : (area : Area) (number : ℕ) (kind : CursorKind) → cursor_of_kind area number kind ≡ find (is_cursor number kind) area.cursors
found_by area number (Records mode) = refl
found_by area number RestartAreas = refl

has_number : (number : ℕ) (kind : CursorKind) (cursor : Cursor) → is_cursor number kind cursor ≡ true → cursor.number ≡ number
has_number number (Records mode) cursor is = eqb-true cursor.number number (and_parts (cursor.number == number) (not (is_over_restarts cursor.kind)) is).0
has_number number RestartAreas cursor is = eqb-true cursor.number number (and_parts (cursor.number == number) (is_over_restarts cursor.kind) is).0

other_number : (number : ℕ) (kind : CursorKind) (cursor : Cursor) → cursor.number ≢ number → is_cursor number kind cursor ≡ false
other_number number (Records mode) cursor differ = rw (ne_eqb cursor.number number differ) refl
other_number number RestartAreas cursor differ = rw (ne_eqb cursor.number number differ) refl

-- the number of a cursor
abbrev pub number_of : Cursor → ℕ
number_of cursor = cursor.number

none_found : (number : ℕ) (kind : CursorKind) (cursors : List Cursor) → AllByRecursion (λ (cursor : Cursor). number_of cursor ≢ number) cursors
    → find (is_cursor number kind) cursors ≡ None
none_found number kind [] differ = refl
none_found number kind (cursor ∷ cursors) differ =
    rw (other_number number kind cursor differ.0) (none_found number kind cursors differ.1)

-- a new cursor of a kind at a record
abbrev pub new_cursor : Area → CursorKind → ℕ → Cursor
new_cursor area kind last = record { number = unused_cursor area.cursors; kind = kind; last = last }

new_passes : (number last : ℕ) (kind : CursorKind) → is_cursor number kind (record { number = number; kind = kind; last = last }) ≡ true
new_passes number last (Records mode) = rw (eq-eqb number number refl) refl
new_passes number last RestartAreas = rw (eq-eqb number number refl) refl

-- it is there
pub made_there : (area : Area) (kind : CursorKind) (last : ℕ)
    → cursor_of_kind (with_cursor (new_cursor area kind last) area) (unused_cursor area.cursors) kind ≡ Some (new_cursor area kind last)
made_there area kind last =
    let number = unused_cursor area.cursors in
    let none : find (is_cursor number kind) area.cursors ≡ None =
    none_found number kind area.cursors (none_has number_of area.cursors number (unused_is_new number_of area.cursors)) in
    found_by (with_cursor (new_cursor area kind last) area) number kind
    ∙ find-append (is_cursor number kind) area.cursors (new_cursor area kind last ∷ [])
    ∙ ap (λ (first : Option Cursor). option_or first (find (is_cursor number kind) (new_cursor area kind last ∷ []))) none
    ∙ rw (new_passes number last kind) refl

-- a cursor that has moved
abbrev pub moved_to : ℕ → Cursor → Cursor
moved_to lsn cursor = record cursor { last = lsn }

-- it passes the same tests
same_tests : (number lsn : ℕ) (kind : CursorKind) (cursor : Cursor) → is_cursor number kind (moved_to lsn cursor) ≡ is_cursor number kind cursor
same_tests number lsn (Records mode) cursor = refl
same_tests number lsn RestartAreas cursor = refl

-- the cursor of a number moved, where it is that one
abbrev pub moved_if : ℕ → ℕ → Cursor → Cursor
moved_if number lsn cursor = if cursor.number == number then moved_to lsn cursor else cursor

moved_found : (number lsn : ℕ) (kind : CursorKind) (cursors : List Cursor)
    → find (is_cursor number kind) (map (moved_if number lsn) cursors) ≡ option_map (moved_to lsn) (find (is_cursor number kind) cursors)
moved_found number lsn kind [] = refl
moved_found number lsn kind (cursor ∷ cursors) = elim (cases_Bool (is_cursor number kind cursor)) [
  | inl here ↦
      let named : (cursor.number == number) ≡ true = eq-eqb cursor.number number (has_number number kind cursor here) in
      rw (named, here, same_tests number lsn kind cursor ∙ here) refl
  | inr there ↦ rw there (elim (cases_Bool (cursor.number == number)) [
    | inl named ↦ rw (named, same_tests number lsn kind cursor ∙ there) (moved_found number lsn kind cursors)
    | inr other ↦ rw (other, there) (moved_found number lsn kind cursors)
  ])
]

-- it is there
pub moved_there : (area : Area) (number lsn : ℕ) (kind : CursorKind) (at : Cursor) → cursor_of_kind area number kind ≡ Some at
    → cursor_of_kind (with_cursor_at number lsn area) number kind ≡ Some (moved_to lsn at)
moved_there area number lsn kind at is =
    found_by (with_cursor_at number lsn area) number kind ∙ moved_found number lsn kind area.cursors
    ∙ ap (λ (o : Option Cursor). option_map (moved_to lsn) o) (sym (found_by area number kind) ∙ is)
