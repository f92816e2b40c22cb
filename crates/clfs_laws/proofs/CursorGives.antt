-- What a cursor still gives after it was made, and after it moved.
use Rattle.clfs_laws.proofs.Words.{◌≡◌, ℕ, zero, suc, refl, ap, ◌∙◌, List, ◌∷◌, length, Option, Some, None, LogEntry, Mode, Previous, UndoNext, Forward}
use Rattle.clfs_laws.proofs.Words.{State, Area, Cursor, CursorKind, Records, RestartAreas, area_of, change_area, next, chain_from, with_cursor}
use Rattle.clfs_laws.proofs.Words.{with_cursor_at, unused_cursor, cursor_of_kind, still_to_come, StillGives}
use Rattle.clfs_laws.proofs.CursorSteps.{new_cursor, changed_there, made_there, moved_to, moved_there}

-- chains go over records and streams, whatever the areas are
next_same : (s : State) (areas : List Area) (stream : ℕ) (mode : Mode) (last : ℕ)
    → next (record s { areas = areas }) stream mode last ≡ next s stream mode last
next_same s areas stream Previous last = refl
next_same s areas stream UndoNext last = refl
next_same s areas stream Forward last = refl

chain_same : (s : State) (areas : List Area) (stream : ℕ) (mode : Mode) (bound : ℕ) (found : Option LogEntry)
    → chain_from (record s { areas = areas }) stream mode bound found ≡ chain_from s stream mode bound found
chain_same s areas stream mode zero found = refl
chain_same s areas stream mode (suc bound) None = refl
chain_same s areas stream mode (suc bound) (Some entry) =
    ap (λ (rest : List LogEntry). entry ∷ rest)
    (chain_same s areas stream mode bound (next (record s { areas = areas }) stream mode entry.lsn)
    ∙ ap (λ (found : Option LogEntry). chain_from s stream mode bound found) (next_same s areas stream mode entry.lsn))

to_come_same : (s : State) (areas : List Area) (stream : ℕ) (kind : CursorKind) (last : ℕ)
    → still_to_come (record s { areas = areas }) stream kind last ≡ still_to_come s stream kind last
to_come_same s areas stream (Records mode) last =
    chain_same s areas stream mode (length s.records) (next (record s { areas = areas }) stream mode last)
    ∙ ap (λ (found : Option LogEntry). chain_from s stream mode (length s.records) found) (next_same s areas stream mode last)
to_come_same s areas stream RestartAreas last = refl

-- a new cursor gives what comes after its record
pub made_gives : (s : State) (client number : ℕ) (area : Area) (kind : CursorKind) (last : ℕ) (rest : List LogEntry) → area_of s client number ≡ Some area
    → still_to_come s area.stream kind last ≡ rest
    → StillGives (change_area (with_cursor (new_cursor area kind last)) area.client area.number s) client number (unused_cursor area.cursors) kind rest
made_gives s client number area kind last rest is gives =
    let change : Area → Area = with_cursor (new_cursor area kind last) in
    let t : State = change_area change area.client area.number s in
    record {
      area = change area;
      area_there = changed_there s client number area change (record { client = λ a. refl; number = λ a. refl }) is;
      at = new_cursor area kind last;
      cursor_there = made_there area kind last;
      same_kind = refl;
      gives = to_come_same s t.areas area.stream kind last ∙ gives;
    }

-- a cursor that has moved gives what comes after the record that it moved to
pub moved_gives : (s : State) (client number cursor : ℕ) (area : Area) (at : Cursor) (kind : CursorKind) (last : ℕ) (rest : List LogEntry)
    → area_of s client number ≡ Some area → cursor_of_kind area cursor kind ≡ Some at → at.kind ≡ kind → still_to_come s area.stream kind last ≡ rest
    → StillGives (change_area (with_cursor_at cursor last) area.client area.number s) client number cursor kind rest
moved_gives s client number cursor area at kind last rest is there same gives =
    let change : Area → Area = with_cursor_at cursor last in
    let t : State = change_area change area.client area.number s in
    record {
      area = change area;
      area_there = changed_there s client number area change (record { client = λ a. refl; number = λ a. refl }) is;
      at = moved_to last at;
      cursor_there = moved_there area cursor last kind at there;
      same_kind = same;
      gives = to_come_same s t.areas area.stream kind last ∙ gives;
    }
