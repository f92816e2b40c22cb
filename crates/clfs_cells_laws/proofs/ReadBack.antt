-- What reading answers over a log whose last area is the client's only one.
use Rattle.clfs_cells_laws.proofs.Words.{◌≡◌, ℕ, Bool, true, false, refl, ap, ◌∙◌, List, [], ◌∷◌, Option, Some, None, MatchBool, find, is_none, nat_lt}
use Rattle.clfs_cells_laws.proofs.Words.{option_map_or, eq-eqb, Cursor, Records, Forward, LogEntry, cursors_moved, cursors_without, record_cursor_in}
use Rattle.clfs_cells_laws.proofs.Words.{cursor_in, Reply, Area, State, answer, moved_on, outcome, live, cursor_of, record_cursor, with_cursor_at}
use Rattle.clfs_cells_laws.proofs.Words.{without_cursor, next_refusal, refusal, refused_if, area_of, change_area, IsReply}
use Rattle.clfs_model.specs.declared.call.Call.TheVariants as calls
use Rattle.clfs_model.specs.declared.refusal.Refusal.TheVariants as refusals
use Rattle.clfs_model.specs.declared.reply.Reply.TheVariants as replies
use Rattle.clfs_cells_laws.proofs.OwnArea.{find_own, change_own}
use Rattle.clfs_cells_laws.proofs.Ground.{Ground, at, own_area}

-- ---- a record that is handed out

read_lsn : (below : Bool) (entry read : LogEntry) → MatchBool below (read.lsn ≡ entry.lsn) (read ≡ entry) → read.lsn ≡ entry.lsn
read_lsn true entry read is = is
read_lsn false entry read is = ap (λ (e : LogEntry). e.lsn) is

pub record IsRead (told : Bool) (entry read : LogEntry) : Type 0 where
  pub lsn : read.lsn ≡ entry.lsn
  pub exact : told ≡ true → read ≡ entry

pub next_read : (told : Bool) (stable : ℕ) (entry : LogEntry) (reply : Reply) → IsReply told stable (replies.Next entry) reply
    → (read : LogEntry) × (reply ≡ replies.Next read) × IsRead told entry read
next_read true stable entry reply is = (entry, is, record { lsn = refl; exact = λ _. refl })
next_read false stable entry reply is =
    (is.0, is.1.1, record { lsn = read_lsn (nat_lt entry.lsn stable) entry is.0 is.1.0; exact = λ tells. absurd (cc tells) })

pub found_read : (told : Bool) (stable cursor : ℕ) (entry : LogEntry) (reply : Reply) → IsReply told stable (replies.Found cursor entry) reply
    → (read : LogEntry) × (reply ≡ replies.Found cursor read) × IsRead told entry read
found_read true stable cursor entry reply is = (entry, is, record { lsn = refl; exact = λ _. refl })
found_read false stable cursor entry reply is =
    (is.0, is.1.1, record { lsn = read_lsn (nat_lt entry.lsn stable) entry is.0 is.1.0; exact = λ tells. absurd (cc tells) })

-- ---- where the area is

own : Ground → List Cursor → Area
own g cursors = own_area g.client g.number g.stream cursors

pub there : (g : Ground) (cursors : List Cursor) → area_of (at g cursors) g.client g.number ≡ Some (own_area g.client g.number g.stream cursors)
there g cursors = find_own g.base (own_area g.client g.number g.stream cursors) g.none

-- a cursor that goes forward
abbrev pub forward : ℕ → ℕ → Cursor
forward number last = record { number = number; kind = Records Forward; last = last }

-- the next record above a LSN
abbrev pub next_in : Ground → ℕ → Option LogEntry
next_in g last = find (λ (entry : LogEntry). nat_lt last entry.lsn) (live g.base g.stream)

its_cursor : (k last : ℕ) → record_cursor_in (forward k last ∷ []) k ≡ Some (forward k last)
its_cursor k last = rw (eq-eqb k k refl) refl

pub next_refused : (g : Ground) (k last : ℕ) → refusal (at g (forward k last ∷ [])) g.client (calls.ReadNext g.number k)
    ≡ refused_if (is_none (next_in g last)) refusals.EndOfLog None
next_refused g k last =
    let s : State = at g (forward k last ∷ []) in
    ap (λ (o : Option Area). option_map_or (λ (area : Area). next_refusal s area (record_cursor area k)) o (Some refusals.NoSuchArea)) (there g (forward k last ∷ []))
    ∙ ap (λ (o : Option Cursor). next_refusal s (own_area g.client g.number g.stream (forward k last ∷ [])) o) (its_cursor k last)

pub next_answered : (g : Ground) (k last : ℕ) (entry : LogEntry) → next_in g last ≡ Some entry
    → answer (at g (forward k last ∷ [])) g.client (calls.ReadNext g.number k) ≡ outcome (replies.Next entry) (at g (forward k entry.lsn ∷ []))
next_answered g k last entry is =
    let cursors : List Cursor = forward k last ∷ [] in
    let s : State = at g cursors in
    let area : Area = own_area g.client g.number g.stream cursors in
    let moves : cursors_moved k entry.lsn cursors ≡ forward k entry.lsn ∷ [] = rw (eq-eqb k k refl) refl in
    ap (λ (o : Option Area). option_map_or (λ (a : Area). moved_on s a k (record_cursor a k)) o (outcome (replies.Refused refusals.NoSuchArea) s)) (there g cursors)
    ∙ ap (λ (o : Option Cursor). moved_on s area k o) (its_cursor k last)
    ∙ ap (λ (o : Option LogEntry). option_map_or (λ (e : LogEntry). outcome (replies.Next e) (change_area (with_cursor_at k e.lsn) g.client g.number s)) o (outcome (replies.Refused refusals.NoSuchCursor) s)) is
    ∙ ap (outcome (replies.Next entry)) (change_own g.base (with_cursor_at k entry.lsn) area g.none ∙ ap (at g) moves)

-- ---- ends of cursors

pub ended : (g : Ground) (cursor : Cursor) → refusal (at g (cursor ∷ [])) g.client (calls.EndRead g.number cursor.number) ≡ None
ended g cursor =
    let itself : cursor_in (cursor ∷ []) cursor.number ≡ Some cursor = rw (eq-eqb cursor.number cursor.number refl) refl in
    ap (λ (o : Option Area). option_map_or (λ (area : Area). refused_if (is_none (cursor_of area cursor.number)) refusals.NoSuchCursor None) o (Some refusals.NoSuchArea))
    (there g (cursor ∷ []))
    ∙ ap (λ (o : Option Cursor). refused_if (is_none o) refusals.NoSuchCursor None) itself

pub end_answered : (g : Ground) (cursor : Cursor) → (answer (at g (cursor ∷ [])) g.client (calls.EndRead g.number cursor.number)).state ≡ at g []
end_answered g cursor =
    let gone : cursors_without cursor.number (cursor ∷ []) ≡ [] = rw (eq-eqb cursor.number cursor.number refl) refl in
    change_own g.base (without_cursor cursor.number) (own_area g.client g.number g.stream (cursor ∷ [])) g.none ∙ ap (at g) gone
