-- A cursor's last record is there, in its area's stream, and of the kind that the cursor goes over.
use Rattle.clfs_laws.proofs.Words.{◌≡◌, ℕ, suc, ◌<◌, ◌≤◌, Bool, true, refl, sym, ap, ◌∙◌, subst, inl, inr, arith, List, [], ◌∷◌, ◌++◌, Option, Some, None}
use Rattle.clfs_laws.proofs.Words.{find, filter, map, AllPairs, nat_lt, ◌==◌, ◌&&◌, AllByRecursion, option_or, option_and_then, cases_Bool, eqb-true, eq-eqb}
use Rattle.clfs_laws.proofs.Words.{ne_eqb, and_parts, recursion_from_All, find-append, LogEntry, Kind, Plain, Restart, Mode, Previous, UndoNext, Forward}
use Rattle.clfs_laws.proofs.Words.{State, Area, Cursor, CursorKind, Records, RestartAreas, is_live, live, live_at, entry_at, next, restart_areas}
use Rattle.clfs_laws.proofs.Words.{newest_restart, next_of_cursor, is_restart, IsCursor, IsValid}
use Rattle.std.specs.Prelude.{◌≢◌}
use Rattle.clfs_model.specs.Storable.{IsOfCursor}
use Rattle.clfs_laws.proofs.Among.{IsAmong, found, each_among, among_recursion}
use Rattle.clfs_laws.proofs.CursorSteps.{moved_if}
use Rattle.clfs_laws.proofs.FallingLists.{Rises, rises}
use Rattle.clfs_laws.proofs.Links.{get_has}
use Rattle.clfs_laws.proofs.ReadCalls.{next_of_kind, next_is}
use Rattle.clfs_laws.proofs.ValidBases.{passing}
use Rattle.clfs_laws.proofs.ValidRestarts.{all_turned}

-- a record that a cursor of a kind can give in a stream
pub record IsRead (s : State) (number : ℕ) (cursor : CursorKind) (entry : LogEntry) : Type 0 where
  pub among : IsAmong entry s.records
  pub stream : entry.stream ≡ number
  pub kind : IsOfCursor cursor entry.kind

-- what passes a test for which something follows has that
all_passing : {X : Type 0} (p : X → Bool) (P Q : X → Type 0) (xs : List X) → ((x : X) → P x → p x ≡ true → Q x) → AllByRecursion P xs
    → AllByRecursion (λ x. p x ≡ true → Q x) xs
all_passing p P Q [] more all = tt
all_passing p P Q (x ∷ xs) more all = (more x all.0, all_passing p P Q xs more all.1)

-- what follows from what is so of all is so of all
all_weaker : {X : Type 0} (P Q : X → Type 0) (xs : List X) → ((x : X) → P x → Q x) → AllByRecursion P xs → AllByRecursion Q xs
all_weaker P Q [] more all = tt
all_weaker P Q (x ∷ xs) more all = (more x all.0, all_weaker P Q xs more all.1)

-- the live records of a stream
live_read : (s : State) (stream : ℕ) (mode : Mode) → AllByRecursion (IsRead s stream (Records mode)) (live s stream)
live_read s stream mode =
    let p : LogEntry → Bool = λ entry. (entry.stream == stream) && is_live s entry in
    let P : LogEntry → Type 0 = λ entry. IsAmong entry s.records in
    passing p (IsRead s stream (Records mode)) s.records
    (all_passing p P (IsRead s stream (Records mode)) s.records
    (λ entry among passes. record {
      among = among;
      stream = eqb-true entry.stream stream
          (and_parts (entry.stream == stream) (is_live s entry) passes).0;
      kind = tt;
    })
    (each_among s.records))

-- a record that passes the test is a restart area
restart_kind : (kind : Kind) → is_restart kind ≡ true → kind ≡ Restart
restart_kind Plain is = absurd (cc)
restart_kind Restart is = refl

-- its restart areas
restarts_read : (s : State) (stream : ℕ) → AllByRecursion (IsRead s stream RestartAreas) (restart_areas s stream)
restarts_read s stream =
    let p : LogEntry → Bool = λ entry. is_restart entry.kind in
    let P : LogEntry → Type 0 = IsRead s stream (Records Forward) in
    let Q : LogEntry → Type 0 = IsRead s stream RestartAreas in
    all_turned Q (filter p (live s stream))
    (passing p Q (live s stream)
    (all_passing p P Q (live s stream) (λ entry is passes. record { among = is.among; stream = is.stream; kind = restart_kind entry.kind passes })
    (live_read s stream Forward)))

-- what is found among them
found_has : (p : LogEntry → Bool) (P : LogEntry → Type 0) (entries : List LogEntry) (entry : LogEntry) → find p entries ≡ Some entry
    → AllByRecursion P entries → P entry
found_has p P entries entry is all = among_recursion P entries entry all (found p entries entry is).among

-- a live record of the stream
pub read_live : (s : State) (stream lsn : ℕ) (mode : Mode) (entry : LogEntry) → live_at s stream lsn ≡ Some entry
    → IsRead s stream (Records mode) entry
read_live s stream lsn mode entry is =
    found_has (λ (e : LogEntry). e.lsn == lsn) (IsRead s stream (Records mode)) (live s stream) entry is (live_read s stream mode)

-- its newest restart area
pub read_newest : (s : State) (stream : ℕ) (entry : LogEntry) → newest_restart s stream ≡ Some entry → IsRead s stream RestartAreas entry
read_newest s stream entry is = get_has (IsRead s stream RestartAreas) (restart_areas s stream) 0 entry is (restarts_read s stream)

-- the live record that a link of a record names
linked : (s : State) (stream : ℕ) (mode : Mode) (link : LogEntry → ℕ) (holder : Option LogEntry) (entry : LogEntry)
    → option_and_then (λ (e : LogEntry). live_at s stream (link e)) holder ≡ Some entry → IsRead s stream (Records mode) entry
linked s stream mode link None entry is = absurd (cc)
linked s stream mode link (Some holder) entry is = read_live s stream (link holder) mode entry is

-- where a cursor comes to
read_next : (s : State) (stream : ℕ) (mode : Mode) (last : ℕ) (entry : LogEntry) → next s stream mode last ≡ Some entry
    → IsRead s stream (Records mode) entry
read_next s stream Previous last entry is = linked s stream Previous (λ (e : LogEntry). e.previous) (entry_at s last) entry is
read_next s stream UndoNext last entry is = linked s stream UndoNext (λ (e : LogEntry). e.undo_next) (entry_at s last) entry is
read_next s stream Forward last entry is =
    found_has (λ (e : LogEntry). nat_lt last e.lsn) (IsRead s stream (Records Forward)) (live s stream) entry is (live_read s stream Forward)

-- where a cursor of either kind comes to
read_of_kind : (s : State) (stream : ℕ) (kind : CursorKind) (last : ℕ) (entry : LogEntry) → next_of_kind s stream kind last ≡ Some entry
    → IsRead s stream kind entry
read_of_kind s stream (Records mode) last entry is = read_next s stream mode last entry is
read_of_kind s stream RestartAreas last entry is =
    found_has (λ (e : LogEntry). nat_lt e.lsn last) (IsRead s stream RestartAreas) (restart_areas s stream) entry is (restarts_read s stream)

-- the record that a cursor comes to next is one that the cursor can give
pub read_on_by : (s : State) (area : Area) (at : Cursor) (entry : LogEntry) → next_of_cursor s area at ≡ Some entry
    → IsRead s area.stream at.kind entry
read_on_by s area at entry is = read_of_kind s area.stream at.kind at.last entry (sym (next_is s area at at.kind refl) ∙ is)

-- a record is found at its LSN
finds_itself : (entries : List LogEntry) (entry : LogEntry) → Rises entries → IsAmong entry entries
    → find (λ (e : LogEntry). e.lsn == entry.lsn) entries ≡ Some entry
finds_itself [] entry rising among = absurd among
finds_itself (first ∷ entries) entry rising (inl same) =
    rw (eq-eqb first.lsn entry.lsn (ap (λ (e : LogEntry). e.lsn) same)) (ap (λ (e : LogEntry). Some e) same)
finds_itself (first ∷ entries) entry rising (inr among) =
    let above : first.lsn < entry.lsn = among_recursion (λ (e : LogEntry). first.lsn < e.lsn) entries entry rising.0 among in
    rw (ne_eqb first.lsn entry.lsn (λ same. omega (arith, same, above))) (finds_itself entries entry rising.1 among)

-- the record of a valid state at its own LSN
pub entry_itself : (s : State) (entry : LogEntry) → IsValid s → IsAmong entry s.records → entry_at s entry.lsn ≡ Some entry
entry_itself s entry valid among = finds_itself s.records entry (rises s.records valid.records.rising) among

-- a cursor at a record that was read
pub cursor_at_read : (s : State) (area : Area) (number : ℕ) (kind : CursorKind) (entry : LogEntry) → IsValid s → 1 ≤ number → number ≤ area.reads
    → IsRead s area.stream kind entry → IsCursor s area (record { number = number; kind = kind; last = entry.lsn })
cursor_at_read s area number kind entry valid some few is =
    record { some_number = some; number = few; entry = entry; there = entry_itself s entry valid is.among; stream = is.stream; kind = is.kind }

-- with more records after, and in an area of the same stream and as many cursors, a cursor stays what it is
pub cursor_kept : (s t : State) (a b : Area) (more : List LogEntry) → t.records ≡ s.records ++ more → b.reads ≡ a.reads → b.stream ≡ a.stream
    → (cursor : Cursor) → IsCursor s a cursor → IsCursor t b cursor
cursor_kept s t a b more records reads stream cursor is = record {
  some_number = is.some_number;
  number = omega (arith, is.number, reads);
  entry = is.entry;
  there = ap (find (λ (e : LogEntry). e.lsn == cursor.last)) records
      ∙ find-append (λ (e : LogEntry). e.lsn == cursor.last) s.records more
      ∙ ap (λ (f : Option LogEntry). option_or f (find (λ (e : LogEntry). e.lsn == cursor.last) more)) is.there;
  stream = is.stream ∙ sym stream;
  kind = is.kind;
}

-- cursors of one number are one cursor
abbrev Distinct : List Cursor → Type 0
Distinct [] = Unit {0}
Distinct (cursor ∷ cursors) = AllByRecursion (λ (other : Cursor). cursor.number ≢ other.number) cursors × Distinct cursors

-- the numbers of cursors differ, by recursion
distinct : (cursors : List Cursor) → AllPairs (λ (a b : Cursor). a.number ≢ b.number) cursors → Distinct cursors
distinct [] pairs = tt
distinct (cursor ∷ cursors) pairs = (
  recursion_from_All (λ (other : Cursor). cursor.number ≢ other.number) cursors (λ k d within. pairs 0 (suc k) d (omega arith) (omega (arith, within))),
  distinct cursors (λ i j d below within. pairs (suc i) (suc j) d (omega (arith, below)) (omega (arith, within))),
)

-- no other cursor has the number
not_named : (at : Cursor) (n : ℕ) (cursors : List Cursor) → at.number ≡ n → AllByRecursion (λ (other : Cursor). at.number ≢ other.number) cursors
    → AllByRecursion (λ (other : Cursor). other.number ≡ n → other.kind ≡ at.kind) cursors
not_named at n [] named all = tt
not_named at n (cursor ∷ cursors) named all = (λ same. absurd (all.0 (named ∙ sym same)), not_named at n cursors named all.1)

-- all cursors of the number are that one
one_named : (at : Cursor) (n : ℕ) (cursors : List Cursor) → Distinct cursors → IsAmong at cursors → at.number ≡ n
    → AllByRecursion (λ (other : Cursor). other.number ≡ n → other.kind ≡ at.kind) cursors
one_named at n [] differ among named = tt
one_named at n (cursor ∷ cursors) differ (inl same) named =
    let F : Cursor → Type 0 = λ c. AllByRecursion (λ (other : Cursor). c.number ≢ other.number) cursors in
    (λ _. ap (λ (c : Cursor). c.kind) same, not_named at n cursors named (subst F same differ.0))
one_named at n (cursor ∷ cursors) differ (inr among) named =
    let other : cursor.number ≢ at.number = among_recursion (λ (c : Cursor). cursor.number ≢ c.number) cursors at differ.0 among in
    (λ same. absurd (other (same ∙ sym named)), one_named at n cursors differ.1 among named)

-- a cursor that has moved to a record that it can give, where it has the number
moved_one : (s : State) (area : Area) (n : ℕ) (entry : LogEntry) (cursor : Cursor) → IsValid s → IsCursor s area cursor
    → (cursor.number ≡ n → IsRead s area.stream cursor.kind entry) → IsCursor s area (moved_if n entry.lsn cursor)
moved_one s area n entry cursor valid is reads = elim (cases_Bool (cursor.number == n)) [
  | inl named ↦ rw named (cursor_at_read s area cursor.number cursor.kind entry valid is.some_number is.number (reads (eqb-true cursor.number n named)))
  | inr other ↦ rw other is
]

-- the cursor of a number moved to where it comes to
moved_all : (s : State) (area : Area) (n : ℕ) (kind : CursorKind) (entry : LogEntry) (cursors : List Cursor) → IsValid s
    → IsRead s area.stream kind entry
    → AllByRecursion (λ (other : Cursor). other.number ≡ n → other.kind ≡ kind) cursors
    → AllByRecursion (IsCursor s area) cursors → AllByRecursion (IsCursor s area) (map (moved_if n entry.lsn) cursors)
moved_all s area n kind entry [] valid is named all = tt
moved_all s area n kind entry (cursor ∷ cursors) valid is named all =
    let F : CursorKind → Type 0 = λ k. IsRead s area.stream k entry in
    (moved_one s area n entry cursor valid all.0 (λ same. subst F (sym (named.0 same)) is), moved_all s area n kind entry cursors valid is named.1 all.1)

-- so all cursors of the area are still such
pub cursors_moved : (s : State) (area : Area) (n : ℕ) (at : Cursor) (entry : LogEntry) → IsValid s
    → AllPairs (λ (a b : Cursor). a.number ≢ b.number) area.cursors
    → IsAmong at area.cursors → at.number ≡ n → IsRead s area.stream at.kind entry
    → AllByRecursion (IsCursor s area) area.cursors → AllByRecursion (IsCursor s area) (map (moved_if n entry.lsn) area.cursors)
cursors_moved s area n at entry valid pairs among named is all =
    moved_all s area n at.kind entry area.cursors valid is (one_named at n area.cursors (distinct area.cursors pairs) among named) all
