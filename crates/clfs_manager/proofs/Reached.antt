-- What a call that reads comes to: a live record, which the log still needs.
use Rattle.clfs_manager.proofs.Words.{◌≡◌, ℕ, zero, suc, ◌-◌, ◌<◌, ◌≤◌, Bool, true, false, refl, sym, ap, ◌∙◌, subst, ⊎_elim, List, [], ◌∷◌, ◌++◌, length}
use Rattle.clfs_manager.proofs.Words.{map, arith, Option, Some, None, IsSome, IfSome, is_some, if◌then◌else◌, All, Contains, ◌&&◌, ◌==◌, nat_lt, find, filter}
use Rattle.clfs_manager.proofs.Words.{min, fold, slice_get, option_map, option_and_then, option_to_list, cases_lt, eq-eqb, All-contains, head_of, frontier}
use Rattle.clfs_manager.proofs.Words.{Head, LogEntry, Mode, State, Area, Cursor, Stream, CursorKind, Records, RestartAreas, heads_of, least_or, live, live_at}
use Rattle.clfs_manager.proofs.Words.{live_lsns, hold, is_live, newest_restart, next_of_cursor, area_of, IsAreaWithinLimits, IsCursor, IsNumber, area_at}
use Rattle.clfs_manager.proofs.Words.{no_area, IsSound, IsNeeded, IsNeededHead, Reaches, Log}
use Rattle.std.specs.Prelude.{reverse}
use Rattle.std.proofs.lemmas.List.{get_or-reverse, length-reverse}
use Rattle.std.proofs.lemmas.Option.{slice_get_past}
use Rattle.std.proofs.lemmas.List.Elements.{Contains-append_right}
use Rattle.clfs_lsn.specs.declared.cursor.Mode.TheVariants.{Previous, UndoNext, Forward}
use Rattle.clfs_lsn.specs.Heads.{head_at, is_restart}
use Rattle.clfs_model.specs.Reading.{entry_at, next, restart_areas}
use Rattle.clfs_model.specs.Valid.{IsArea}
use Rattle.clfs_tables.specs.Tables.{IsKnown}
use Rattle.clfs_manager.proofs.Among.{here, there, contains_all, contains_passing, found, contains_at}

-- ---- a live record is needed

-- the least of numbers lies at or below each
fold_below : (n : ℕ) (ns : List ℕ) → fold min n ns ≤ n
fold_below n [] = omega arith
fold_below n (m ∷ ns) = let rest = fold_below (min n m) ns in omega (arith, rest)

fold_below_each : (n m : ℕ) (ns : List ℕ) → Contains ns m → fold min n ns ≤ m
fold_below_each n m [] is = absurd (omega (arith, is.1))
fold_below_each n m (k ∷ ns) (zero, lt, e) = let first = fold_below (min n k) ns in let at : k ≡ m = e in omega (arith, first, at)
fold_below_each n m (k ∷ ns) (suc i, lt, e) = fold_below_each (min n k) m ns (i, omega (arith, lt), e)

pub least_below : (other m : ℕ) (ns : List ℕ) → Contains ns m → least_or other ns ≤ m
least_below other m [] is = absurd (omega (arith, is.1))
least_below other m (n ∷ ns) (zero, lt, e) = let first = fold_below n ns in let at : n ≡ m = e in omega (arith, first, at)
least_below other m (n ∷ ns) (suc i, lt, e) = fold_below_each n m ns (i, omega (arith, lt), e)

mapped : {A B : Type 0} (f : A → B) (xs : List A) (x : A) → Contains xs x → Contains (map f xs) (f x)
mapped f [] x is = absurd (omega (arith, is.1))
mapped f (y ∷ xs) x (zero, lt, e) = subst (λ z. Contains (map f (y ∷ xs)) (f z)) e (here (f y) (map f xs))
mapped f (y ∷ xs) x (suc i, lt, e) = there (f y) (f x) (map f xs) (mapped f xs x (i, omega (arith, lt), e))

-- the hold lies at or below each live record
pub hold_below_live : (s : State) (entry : LogEntry) → Contains s.records entry → is_live s entry ≡ true → hold s ≤ entry.lsn
hold_below_live s entry among alive = least_below (frontier s.place) entry.lsn (option_to_list s.archive ++ live_lsns s)
    (Contains-append_right (option_to_list s.archive) (live_lsns s) entry.lsn
    (mapped (λ (e : LogEntry). e.lsn) (filter (is_live s) s.records) entry (contains_passing (is_live s) s.records entry alive among)))

both_true : (a b : Bool) → (a && b) ≡ true → (a ≡ true) × (b ≡ true)
both_true true true is = (refl, refl)
both_true true false is = absurd (cc is)
both_true false b is = absurd (cc is)

pub live_is_needed : (s : State) (stream : ℕ) (entry : LogEntry) → Contains (live s stream) entry → IsNeeded s entry
live_is_needed s stream entry is =
    let among = contains_all (λ (e : LogEntry). (e.stream == stream) && is_live s e) s.records entry is in
    let alive : is_live s entry ≡ true = (both_true (entry.stream == stream) (is_live s entry) among.1).1 in
    let low : hold s ≤ entry.lsn = hold_below_live s entry among.0 alive in
    record { there = among.0; from_hold = omega (arith, low) }

-- ---- what is reached is live

pub live_at_is_live : (s : State) (stream lsn : ℕ) (entry : LogEntry) → live_at s stream lsn ≡ Some entry → Contains (live s stream) entry
live_at_is_live s stream lsn entry is = (found (λ (e : LogEntry). e.lsn == lsn) (live s stream) entry is).0

from_reverse : {X : Type 0} (xs : List X) (x : X) → Contains (reverse xs) x → Contains xs x
from_reverse xs x (k, lt, e) =
    let long = length-reverse xs in
    let within : k < length xs = omega (arith, long, lt) in
    (length xs - 1 - k, omega (arith, within), sym (get_or-reverse xs k x within) ∙ e)

restart_is_live : (s : State) (stream : ℕ) (entry : LogEntry) → Contains (restart_areas s stream) entry → Contains (live s stream) entry
restart_is_live s stream entry is = (contains_all (λ (e : LogEntry). is_restart e.kind) (live s stream) entry
    (from_reverse (filter (λ (e : LogEntry). is_restart e.kind) (live s stream)) entry is)).0

pub newest_is_live : (s : State) (stream : ℕ) (entry : LogEntry) → newest_restart s stream ≡ Some entry → Contains (live s stream) entry
newest_is_live s stream entry is = restart_is_live s stream entry (contains_at (restart_areas s stream) 0 entry is)

linked_is_live : (s : State) (stream : ℕ) (link : LogEntry → ℕ) (from : Option LogEntry) (entry : LogEntry)
    → option_and_then (λ (e : LogEntry). live_at s stream (link e)) from ≡ Some entry → Contains (live s stream) entry
linked_is_live s stream link None entry is = absurd (cc is)
linked_is_live s stream link (Some e) entry is = live_at_is_live s stream (link e) entry is

next_is_live : (s : State) (stream : ℕ) (mode : Mode) (last : ℕ) (entry : LogEntry) → next s stream mode last ≡ Some entry → Contains (live s stream) entry
next_is_live s stream Previous last entry is = linked_is_live s stream (λ (e : LogEntry). e.previous) (entry_at s last) entry is
next_is_live s stream UndoNext last entry is = linked_is_live s stream (λ (e : LogEntry). e.undo_next) (entry_at s last) entry is
next_is_live s stream Forward last entry is = (found (λ (e : LogEntry). nat_lt last e.lsn) (live s stream) entry is).0

cursor_is_live : (s : State) (area : Area) (cursor : Cursor) (kind : CursorKind) (entry : LogEntry)
    → next_of_cursor s area (record cursor { kind = kind }) ≡ Some entry → Contains (live s area.stream) entry
cursor_is_live s area cursor (Records mode) entry is = next_is_live s area.stream mode cursor.last entry is
cursor_is_live s area cursor RestartAreas entry is =
    restart_is_live s area.stream entry (found (λ (e : LogEntry). nat_lt e.lsn cursor.last) (restart_areas s area.stream) entry is).0

pub after_is_live : (s : State) (area : Area) (from : Option Cursor) (entry : LogEntry) → option_and_then (next_of_cursor s area) from ≡ Some entry
    → Contains (live s area.stream) entry
after_is_live s area None entry is = absurd (cc is)
after_is_live s area (Some cursor) entry is = cursor_is_live s area cursor cursor.kind entry is

-- a call comes to the record whose head it found
pub reaches : (s : State) (areas : List Area) (client number place : ℕ) (head : Head) (record_in : Area → Option LogEntry) → place < length areas
    → area_of s client number ≡ Some (area_at place areas)
    → ((entry : LogEntry) → record_in (area_at place areas) ≡ Some entry → Contains (live s (area_at place areas).stream) entry)
    → option_map head_of (record_in (area_at place areas)) ≡ Some head → Reaches s areas client number place head record_in
reaches s areas client number place head record_in within area alive is = by_entry (record_in (area_at place areas)) refl
  where
    by_entry : (o : Option LogEntry) → record_in (area_at place areas) ≡ o → Reaches s areas client number place head record_in
    by_entry None e = let none : option_map head_of None ≡ Some head = rw e at is in absurd (cc none)
    by_entry (Some entry) e = let some : option_map head_of (Some entry) ≡ Some head = rw e at is in
        record { within = within; area = area; entry = entry; live = alive entry e; reached = e; head_is = cc some }

-- the record that is reached is one that the log needs
pub reached_is_needed : (s : State) (areas : List Area) (client number place : ℕ) (head : Head) (record_in : Area → Option LogEntry)
    → Reaches s areas client number place head record_in → IsNeededHead s head
reached_is_needed s areas client number place head record_in is =
    record { entry = is.entry; needed = live_is_needed s (area_at place areas).stream is.entry is.live; head_is = is.head_is }

-- ---- areas and cursors

pub number_there : (streams : List Stream) (number : ℕ) → IsSome (if number == 0 then None else slice_get streams (number - 1)) → IsNumber streams number
number_there streams number is = (elim (number == 0) as (λ b. (number == 0) ≡ b → is_some (if b then None else slice_get streams (number - 1)) ≡ true → IsNumber streams number) [
  | true ↦ λ none e. absurd (cc e)
  | false ↦ λ some e. (from_one some, within e)
]) refl is
  where
    from_one : (number == 0) ≡ false → 1 ≤ number
    from_one some = ⊎_elim (λ (low : 0 < number). low)
        (λ (none : number ≤ 0). let clash : false ≡ true = sym some ∙ eq-eqb number 0 (omega (arith, none)) in absurd (cc clash)) (cases_lt 0 number)

    within : is_some (slice_get streams (number - 1)) ≡ true → number ≤ length streams
    within e = ⊎_elim (λ (low : number - 1 < length streams). omega (arith, low))
        (λ (past : length streams ≤ number - 1).
        let none : slice_get streams (number - 1) ≡ None = slice_get_past streams (number - 1) past in
        let clash : false ≡ true = subst (λ (o : Option Stream). is_some o ≡ true) none e in absurd (cc clash))
        (cases_lt (number - 1) (length streams))

pub area_holds : (P : Area → Type 0) (areas : List Area) (place : ℕ) → place < length areas → All P areas → P (area_at place areas)
area_holds P areas place within all = all place no_area within

-- an area's stream is there
pub stream_there : (log : Log) (place : ℕ) → IsSound log → place < length log.areas.areas → IsNumber log.tables.streams (area_at place log.areas.areas).stream
stream_there log place sound within =
    let all : All (IsArea log.state.value) log.areas.areas = subst (All (IsArea log.state.value)) (sym sound.holds.areas) sound.valid.tables.areas in
    subst (λ (streams : List Stream). IsNumber streams (area_at place log.areas.areas).stream) (sym sound.holds.streams)
    (number_there log.state.value.streams (area_at place log.areas.areas).stream (area_holds (IsArea log.state.value) log.areas.areas place within all).stream)

-- the record that a cursor gave last is known by its head
last_known : (log : Log) (place : ℕ) (cursor : Cursor) → IsSound log → place < length log.areas.areas → Contains (area_at place log.areas.areas).cursors cursor
    → ((s : State) (lsn : ℕ) → option_map head_of (entry_at s lsn) ≡ head_at lsn (heads_of s))
    → IsKnown log.tables.heads (area_at place log.areas.areas).stream cursor.last
last_known log place cursor sound within has as_heads =
    let s : State = log.state.value in
    let all : All (IsAreaWithinLimits s) log.areas.areas = subst (All (IsAreaWithinLimits s)) (sym sound.holds.areas) sound.storable.limits.areas in
    let here = area_holds (IsAreaWithinLimits s) log.areas.areas place within all in
    let known = All-contains (IsCursor s (area_at place log.areas.areas)) (area_at place log.areas.areas).cursors cursor here.cursors has in (
      head_of known.entry,
      ap (head_at cursor.last) sound.holds.heads ∙ sym (as_heads s cursor.last) ∙ ap (option_map head_of) known.there,
      known.stream,
    )

-- and so is the one of a cursor that was found
pub found_known : (log : Log) (place stream : ℕ) (found : Option Cursor) → IsSound log → place < length log.areas.areas → stream ≡ (area_at place log.areas.areas).stream
    → IfSome found (λ cursor. Contains (area_at place log.areas.areas).cursors cursor)
    → ((s : State) (lsn : ℕ) → option_map head_of (entry_at s lsn) ≡ head_at lsn (heads_of s))
    → IfSome found (λ cursor. IsKnown log.tables.heads stream cursor.last)
found_known log place stream None sound within same has as_heads = tt
found_known log place stream (Some cursor) sound within same has as_heads =
    subst (λ (number : ℕ). IsKnown log.tables.heads number cursor.last) (sym same) (last_known log place cursor sound within has as_heads)

-- a cursor that is found is one of its area's
pub found_among : {X : Type 0} (p : X → Bool) (xs : List X) (o : Option X) → o ≡ find p xs → IfSome o (λ x. Contains xs x)
found_among p xs None is = tt
found_among p xs (Some x) is = (found p xs x (sym is)).0
