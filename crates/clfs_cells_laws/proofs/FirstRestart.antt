-- A table's first restart area: what writing it leaves of the log.
use Rattle.clfs_cells_laws.proofs.Words.{◌≡◌, ℕ, ◌≤◌, Bool, true, false, refl, sym, ap, ◌∙◌, inl, inr, arith, List, [], ◌∷◌, ◌++◌, length, Option, Some, ◌≢◌}
use Rattle.clfs_cells_laws.proofs.Words.{◌&&◌, ◌==◌, filter, nat_lt, option_map_or, cases_Bool, eq-eqb, le-leb, le-ltb, filter-append, null_lsn, LogEntry}
use Rattle.clfs_cells_laws.proofs.Words.{Stream, Area, State, restarted, restart_record, flush, is_live, live, need_of, next_lsn, put, stream_number, grown}
use Rattle.clfs_cells_laws.proofs.Words.{grown_if, base_of, log_of, TxnRecord, blank_cells, blank_checkpoint, checkpoint_bytes, records_after, table}
use Rattle.clfs_cells_laws.proofs.Words.{table_in, table_name}
use Rattle.clfs_lsn.specs.Place.{joins, begins_here}
use Rattle.clfs_model.specs.Flush.{seal}
use Rattle.clfs_model.specs.Put.{made_ready}
use Rattle.clfs_cells_laws.proofs.Ground.{after_in, cells_in, spelled}

-- ---- a table is read of the records and the streams alone

over : List Stream → List LogEntry → State
over streams records = record (log_of 1 16 4 4) { streams = streams; records = records }

pub table_by : (t u : State) → t.records ≡ u.records → t.streams ≡ u.streams → table t ≡ table u
unfolding over
table_by t u p q = ap (λ (records : List LogEntry). table (over t.streams records)) p ∙ ap (λ (streams : List Stream). table (over streams u.records)) q

-- ---- what changes

-- the records, the streams, the areas and whether the log is broken are as they were
pub record KeepsLists (s t : State) : Type 0 where
  pub records : t.records ≡ s.records
  pub streams : t.streams ≡ s.streams
  pub areas : t.areas ≡ s.areas
  pub broken : t.broken ≡ s.broken

pub keeps_same : (s : State) → KeepsLists s s
keeps_same s = record { records = refl; streams = refl; areas = refl; broken = refl }

pub keeps_then : (a b c : State) → KeepsLists a b → KeepsLists b c → KeepsLists a c
keeps_then a b c first next = record {
  records = next.records ∙ first.records;
  streams = next.streams ∙ first.streams;
  areas = next.areas ∙ first.areas;
  broken = next.broken ∙ first.broken;
}

keeps_seal : (s : State) → KeepsLists s (seal s)
keeps_seal s = elim (cases_Bool (nat_lt 0 s.place.records)) [
  | inl open_block ↦ rw open_block (record { records = refl; streams = refl; areas = refl; broken = refl })
  | inr empty ↦ rw empty (keeps_same s)
]

pub keeps_flush : (s : State) → KeepsLists s (flush s)
keeps_flush s = let sealed = keeps_seal s in
    record { records = sealed.records; streams = sealed.streams; areas = sealed.areas; broken = sealed.broken }

pub keeps_ready : (s : State) (n : ℕ) → KeepsLists s (made_ready s n)
keeps_ready s n = elim (cases_Bool (joins s.shape s.place n)) [
  | inl joining ↦ rw joining (keeps_same s)
  | inr begins ↦ rw begins (elim (cases_Bool (begins_here s.shape s.place n)) [
    | inl here ↦ rw here (keeps_seal s)
    | inr further ↦ rw further (keeps_flush s)
  ])
]

keeps_grown_if : (grows : Bool) (s : State) (wanted : ℕ) → KeepsLists s (grown_if grows s wanted)
keeps_grown_if true s wanted = record { records = refl; streams = refl; areas = refl; broken = refl }
keeps_grown_if false s wanted = keeps_same s

pub keeps_grown : (s : State) (need : ℕ) → KeepsLists s (grown s need)
unfolding grown
keeps_grown s need = keeps_grown_if _ s _

-- the record that is put
abbrev pub put_record : State → Area → List ℕ → LogEntry
put_record s area bytes =
    let before = grown s (need_of false (length bytes) []) in
    record (restart_record s area bytes null_lsn) { lsn = next_lsn before (length bytes) }

-- after a restart area the log has one record more
pub record Restarted (s : State) (area : Area) (bytes : List ℕ) (t : State) : Type 0 where
  pub records : t.records ≡ s.records ++ put_record s area bytes ∷ []
  pub streams : t.streams ≡ s.streams
  pub areas : t.areas ≡ s.areas
  pub broken : t.broken ≡ s.broken

pub restarts : (s : State) (area : Area) (bytes : List ℕ) → Restarted s area bytes (restarted s area bytes null_lsn false)
restarts s area bytes =
    let before = grown s (need_of false (length bytes) []) in
    let grew = keeps_grown s (need_of false (length bytes) []) in
    let ready = keeps_ready before (length bytes) in
    let last = keeps_flush (put before (restart_record s area bytes null_lsn)) in
    record {
      records = last.records ∙ ap (λ (l : List LogEntry). l ++ put_record s area bytes ∷ []) grew.records;
      streams = last.streams ∙ ready.streams ∙ grew.streams;
      areas = last.areas ∙ ready.areas ∙ grew.areas;
      broken = last.broken ∙ ready.broken ∙ grew.broken;
    }

abbrev rows_in : List LogEntry → List TxnRecord
rows_in xs = spelled (after_in xs)

-- ---- a table of zeros

one_restart : (entry : LogEntry) (area : Area) (s : State) → entry ≡ put_record s area (checkpoint_bytes blank_checkpoint) → cells_in (entry ∷ []) ≡ blank_cells
one_restart entry area s is =
    let lsn : ℕ = next_lsn (grown s (need_of false 260 [])) 260 in
    ap (λ (e : LogEntry). cells_in (e ∷ [])) is ∙ rw (le-ltb lsn lsn (omega arith)) refl

-- a table of a stream that has no records but this
pub zeros : (s t : State) (area : Area) (stream : ℕ) → stream_number s table_name ≡ Some stream → live s stream ≡ []
    → Restarted s area (checkpoint_bytes blank_checkpoint) t → table t ≡ blank_cells
zeros s t area stream numbered none made =
    let entry : LogEntry = put_record s area (checkpoint_bytes blank_checkpoint) in
    let u : State = record s { records = s.records ++ entry ∷ [] } in
    let p : LogEntry → Bool = λ e. (e.stream == stream) && is_live s e in
    let lives : live u stream ≡ filter p (entry ∷ []) = filter-append p s.records (entry ∷ []) ∙ ap (λ (l : List LogEntry). l ++ filter p (entry ∷ [])) none in
    table_by t u made.records made.streams
    ∙ ap (λ (o : Option ℕ). option_map_or (table_in u) o blank_cells) numbered
    ∙ ap cells_in lives
    ∙ elim (cases_Bool (p entry)) [
      | inl is ↦ rw is (one_restart entry area s refl)
      | inr other ↦ rw other refl
    ]

-- and no records above it
pub no_rows : (s t : State) (area : Area) (stream : ℕ) → live s stream ≡ [] → Restarted s area (checkpoint_bytes blank_checkpoint) t → records_after t stream ≡ []
unfolding over
no_rows s t area stream none made =
    let entry : LogEntry = put_record s area (checkpoint_bytes blank_checkpoint) in
    let u : State = record s { records = s.records ++ entry ∷ [] } in
    let p : LogEntry → Bool = λ e. (e.stream == stream) && is_live s e in
    let lives : live u stream ≡ filter p (entry ∷ []) = filter-append p s.records (entry ∷ []) ∙ ap (λ (l : List LogEntry). l ++ filter p (entry ∷ [])) none in
    let lsn : ℕ = next_lsn (grown s (need_of false 260 [])) 260 in
    let nothing : rows_in (entry ∷ []) ≡ [] = rw (le-ltb lsn lsn (omega arith)) refl in
    ap (λ (records : List LogEntry). records_after (over t.streams records) stream) made.records
    ∙ ap (λ (streams : List Stream). records_after (over streams u.records) stream) made.streams
    ∙ ap rows_in lives
    ∙ elim (cases_Bool (p entry)) [
      | inl is ↦ rw is nothing
      | inr other ↦ rw other refl
    ]

no_end : (xs : List LogEntry) (x : LogEntry) → xs ++ x ∷ [] ≡ [] → ⊥
no_end [] x none = cc none
no_end (y ∷ xs) x none = cc none

-- the restart area is live, since its stream's base isn't above it
pub first_lives : (s t : State) (area : Area) → base_of s area.stream ≤ next_lsn (grown s (need_of false 260 [])) 260
    → Restarted s area (checkpoint_bytes blank_checkpoint) t → live t area.stream ≢ []
unfolding over
first_lives s t area low made none =
    let entry : LogEntry = put_record s area (checkpoint_bytes blank_checkpoint) in
    let u : State = record s { records = s.records ++ entry ∷ [] } in
    let p : LogEntry → Bool = λ e. (e.stream == area.stream) && is_live s e in
    let passes : p entry ≡ true = rw (eq-eqb area.stream area.stream refl) (le-leb (base_of s area.stream) (next_lsn (grown s (need_of false 260 [])) 260) low) in
    let one : filter p (entry ∷ []) ≡ entry ∷ [] = rw passes refl in
    let lives : live t area.stream ≡ filter p s.records ++ entry ∷ []
    = ap (λ (records : List LogEntry). live (over t.streams records) area.stream) made.records
    ∙ ap (λ (streams : List Stream). live (over streams u.records) area.stream) made.streams
    ∙ filter-append p s.records (entry ∷ []) ∙ ap (λ (l : List LogEntry). filter p s.records ++ l) one in
    no_end (filter p s.records) entry (sym lives ∙ none)
