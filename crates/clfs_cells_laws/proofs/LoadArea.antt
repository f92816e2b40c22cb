-- Loading, once the client has its area: the stream is asked for, and its table is read or begun.
use Rattle.clfs_cells_laws.proofs.Words.{◌≤◌, ◌≡◌, ◌⊎◌, ℕ, Bool, true, false, refl, sym, subst, ap, ◌∙◌, inl, inr, List, [], ◌∷◌, length, drop, Option, Some}
use Rattle.clfs_cells_laws.proofs.Words.{None, Ok, ◌==◌, if◌then◌else◌, find, is_none, AllByRecursion, last_or, option_map, option_map_or, cases_Bool}
use Rattle.clfs_cells_laws.proofs.Words.{unused_cursor, null_lsn, Cursor, Records, Forward, LogEntry, LogInfo, Refusal, Reply, Area, State, Outcome, answer}
use Rattle.clfs_cells_laws.proofs.Words.{found_with_cursor, info_of, outcome, read_at, restarted, flushed, lsn_or_null, next_lsn, newest_restart, with_cursor}
use Rattle.clfs_cells_laws.proofs.Words.{Stream, table, table_name, read_refusal, refusal, refused_if, stream_number, area_of, Comes, IsReply, Checkpoint}
use Rattle.clfs_cells_laws.proofs.Words.{TxnRecord, Log, NotATable, blank_cells, blank_checkpoint, cell_count, checkpoint_bytes, checkpoint_of, first_restart}
use Rattle.clfs_cells_laws.proofs.Words.{load_refusal, Loaded, gives_up, load_above, load_area, load_new, load_stream, load_table, memory_of, read_records}
use Rattle.clfs_cells_laws.proofs.Words.{stopped, Plan, ends, CarriesOut, on_found, on_info, on_placed, IsLoadCause}
use Rattle.clfs_lsn.specs.declared.cursor.CursorKind.{CursorKind}
use Rattle.clfs_lsn.specs.declared.cursor.CursorKind.TheVariants.{RestartAreas}
use Rattle.clfs_model.specs.declared.call.Call.TheVariants as calls
use Rattle.clfs_model.specs.declared.refusal.Refusal.TheVariants as refusals
use Rattle.clfs_model.specs.declared.reply.Reply.TheVariants as replies
use Rattle.clfs_model.specs.Answers.{read_newest_restart}
use Rattle.clfs_model.specs.Refusals.{too_many_cursors}
use Rattle.byteorder.specs.Endian.{little_number}
use Rattle.clfs_cells.specs.Layout.{numbers_in}
use Rattle.clfs_cells.specs.Plans.{calls as asks}
use Rattle.clfs_cells_laws.proofs.Above.{above}
use Rattle.clfs_cells_laws.proofs.FirstRestart.{Restarted, first_lives, no_rows, restarts, zeros}
use Rattle.clfs_cells_laws.proofs.Ground.{Ground, End, Met, at, cells_in, denied, done, end_by, gave, given_up, last_in, met, newest_in, no_table_in}
use Rattle.clfs_cells_laws.proofs.Ground.{own_area, spelled, strange, stranger_in}
use Rattle.clfs_cells_laws.proofs.Newest.{IsThere, each_there, last_has, lsn_found, newest_has, none_last, none_of, some_of}
use Rattle.clfs_cells_laws.proofs.OwnArea.{change_own}
use Rattle.clfs_cells_laws.proofs.ReadBack.{IsRead, forward, found_read, there}
use Rattle.clfs_cells_laws.proofs.Records.{From, all_records, by_told, its, live_there, read_ended}
use Rattle.clfs_cells_laws.proofs.Ways.{by_reply}

-- a refusal of the log's own is told as it came
pub cause_from : (told : Bool) (log : State) (client : ℕ) (given : Refusal) → log.broken ≡ false → load_refusal log client ≡ Some (Log given)
    → IsLoadCause told log client (Log given)
cause_from told log client refusals.NoMemory whole is = whole
cause_from told log client refusals.DiskFault whole is = whole
cause_from told log client (refusals.Damaged container offset byte) whole is = whole
cause_from told log client _ whole is = is

-- ---- reading the newest restart area, and forward from it

found_state : (g : Ground) (kind : CursorKind) (entry : LogEntry)
    → (found_with_cursor (at g []) (own_area g.client g.number g.stream []) kind entry).state
    ≡ at g (record { number = unused_cursor []; kind = kind; last = entry.lsn } ∷ [])
found_state g kind entry =
    change_own g.base (with_cursor (record { number = unused_cursor []; kind = kind; last = entry.lsn })) (own_area g.client g.number g.stream []) g.none

read_refused : (g : Ground) (lsn : ℕ) → refusal (at g []) g.client (calls.Read g.number lsn Forward)
    ≡ refused_if (is_none (find (λ (e : LogEntry). e.lsn == lsn) (its g))) (refusals.RecordNonexistent lsn) None
read_refused g lsn =
    ap (λ (o : Option Area). option_map_or (λ (area : Area). read_refusal (at g []) area lsn) o (Some refusals.NoSuchArea)) (there g [])

read_answered : (g : Ground) (lsn : ℕ) (entry : LogEntry) → find (λ (e : LogEntry). e.lsn == lsn) (its g) ≡ Some entry
    → answer (at g []) g.client (calls.Read g.number lsn Forward) ≡ found_with_cursor (at g []) (own_area g.client g.number g.stream []) (Records Forward) entry
read_answered g lsn entry is =
    ap (λ (o : Option Area). option_map_or (λ (a : Area). read_at (at g []) a lsn Forward) o (outcome (replies.Refused refusals.NoSuchArea) (at g []))) (there g [])
    ∙ ap (λ (o : Option LogEntry). option_map_or (found_with_cursor (at g []) (own_area g.client g.number g.stream []) (Records Forward)) o
    (outcome (replies.Refused (refusals.RecordNonexistent lsn)) (at g []))) is

newest_refused : (g : Ground) → refusal (at g []) g.client (calls.ReadRestart g.number) ≡ refused_if (is_none (newest_in (its g))) refusals.NoRestart None
newest_refused g =
    ap (λ (o : Option Area). option_map_or (λ (area : Area). refused_if (is_none (newest_restart (at g []) area.stream)) refusals.NoRestart (too_many_cursors area)) o
    (Some refusals.NoSuchArea)) (there g [])

newest_answered : (g : Ground) (entry : LogEntry) → newest_in (its g) ≡ Some entry
    → answer (at g []) g.client (calls.ReadRestart g.number) ≡ found_with_cursor (at g []) (own_area g.client g.number g.stream []) RestartAreas entry
newest_answered g entry is =
    ap (λ (o : Option Area). option_map_or (λ (a : Area). read_newest_restart (at g []) a) o (outcome (replies.Refused refusals.NoSuchArea) (at g []))) (there g [])
    ∙ ap (λ (o : Option LogEntry). option_map_or (found_with_cursor (at g []) (own_area g.client g.number g.stream []) RestartAreas) o
    (outcome (replies.Refused refusals.NoRestart) (at g []))) is

-- what was found, and the cursor at it
found_came : (g : Ground) (kind : CursorKind) (entry : LogEntry) (outcomes : Outcome) (reply : Reply) (mid : State)
    → outcomes ≡ found_with_cursor (at g []) (own_area g.client g.number g.stream []) kind entry
    → Comes g.told (flushed (at g [])) outcomes reply mid
    → (read : LogEntry) × (reply ≡ replies.Found (unused_cursor []) read) × IsRead g.told entry read
    × (mid ≡ at g (record { number = unused_cursor []; kind = kind; last = entry.lsn } ∷ []))
found_came g kind entry outcomes reply mid is comes =
    let told : Comes g.told (flushed (at g [])) (found_with_cursor (at g []) (own_area g.client g.number g.stream []) kind entry) reply mid
    = subst (λ (o : Outcome). Comes g.told (flushed (at g [])) o reply mid) is comes in
    let read = found_read g.told (flushed (at g [])) (unused_cursor []) entry reply told.0 in
    (read.0, read.1, read.2, told.1 ∙ found_state g kind entry)

not_refused : (o : Option LogEntry) (entry : LogEntry) (given first : Refusal) → o ≡ Some entry → refused_if (is_none o) given None ≡ Some first → ⊥
not_refused o entry given first is e = let none : None ≡ Some first = ap (λ (x : Option LogEntry). refused_if (is_none x) given None) (sym is) ∙ e in cc none

-- the records above the newest restart area
above_it : (most : ℕ) (g : Ground) (restart : LogEntry) (c : Checkpoint) (r : Loaded) (t : State) → From g restart c
    → CarriesOut g.told g.client (at g []) (load_above most g.client g.number g.stream c restart.lsn) r t → End g r t
above_it most g restart c r t from carries =
    went (met g [] (calls.Read g.number restart.lsn Forward) rest r t (record { memory = refl; fault = refl; damage = λ _ _ _. refl }) carries)
  where
    rest : Reply → Plan Loaded
    rest = on_found (stopped g.number) (λ cursor _. read_records most g.number cursor [] (memory_of g.client g.number g.stream c))

    one : IsThere (its g) restart
    one = newest_has (IsThere (its g)) (its g) restart from.newest (each_there (its g))

    went : Met g [] (calls.Read g.number restart.lsn Forward) rest r t → End g r t
    went (done ends_so) = ends_so
    went (denied first is behind) = absurd (not_refused _ one.0 (refusals.RecordNonexistent restart.lsn) first one.1 (sym (read_refused g restart.lsn) ∙ is))
    went (gave reply mid none comes behind) =
        let came_to = found_came g (Records Forward) one.0 _ reply mid (read_answered g restart.lsn one.0 one.1) comes in
        let same : one.0.lsn ≡ restart.lsn = lsn_found (its g) restart.lsn one.0 one.1 in
        let first : one.0.lsn ≡ lsn_or_null (newest_in (its g)) = same ∙ ap lsn_or_null (sym from.newest) in
        all_records most g restart c (unused_cursor []) one.0.lsn [] r t from
        (record {
          records = λ _. ap (λ (lsn : ℕ). spelled (above lsn (its g))) (sym first);
          clean = λ _. ap (λ (lsn : ℕ). find strange (above lsn (its g))) (sym first);
        })
        (by_reply g.told g.client mid rest reply (replies.Found (unused_cursor []) came_to.0) mid (at g (forward (unused_cursor []) one.0.lsn ∷ [])) r t came_to.1 came_to.3 behind)

-- ---- a stream that has a restart area

-- the restart area is of another layout
restart_cause : (g : Ground) (restart read : LogEntry) → (lsn_or_null (last_or None (its g)) == null_lsn) ≡ false → newest_in (its g) ≡ Some restart
    → IsRead g.told restart read → checkpoint_of read.bytes ≡ None → IsLoadCause g.told g.log g.client (NotATable read.lsn)
restart_cause g restart read some newest r none =
    let one = newest_has (IsThere (its g)) (its g) restart newest (each_there (its g)) in
    by_told g.told _ _
    (λ told.
    let other : checkpoint_of restart.bytes ≡ None = ap (λ (e : LogEntry). checkpoint_of e.bytes) (sym (r.exact told)) ∙ none in
    g.refusal_is
    ∙ ap (λ (b : Bool). if b then option_map Log (refusal (at g []) g.client (first_restart g.number)) else option_map NotATable (no_table_in (its g))) some
    ∙ ap (λ (o : Option LogEntry). option_map NotATable (option_map_or
    (λ (e : LogEntry). if is_none (checkpoint_of e.bytes) then Some e.lsn else stranger_in (its g)) o (Some (lsn_or_null (last_or None (its g)))))) newest
    ∙ ap (λ (o : Option Checkpoint). option_map NotATable (if is_none o then Some restart.lsn else stranger_in (its g))) other
    ∙ ap (λ (lsn : ℕ). Some (NotATable lsn)) (sym r.lsn))
    (λ _. live_there g (λ (e : LogEntry). e.lsn == restart.lsn) one.0 read.lsn one.1 (r.lsn ∙ sym (lsn_found (its g) restart.lsn one.0 one.1)))

read_as : (o : Option Checkpoint) → (o ≡ None) ⊎ ((c : Checkpoint) × (o ≡ Some c))
read_as None = inl refl
read_as (Some c) = inr (c, refl)

-- a restart area has all cells
checkpoint_long : (bytes : List ℕ) (c : Checkpoint) → checkpoint_of bytes ≡ Some c → length c.cells ≡ cell_count
checkpoint_long bytes c is = elim (cases_Bool (length bytes == 260)) [
  | inl fits ↦
      let found : Some (record { cells = numbers_in cell_count bytes; last = little_number 4 (drop 256 bytes) }) ≡ Some c = rw fits at is in
      let same : record { cells = numbers_in cell_count bytes; last = little_number 4 (drop 256 bytes) } ≡ c = cc found in
      ap (λ (x : Checkpoint). length x.cells) (sym same)
  | inr not ↦ let none : None ≡ Some c = rw not at is in absurd (cc none)
]

table_there : (most : ℕ) (g : Ground) (restart : LogEntry) (r : Loaded) (t : State) → (lsn_or_null (last_or None (its g)) == null_lsn) ≡ false
    → newest_in (its g) ≡ Some restart → CarriesOut g.told g.client (at g []) (load_table most g.client g.number g.stream) r t → End g r t
table_there most g restart r t some newest carries =
    went (met g [] (calls.ReadRestart g.number) rest r t (record { memory = refl; fault = refl; damage = λ _ _ _. refl }) carries)
  where
    by_checkpoint : LogEntry → Option Checkpoint → Plan Loaded
    by_checkpoint entry o = option_map_or (λ c. load_above most g.client g.number g.stream c entry.lsn) o (gives_up g.number (NotATable entry.lsn))

    rest : Reply → Plan Loaded
    rest = on_found (stopped g.number) (λ cursor (entry : LogEntry).
        asks (calls.EndRead g.number cursor) (λ _. by_checkpoint entry (checkpoint_of entry.bytes)))

    behind_it : (read : LogEntry) → IsRead g.told restart read → CarriesOut g.told g.client (at g []) (by_checkpoint read (checkpoint_of read.bytes)) r t → End g r t
    behind_it read is behind = elim (read_as (checkpoint_of read.bytes)) [
      | inl none ↦
          given_up g [] (NotATable read.lsn) r t (restart_cause g restart read some newest is none)
          (subst (λ (o : Option Checkpoint). CarriesOut g.told g.client (at g []) (by_checkpoint read o) r t) none behind)
      | inr says ↦
          let from : From g restart says.0
          = record { some = some; newest = newest; says = λ told. ap (λ (e : LogEntry). checkpoint_of e.bytes) (sym (is.exact told)) ∙ says.1; long = checkpoint_long read.bytes says.0 says.1 } in
          above_it most g restart says.0 r t from
          (subst (λ (lsn : ℕ). CarriesOut g.told g.client (at g []) (load_above most g.client g.number g.stream says.0 lsn) r t) is.lsn
          (subst (λ (o : Option Checkpoint). CarriesOut g.told g.client (at g []) (by_checkpoint read o) r t) says.1 behind))
    ]

    went : Met g [] (calls.ReadRestart g.number) rest r t → End g r t
    went (done ends_so) = ends_so
    went (denied first is behind) = absurd (not_refused _ restart refusals.NoRestart first newest (sym (newest_refused g) ∙ is))
    went (gave reply mid none comes behind) =
        let came_to = found_came g RestartAreas restart _ reply mid (newest_answered g restart newest) comes in
        let cursor : Cursor = record { number = unused_cursor []; kind = RestartAreas; last = restart.lsn } in
        behind_it came_to.0 came_to.2 (read_ended g cursor (by_checkpoint came_to.0 (checkpoint_of came_to.0.bytes)) r t
        (by_reply g.told g.client mid rest reply (replies.Found (unused_cursor []) came_to.0) mid (at g (cursor ∷ [])) r t came_to.1 came_to.3 behind))

-- ---- a stream that has no live record

restart_answered : (g : Ground) → answer (at g []) g.client (first_restart g.number)
    ≡ outcome (replies.Placed (next_lsn (at g []) 260)) (restarted (at g []) (own_area g.client g.number g.stream []) (checkpoint_bytes blank_checkpoint) null_lsn false)
restart_answered g =
    ap (λ (o : Option Area). option_map_or (λ (a : Area). outcome (replies.Placed (next_lsn (at g []) 260)) (restarted (at g []) a (checkpoint_bytes blank_checkpoint) null_lsn false)) o
    (outcome (replies.Refused refusals.NoSuchArea) (at g []))) (there g [])

placed_as : (told : Bool) (stable lsn : ℕ) (reply : Reply) → IsReply told stable (replies.Placed lsn) reply → reply ≡ replies.Placed lsn
placed_as true stable lsn reply is = is
placed_as false stable lsn reply is = is

refusal_new : (g : Ground) → (lsn_or_null (last_or None (its g)) == null_lsn) ≡ true
    → load_refusal g.log g.client ≡ option_map Log (refusal (at g []) g.client (first_restart g.number))
refusal_new g null = g.refusal_is
    ∙ ap (λ (b : Bool). if b then option_map Log (refusal (at g []) g.client (first_restart g.number)) else option_map NotATable (no_table_in (its g))) null

begun : (g : Ground) (mid : State) → its g ≡ [] → (lsn_or_null (last_or None (its g)) == null_lsn) ≡ true
    → refusal (at g []) g.client (first_restart g.number) ≡ None
    → Restarted (at g []) (own_area g.client g.number g.stream []) (checkpoint_bytes blank_checkpoint) mid
    → End g (Ok (memory_of g.client g.number g.stream blank_checkpoint [])) mid
begun g mid empty null passes made =
    let zero_table : table g.log ≡ blank_cells = g.table_is ∙ ap cells_in empty in
    record {
      by = refl;
      stream = ap (λ (l : List Stream). stream_number (record g.base { streams = l }) table_name) made.streams ∙ g.numbered;
      some = first_lives (at g []) mid (own_area g.client g.number g.stream []) (g.first_high passes) made;
      area = ap (λ (l : List Area). area_of (record g.base { areas = l }) g.client g.number) made.areas
          ∙ there g [] ∙ ap (λ (a : Area). Some (record a { number = g.number; stream = g.stream })) (sym g.first_area);
      none = refl;
      whole = made.broken ∙ g.whole;
      long = refl;
      below = λ _. subst (AllByRecursion (λ (r : TxnRecord). r.txn ≤ 0)) (sym (no_rows (at g []) mid (own_area g.client g.number g.stream []) g.stream empty made)) tt;
      cells = λ _. sym zero_table;
      last = λ _. sym (g.last_is ∙ ap last_in empty);
      fine = λ _. refusal_new g null ∙ ap (option_map Log) passes;
      table = zeros (at g []) mid (own_area g.client g.number g.stream []) g.stream g.numbered empty made ∙ sym zero_table;
    }

table_begun : (g : Ground) (r : Loaded) (t : State) → (lsn_or_null (last_or None (its g)) == null_lsn) ≡ true
    → CarriesOut g.told g.client (at g []) (load_new g.client g.number g.stream) r t → End g r t
table_begun g r t null carries =
    went (met g [] (first_restart g.number) rest r t (record { memory = refl; fault = refl; damage = λ _ _ _. refl }) carries)
  where
    rest : Reply → Plan Loaded
    rest = on_placed (stopped g.number) (λ _. ends (Ok (memory_of g.client g.number g.stream blank_checkpoint [])))

    went : Met g [] (first_restart g.number) rest r t → End g r t
    went (done ends_so) = ends_so
    went (denied first is behind) =
        given_up g [] (Log first) r t (cause_from g.told g.log g.client first g.log_whole (refusal_new g null ∙ ap (option_map Log) is)) behind
    went (gave reply mid none comes behind) =
        let lsn : ℕ = next_lsn (at g []) 260 in
        let made : State = restarted (at g []) (own_area g.client g.number g.stream []) (checkpoint_bytes blank_checkpoint) null_lsn false in
        let told : Comes g.told (flushed (at g [])) (outcome (replies.Placed lsn) made) reply mid
        = subst (λ (o : Outcome). Comes g.told (flushed (at g [])) o reply mid) (restart_answered g) comes in
        let over = by_reply g.told g.client mid rest reply (replies.Placed lsn) mid made r t (placed_as g.told (flushed (at g [])) lsn reply told.0) told.1 behind in
        end_by g r (Ok (memory_of g.client g.number g.stream blank_checkpoint [])) t made over.0 over.1
        (begun g made (none_last (its g) g.named null) null none (restarts (at g []) (own_area g.client g.number g.stream []) (checkpoint_bytes blank_checkpoint)))

-- ---- what the stream is like

info_refused : (g : Ground) → refusal (at g []) g.client (calls.Info g.stream) ≡ None
info_refused g = ap (λ (b : Bool). refused_if b refusals.NoSuchStream None) g.stream_there

info_as : (told : Bool) (stable : ℕ) (info : LogInfo) (reply : Reply) → IsReply told stable (replies.Info info) reply → reply ≡ replies.Info info
info_as true stable info reply is = is
info_as false stable info reply is = is

-- the stream has records and no restart area
last_cause : (g : Ground) (last : LogEntry) → (lsn_or_null (last_or None (its g)) == null_lsn) ≡ false → newest_in (its g) ≡ None
    → last_or None (its g) ≡ Some last → IsLoadCause g.told g.log g.client (NotATable (lsn_or_null (last_or None (its g))))
last_cause g last some none is =
    let one = last_has (IsThere (its g)) (its g) None last is (λ y e. absurd (let no : None ≡ Some y = e in cc no)) (each_there (its g)) in
    by_told g.told _ _
    (λ _. g.refusal_is
    ∙ ap (λ (b : Bool). if b then option_map Log (refusal (at g []) g.client (first_restart g.number)) else option_map NotATable (no_table_in (its g))) some
    ∙ ap (λ (o : Option LogEntry). option_map NotATable (option_map_or
    (λ (e : LogEntry). if is_none (checkpoint_of e.bytes) then Some e.lsn else stranger_in (its g)) o (Some (lsn_or_null (last_or None (its g)))))) none)
    (λ _. live_there g (λ (e : LogEntry). e.lsn == last.lsn) one.0 (lsn_or_null (last_or None (its g))) one.1
    (ap lsn_or_null is ∙ sym (lsn_found (its g) last.lsn one.0 one.1)))

-- what loading comes to, once the client has its area
pub loads_area : (most : ℕ) (g : Ground) (r : Loaded) (t : State) → CarriesOut g.told g.client (at g []) (load_area most g.client g.number g.stream) r t → End g r t
loads_area most g r t carries =
    went (met g [] (calls.Info g.stream) rest r t (record { memory = refl; fault = refl; damage = λ _ _ _. refl }) carries)
  where
    rest : Reply → Plan Loaded
    rest = on_info (stopped g.number) (load_stream most g.client g.number g.stream)

    by_parts : Bool → Bool → Plan Loaded
    by_parts null none = if null then load_new g.client g.number g.stream
        else if none then gives_up g.number (NotATable (lsn_or_null (last_or None (its g))))
        else load_table most g.client g.number g.stream

    behind_info : CarriesOut g.told g.client (at g [])
        (by_parts (lsn_or_null (last_or None (its g)) == null_lsn) (lsn_or_null (newest_in (its g)) == null_lsn)) r t → End g r t
    behind_info behind = elim (cases_Bool (lsn_or_null (last_or None (its g)) == null_lsn)) [
      | inl null ↦ table_begun g r t null
          (subst (λ (b : Bool). CarriesOut g.told g.client (at g []) (by_parts b (lsn_or_null (newest_in (its g)) == null_lsn)) r t) null behind)
      | inr some ↦
          let has : CarriesOut g.told g.client (at g []) (by_parts false (lsn_or_null (newest_in (its g)) == null_lsn)) r t
          = subst (λ (b : Bool). CarriesOut g.told g.client (at g []) (by_parts b (lsn_or_null (newest_in (its g)) == null_lsn)) r t) some behind in
          elim (cases_Bool (lsn_or_null (newest_in (its g)) == null_lsn)) [
            | inl none ↦
                let last = some_of (last_or None (its g)) some in
                given_up g [] (NotATable (lsn_or_null (last_or None (its g)))) r t (last_cause g last.0 some (none_of (its g) g.named none) last.1)
                (subst (λ (b : Bool). CarriesOut g.told g.client (at g []) (by_parts false b) r t) none has)
            | inr newest ↦
                let restart = some_of (newest_in (its g)) newest in
                table_there most g restart.0 r t some restart.1
                (subst (λ (b : Bool). CarriesOut g.told g.client (at g []) (by_parts false b) r t) newest has)
          ]
    ]

    went : Met g [] (calls.Info g.stream) rest r t → End g r t
    went (done ends_so) = ends_so
    went (denied first is behind) = let both : None ≡ Some first = sym (info_refused g) ∙ is in absurd (cc both)
    went (gave reply mid none comes behind) =
        behind_info (by_reply g.told g.client mid rest reply (replies.Info (info_of (at g []) g.stream)) mid (at g []) r t
        (info_as g.told (flushed (at g [])) (info_of (at g []) g.stream) reply comes.0) comes.1 behind)
