-- Reading the records above a restart area, to the end of the stream.
use Rattle.clfs_cells_laws.proofs.Words.{◌≤◌, arith, ◌≡◌, ◌⊎◌, ℕ, zero, suc, Bool, true, false, refl, sym, subst, ap, ◌∙◌, inl, inr, List, [], ◌∷◌, ◌++◌}
use Rattle.clfs_cells_laws.proofs.Words.{length, Option, Some, None, Ok, IsSome, MatchBool, ◌==◌, if◌then◌else◌, find, is_none, is_some, nat_lt}
use Rattle.clfs_cells_laws.proofs.Words.{option_and_then, option_map, option_map_or, cases_Bool, eq-eqb, append-nil, append_assoc, length-set, null_lsn}
use Rattle.clfs_cells_laws.proofs.Words.{Cursor, LogEntry, Refusal, Reply, Area, State, Outcome, answer, outcome, flushed, live, live_at, lsn_or_null}
use Rattle.clfs_cells_laws.proofs.Words.{refusal, refused_if, Comes, Checkpoint, TxnRecord, Log, NotATable, Action, Set, Compensation, Commit, RolledBack}
use Rattle.clfs_cells_laws.proofs.Words.{blank_cells, cell_count, checkpoint_of, txn_record_of, first_restart, load_refusal, table_stream, Loaded, gives_up}
use Rattle.clfs_cells_laws.proofs.Words.{last_number, memory_of, on_more, read_records, Plan, calls, ends, CarriesOut, Memory, after_action, changed}
use Rattle.clfs_cells_laws.proofs.Words.{committed, AllByRecursion, last_or, IsLoadCause}
use Rattle.std.specs.Prelude.{max}
use Rattle.clfs_model.specs.declared.call.Call.TheVariants as calls
use Rattle.clfs_model.specs.declared.refusal.Refusal.TheVariants as refusals
use Rattle.clfs_model.specs.declared.reply.Reply.TheVariants as replies
use Rattle.clfs_cells_laws.proofs.Above.{above, next_above, none_above}
use Rattle.clfs_cells_laws.proofs.Ground.{Ground, End, Met, Stops, after_in, at, cells_in, done, denied, end_by, gave, given_up, last_in, met, newest_in}
use Rattle.clfs_cells_laws.proofs.Ground.{no_table_in, restart_in, spelled, strange, stranger_in}
use Rattle.clfs_cells_laws.proofs.ReadBack.{IsRead, ended, end_answered, forward, next_answered, next_in, next_read, next_refused, there}
use Rattle.clfs_cells_laws.proofs.Ways.{Way, called, came, lacked, refused, faulted, damaged, by_reply}

pub by_told : (b : Bool) (X Y : Type 0) → (b ≡ true → X) → (b ≡ false → Y) → MatchBool b X Y
by_told true X Y x y = x refl
by_told false X Y x y = y refl

-- the records of the stream
abbrev pub its : Ground → List LogEntry
its g = live g.base g.stream

-- The restart area from which records are read: the newest one, and what it says.
pub record From (g : Ground) (restart : LogEntry) (c : Checkpoint) : Type 0 where
  pub some : (lsn_or_null (last_or None (its g)) == null_lsn) ≡ false
  pub newest : newest_in (its g) ≡ Some restart
  pub says : g.told ≡ true → checkpoint_of restart.bytes ≡ Some c
  pub long : length c.cells ≡ cell_count

-- These records were read, up to this LSN.
pub record Sofar (g : Ground) (acc : List TxnRecord) (last : ℕ) : Type 0 where
  pub records : g.told ≡ true → spelled (after_in (its g)) ≡ acc ++ spelled (above last (its g))
  pub clean : g.told ≡ true → find strange (after_in (its g)) ≡ find strange (above last (its g))

-- why loading is refused where there is a restart area
refused_by : (g : Ground) (restart : LogEntry) (c : Checkpoint) → From g restart c → g.told ≡ true
    → load_refusal g.log g.client ≡ option_map NotATable (stranger_in (its g))
refused_by g restart c from told =
    g.refusal_is
    ∙ ap (λ (b : Bool). if b then option_map Log (refusal (at g []) g.client (first_restart g.number)) else option_map NotATable (no_table_in (its g))) from.some
    ∙ ap (λ (o : Option LogEntry). option_map NotATable (option_map_or
    (λ (e : LogEntry). if is_none (checkpoint_of e.bytes) then Some e.lsn else stranger_in (its g)) o (Some (lsn_or_null (last_or None (its g)))))) from.newest
    ∙ ap (λ (o : Option Checkpoint). option_map NotATable (if is_none o then Some restart.lsn else stranger_in (its g))) (from.says told)

-- ---- the end of the stream

says_cells : (g : Ground) (restart : LogEntry) (c : Checkpoint) (acc : List TxnRecord) → From g restart c → g.told ≡ true → spelled (after_in (its g)) ≡ acc
    → changed c.cells (committed acc) ≡ cells_in (its g)
says_cells g restart c acc from told is =
    let read : restart_in (its g) ≡ Some c = ap (option_and_then (λ (e : LogEntry). checkpoint_of e.bytes)) from.newest ∙ from.says told in
    ap (λ (l : List TxnRecord). changed c.cells (committed l)) (sym is)
    ∙ ap (λ (o : Option Checkpoint). changed (option_map_or (λ (x : Checkpoint). x.cells) o blank_cells) (committed (spelled (after_in (its g))))) (sym read)

says_last : (g : Ground) (restart : LogEntry) (c : Checkpoint) (acc : List TxnRecord) → From g restart c → g.told ≡ true → spelled (after_in (its g)) ≡ acc
    → last_number c.last acc ≡ last_in (its g)
says_last g restart c acc from told is =
    let read : restart_in (its g) ≡ Some c = ap (option_and_then (λ (e : LogEntry). checkpoint_of e.bytes)) from.newest ∙ from.says told in
    ap (λ (l : List TxnRecord). last_number c.last l) (sym is)
    ∙ ap (λ (o : Option Checkpoint). last_number (option_map_or (λ (x : Checkpoint). x.last) o 0) (spelled (after_in (its g)))) (sym read)

-- a change of a cell leaves the cells as many
acted_long : (cells : List ℕ) (action : Action) → length (after_action cells action) ≡ length cells
acted_long cells (Set change) = length-set cells change.cell change.new
acted_long cells (Compensation change) = length-set cells change.cell change.new
acted_long cells Commit = refl
acted_long cells RolledBack = refl

pub changed_long : (records : List TxnRecord) (cells : List ℕ) → length (changed cells records) ≡ length cells
changed_long [] cells = refl
changed_long (r ∷ records) cells = changed_long records (after_action cells r.action) ∙ acted_long cells r.action

-- the last number isn't below any
last_grows : (last : ℕ) (records : List TxnRecord) → last ≤ last_number last records
last_grows last [] = omega arith
last_grows last (r ∷ records) = let rest = last_grows (max last r.txn) records in omega (arith, rest)

pub not_above : (last : ℕ) (records : List TxnRecord) → AllByRecursion (λ (r : TxnRecord). r.txn ≤ last_number last records) records
not_above last [] = tt
not_above last (r ∷ records) = let rest = last_grows (max last r.txn) records in (omega (arith, rest), not_above (max last r.txn) records)

finished : (g : Ground) (restart : LogEntry) (c : Checkpoint) (acc : List TxnRecord) (last : ℕ) → From g restart c → Sofar g acc last → next_in g last ≡ None
    → End g (Ok (memory_of g.client g.number g.stream c acc)) (at g [])
finished g restart c acc last from sofar none =
    let over : above last (its g) ≡ [] = none_above last (its g) none in
    let all : g.told ≡ true → spelled (after_in (its g)) ≡ acc
    = λ told. sofar.records told ∙ ap (λ (l : List LogEntry). acc ++ spelled l) over ∙ append-nil acc in
    record {
      by = refl;
      stream = g.numbered;
      some = λ e. let no : None ≡ Some restart = sym (ap newest_in e) ∙ from.newest in cc no;
      area = there g [] ∙ ap (λ (a : Area). Some (record a { number = g.number; stream = g.stream })) (sym g.first_area);
      none = refl;
      whole = g.whole;
      long = changed_long (committed acc) c.cells ∙ from.long;
      below = λ told. subst (AllByRecursion (λ (r : TxnRecord). r.txn ≤ last_number c.last acc)) (sym (all told)) (not_above c.last acc);
      cells = λ told. says_cells g restart c acc from told (all told) ∙ sym g.table_is;
      last = λ told. says_last g restart c acc from told (all told) ∙ sym g.last_is;
      fine = λ told. refused_by g restart c from told
          ∙ ap (λ (o : Option LogEntry). option_map NotATable (option_map (λ (e : LogEntry). e.lsn) o)) (sofar.clean told ∙ ap (find strange) over);
      table = g.table_same (at g []) refl refl;
    }

end_way : (g : Ground) (cursor : Cursor) (reply : Reply) (mid : State) → Way g.told (at g (cursor ∷ [])) g.client (calls.EndRead g.number cursor.number) reply mid
    → mid ≡ at g []
end_way g cursor reply mid (lacked takes _ _) = absurd (cc takes)
end_way g cursor reply mid (came none comes) = comes.1 ∙ end_answered g cursor
end_way g cursor reply mid (refused first is _ _) = let both : None ≡ Some first = sym (ended g cursor) ∙ is in absurd (cc both)
end_way g cursor reply mid (faulted called _ _) = absurd (cc called)
end_way g cursor reply mid (damaged read _ _) = absurd (cc read)

-- a cursor ends, and then comes the rest
pub read_ended : (g : Ground) (cursor : Cursor) (rest : Plan Loaded) (r : Loaded) (t : State)
    → CarriesOut g.told g.client (at g (cursor ∷ [])) (calls (calls.EndRead g.number cursor.number) (λ _. rest)) r t
    → CarriesOut g.told g.client (at g []) rest r t
read_ended g cursor rest r t carries =
    let c = called g.told g.client (at g (cursor ∷ [])) (calls.EndRead g.number cursor.number) (λ _. rest) r t g.whole carries in
    subst (λ (x : State). CarriesOut g.told g.client x rest r t) (end_way g cursor c.reply c.mid c.went) c.behind

-- ---- one record after the other

found_other : (p q : LogEntry → Bool) (xs : List LogEntry) (x : LogEntry) → find p xs ≡ Some x → q x ≡ true → (y : LogEntry) × (find q xs ≡ Some y)
found_other p q [] x is passes = absurd (cc is)
found_other p q (a ∷ xs) x is passes = elim (cases_Bool (q a)) [
  | inl first ↦ (a, rw first refl)
  | inr fails ↦ elim (cases_Bool (p a)) [
    | inl here ↦
        let same : Some a ≡ Some x = rw here at is in
        let one : a ≡ x = cc same in
        let both : q a ≡ true = ap q one ∙ passes in
        absurd (cc (both, fails))
    | inr later ↦ let rest = found_other p q xs x (rw later at is) passes in (rest.0, rw fails rest.1)
  ]
]

is_there : (o : Option LogEntry) (x : LogEntry) → o ≡ Some x → IsSome o
is_there o x is = ap is_some is

-- a record of the stream is one of the log's
pub live_there : (g : Ground) (p : LogEntry → Bool) (entry : LogEntry) (lsn : ℕ) → find p (its g) ≡ Some entry → lsn ≡ entry.lsn
    → IsSome (live_at g.log (table_stream g.log) lsn)
live_there g p entry lsn is same =
    let other = found_other p (λ (e : LogEntry). e.lsn == lsn) (its g) entry is (eq-eqb entry.lsn lsn (sym same)) in
    is_there _ other.0 (g.there lsn other.0 other.1)

-- a record of another layout ends the loading
stranger_cause : (g : Ground) (restart : LogEntry) (c : Checkpoint) (acc : List TxnRecord) (last : ℕ) (entry read : LogEntry) → From g restart c → Sofar g acc last
    → next_in g last ≡ Some entry → IsRead g.told entry read → txn_record_of read.bytes ≡ None → IsLoadCause g.told g.log g.client (NotATable read.lsn)
stranger_cause g restart c acc last entry read from sofar is r none =
    by_told g.told _ _
    (λ told.
    let other : strange entry ≡ true = ap (λ (e : LogEntry). strange e) (sym (r.exact told)) ∙ ap is_none none in
    let first : find strange (entry ∷ above entry.lsn (its g)) ≡ Some entry = rw other refl in
    refused_by g restart c from told
    ∙ ap (λ (o : Option LogEntry). option_map NotATable (option_map (λ (e : LogEntry). e.lsn) o))
    (sofar.clean told ∙ ap (find strange) (next_above last (its g) entry g.rising is) ∙ first)
    ∙ ap (λ (lsn : ℕ). Some (NotATable lsn)) (sym r.lsn))
    (λ _. live_there g (λ (e : LogEntry). nat_lt last e.lsn) entry read.lsn is r.lsn)

-- another one joins those before it
one_more : (g : Ground) (acc : List TxnRecord) (last : ℕ) (entry read : LogEntry) (row : TxnRecord) → Sofar g acc last → next_in g last ≡ Some entry
    → IsRead g.told entry read → txn_record_of read.bytes ≡ Some row → Sofar g (acc ++ row ∷ []) entry.lsn
one_more g acc last entry read row sofar is r spells =
    let own : g.told ≡ true → txn_record_of entry.bytes ≡ Some row = λ told. ap (λ (e : LogEntry). txn_record_of e.bytes) (sym (r.exact told)) ∙ spells in
    let next = next_above last (its g) entry g.rising is in
    record {
      records = λ told.
          let here : spelled (entry ∷ above entry.lsn (its g)) ≡ row ∷ spelled (above entry.lsn (its g)) = rw (own told) refl in
          sofar.records told ∙ ap (λ (l : List LogEntry). acc ++ spelled l) next ∙ ap (λ (l : List TxnRecord). acc ++ l) here
          ∙ sym (append_assoc acc (row ∷ []) (spelled (above entry.lsn (its g))));
      clean = λ told.
          let known : strange entry ≡ false = ap is_none (own told) in
          let here : find strange (entry ∷ above entry.lsn (its g)) ≡ find strange (above entry.lsn (its g)) = rw known refl in
          sofar.clean told ∙ ap (find strange) next ∙ here;
    }

-- the answer to a call that reads on
next_came : (g : Ground) (k last : ℕ) (entry : LogEntry) (reply : Reply) (mid : State) → next_in g last ≡ Some entry
    → Comes g.told (flushed (at g (forward k last ∷ []))) (answer (at g (forward k last ∷ [])) g.client (calls.ReadNext g.number k)) reply mid
    → (read : LogEntry) × (reply ≡ replies.Next read) × IsRead g.told entry read × (mid ≡ at g (forward k entry.lsn ∷ []))
next_came g k last entry reply mid is comes =
    let stable : ℕ = flushed (at g (forward k last ∷ [])) in
    let told : Comes g.told stable (outcome (replies.Next entry) (at g (forward k entry.lsn ∷ []))) reply mid
    = subst (λ (o : Outcome). Comes g.told stable o reply mid) (next_answered g k last entry is) comes in
    let read = next_read g.told stable entry reply told.0 in (read.0, read.1, read.2, told.1)

next_some : (o : Option LogEntry) → refused_if (is_none o) refusals.EndOfLog None ≡ None → (entry : LogEntry) × (o ≡ Some entry)
next_some None is = absurd (cc is)
next_some (Some entry) is = (entry, refl)

next_none : (o : Option LogEntry) (first : Refusal) → refused_if (is_none o) refusals.EndOfLog None ≡ Some first → (o ≡ None) × (first ≡ refusals.EndOfLog)
next_none None first is = (refl, let same : Some refusals.EndOfLog ≡ Some first = is in sym (cc same))
next_none (Some entry) first is = absurd (cc is)

-- how reading goes on after a record that was read
abbrev go_on : ℕ → ℕ → ℕ → List TxnRecord → (List TxnRecord → Memory) → LogEntry → Plan Loaded
go_on more number k acc whole entry = option_map_or (λ (r : TxnRecord). read_records more number k (acc ++ r ∷ []) whole) (txn_record_of entry.bytes)
    (gives_up number (NotATable entry.lsn))

abbrev go_end : ℕ → ℕ → List TxnRecord → (List TxnRecord → Memory) → Plan Loaded
go_end number k acc whole = calls (calls.EndRead number k) (λ _. ends (Ok (whole acc)))

abbrev behind_next : ℕ → ℕ → ℕ → List TxnRecord → (List TxnRecord → Memory) → Reply → Plan Loaded
behind_next more number k acc whole = on_more number (go_on more number k acc whole) (go_end number k acc whole)

known : (o : Option TxnRecord) → (o ≡ None) ⊎ ((row : TxnRecord) × (o ≡ Some row))
known None = inl refl
known (Some row) = inr (row, refl)

pub all_records : (more : ℕ) (g : Ground) (restart : LogEntry) (c : Checkpoint) (k last : ℕ) (acc : List TxnRecord) (r : Loaded) (t : State) → From g restart c
    → Sofar g acc last
    → CarriesOut g.told g.client (at g (forward k last ∷ [])) (read_records more g.number k acc (memory_of g.client g.number g.stream c)) r t → End g r t
all_records zero g restart c k last acc r t from sofar carries = absurd carries
all_records (suc more) g restart c k last acc r t from sofar carries =
    let whole : List TxnRecord → Memory = memory_of g.client g.number g.stream c in
    let stops : Stops g (behind_next more g.number k acc whole) = record { memory = refl; fault = refl; damage = λ _ _ _. refl } in
    went (λ next records sofar carries. all_records more g restart c k next records r t from sofar carries)
    (met g (forward k last ∷ []) (calls.ReadNext g.number k) (behind_next more g.number k acc whole) r t stops carries)
  where
    whole : List TxnRecord → Memory
    whole = memory_of g.client g.number g.stream c

    -- the same from the next record on
    Again : Type 0
    Again = (next : ℕ) (records : List TxnRecord) → Sofar g records next
        → CarriesOut g.told g.client (at g (forward k next ∷ [])) (read_records more g.number k records (memory_of g.client g.number g.stream c)) r t → End g r t

    read_one : Again → (entry read : LogEntry) → next_in g last ≡ Some entry → IsRead g.told entry read
        → CarriesOut g.told g.client (at g (forward k entry.lsn ∷ [])) (go_on more g.number k acc whole read) r t → End g r t
    read_one again entry read is own behind = elim (known (txn_record_of read.bytes)) [
      | inl none ↦
          let plan : go_on more g.number k acc whole read ≡ gives_up g.number (NotATable read.lsn)
          = ap (λ (o : Option TxnRecord). option_map_or (λ (x : TxnRecord). read_records more g.number k (acc ++ x ∷ []) whole) o (gives_up g.number (NotATable read.lsn))) none in
          given_up g (forward k entry.lsn ∷ []) (NotATable read.lsn) r t (stranger_cause g restart c acc last entry read from sofar is own none)
          (subst (λ (p : Plan Loaded). CarriesOut g.told g.client (at g (forward k entry.lsn ∷ [])) p r t) plan behind)
      | inr some ↦
          let plan : go_on more g.number k acc whole read ≡ read_records more g.number k (acc ++ some.0 ∷ []) whole
          = ap (λ (o : Option TxnRecord). option_map_or (λ (x : TxnRecord). read_records more g.number k (acc ++ x ∷ []) whole) o (gives_up g.number (NotATable read.lsn))) some.1 in
          again entry.lsn (acc ++ some.0 ∷ []) (one_more g acc last entry read some.0 sofar is own some.1)
          (subst (λ (p : Plan Loaded). CarriesOut g.told g.client (at g (forward k entry.lsn ∷ [])) p r t) plan behind)
    ]

    at_end : (first : Refusal) → refusal (at g (forward k last ∷ [])) g.client (calls.ReadNext g.number k) ≡ Some first
        → CarriesOut g.told g.client (at g (forward k last ∷ [])) (behind_next more g.number k acc whole (replies.Refused first)) r t → End g r t
    at_end first is behind =
        let none = next_none (next_in g last) first (sym (next_refused g k last) ∙ is) in
        let over = read_ended g (forward k last) (ends (Ok (whole acc))) r t
        (subst (λ (f : Refusal). CarriesOut g.told g.client (at g (forward k last ∷ [])) (behind_next more g.number k acc whole (replies.Refused f)) r t) none.1 behind) in
        end_by g r (Ok (whole acc)) t (at g []) over.0 over.1 (finished g restart c acc last from sofar none.0)

    went : Again → Met g (forward k last ∷ []) (calls.ReadNext g.number k) (behind_next more g.number k acc whole) r t → End g r t
    went again (done ends_so) = ends_so
    went again (denied first is behind) = at_end first is behind
    went again (gave reply mid none comes behind) =
        let some = next_some (next_in g last) (sym (next_refused g k last) ∙ none) in
        let came_to = next_came g k last some.0 reply mid some.1 comes in
        read_one again some.0 came_to.0 some.1 came_to.2
        (by_reply g.told g.client mid (behind_next more g.number k acc whole) reply (replies.Next came_to.0) mid (at g (forward k some.0.lsn ∷ [])) r t came_to.1 came_to.3 behind)
