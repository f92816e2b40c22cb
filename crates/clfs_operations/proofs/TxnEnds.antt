-- How serving a table ends: by answering its lines, by why the table wasn't loaded, or by why the log wasn't opened.
use Rattle.std.proofs.Common.{◌≡◌, ◌≢◌, ℕ, ◌≤◌, ◌⊎◌, Bool, true, false, List, refl, sym, ap, subst, ◌∙◌, inl, inr, arith}
use Rattle.std.specs.Prelude.{Option, IsTrue, Ok, Err}
use Rattle.std.specs.Io.KnownBytes.{Appends}
use Rattle.std.proofs.KnownBytes.{Appends-nil}
use Rattle.clfs_ports.specs.Cause as ports
use Rattle.clfs_disk.specs.State.{DiskState, Nature, TellsContents, IsHonest, Later}
use Rattle.clfs_model.specs.Accepted.{serve_limits}
use Rattle.clfs_model.specs.declared.refusal.Refusal.TheVariants as log_refusals
use Rattle.clfs_model.specs.declared.state.State.{State}
use Rattle.clfs_manager.specs.Written.{WritesDisk}
use Rattle.clfs_recover.specs.Files.{AreWholeFiles}
use Rattle.clfs_recover.specs.Telling.{TellsOpening}
use Rattle.clfs_recover.specs.declared.refusal.LoadRefusal.{LoadRefusal}
use Rattle.clfs_cells.specs.declared.told.TxnLoadRefusal.{TxnLoadRefusal}
use Rattle.clfs_cells.specs.declared.told.TxnLoadRefusal.TheVariants.{Log, NotATable}
use Rattle.clfs_cells.specs.Lines.{calls_of_lines}
use Rattle.clfs_cells.specs.Loading.{LoadStep}
use Rattle.clfs_cells.specs.Stored.{Store}
use Rattle.clfs_cells.specs.Table.{table}
use Rattle.clfs_cells_laws.specs.Breaking.{breaks_loading}
use Rattle.clfs_cells_laws.specs.Crashes.{IsSafe}
use Rattle.clfs_cells_laws.specs.Loads as tables
use Rattle.clfs_txn.specs.Crashes.{CrashLeavesTable}
use Rattle.clfs_txn.specs.UnderWay.{loading_of}
use Rattle.clfs_lines.specs.Answering.{Answers, EndsAnswering, IsAnswerStatus, StopsAtFault, Writes}
use Rattle.clfs_lines.specs.declared.incomplete.IncompleteLine.TheVariants.{Counts}
use Rattle.clfs_lines.specs.Ends.{AppendsFront}
use Rattle.clfs_operations.specs.Opened.{RefusesLog, TellsRefusal, refusal_line}
use Rattle.clfs_operations.specs.Txn.{AnswersTableLines, IsOpenedLog, IsTableAnswered, IsTableAnsweredInPart, RefusesTable, TellsTableRefusal, IsTableRefusalText, IsTxnStatus, EndsTxn, TableRun, table_refusal_line, table_refusal_status}
use Rattle.clfs_operations.specs.TxnCrashed.{IsLeftByLines, IsLeftTable, IsLoadingLeft, IsServingLeft, alone}
use Rattle.clfs_operations.proofs.Loaded.{left_before}
use Rattle.clfs_operations.specs.Loaded.{IsLoaded, IsKeptOn}
use Rattle.clfs_operations.proofs.OnlyRead.{unchanged_later, whole_same}
use Rattle.clfs_operations.proofs.ServingEnds.{whole_as, fault_as, limit_as, at_limit_as, stops_as, refused_statuses, not_answered, fault_by, no_log_by, no_log_line, refusal_text}
use Rattle.clfs_operations.proofs.SoFar.{later_then, stands_still}
use Rattle.clfs_operations.proofs.TxnLines.{AreTableLines, IsTablePart}

-- ---- a log that was opened

-- the state for which the files stood
pub opened_log : (old mid : DiskState) (first : State) → IsLoaded 4 old mid first → IsOpenedLog old first
opened_log old mid first loaded = record {
  stands = loaded.stands;
  buffers_are = loaded.buffers_are;
  valid = loaded.valid;
  storable = loaded.storable;
  stable = loaded.stable;
  begins = sym (ap (λ (s : State). s.broken) loaded.stable);
}

-- a disk that tells what its files hold does so later
pub tells_later : (old new : DiskState) → new.nature ≡ old.nature → TellsContents old → TellsContents new
tells_later old new same told = subst (λ (n : Nature). IsTrue n.tells_contents) (sym same) told

pub honest_later : (old new : DiskState) → new.nature ≡ old.nature → IsHonest old → IsHonest new
honest_later old new same honest = subst (λ (n : Nature). IsTrue n.tells_contents × IsTrue n.tells_images) (sym same) honest

-- what a crash leaves until the table was loaded
loading_left : (old mid disk new : DiskState) (first : State) → IsLoaded 4 old mid first → Later mid disk → Later disk new
    → CrashLeavesTable (table first) (table first) (loading_of first 1) mid disk → IsHonest old → IsLoadingLeft old new first disk.clock
loading_left old mid disk new first opened loading time moments honest = record {
  opened = mid.clock;
  later = opened.time.later;
  on = loading.later;
  before = λ moment image after until is. left_before old mid opened.time moment image after until
      (loading.past moment image (omega (arith, until)) (time.past moment image (let later = loading.later in omega (arith, until, later)) is));
  loading = λ moment image from until is. (moments (honest_later old mid opened.time.nature honest)).each moment image from until (time.past moment image until is);
}

-- a table was loaded of it, and the lines were answered
module _ (old mid disk new : DiskState) (first : State) (store last : Store) (opened : IsLoaded 4 old mid first)
    (load : LoadStep mid.nature.tells_contents first 1 (Ok store.memory) store.log)
    (loaded : tables.IsLoaded mid.nature.tells_contents first 1 store.memory store.log) (writes : WritesDisk ⊥ mid disk) (kept : IsKeptOn last.log new)
    (moments : CrashLeavesTable (table first) (table first) (loading_of first 1) mid disk) (safe : TellsContents mid → IsSafe store.log store.memory.stream) where
  -- time until the table was loaded
  before : Later old disk
  before = later_then old mid disk (unchanged_later old mid opened.time) writes.time

  full_before : TellsContents old → AreWholeFiles old.files → AreWholeFiles disk.files
  full_before told are = writes.whole (λ none. none) (tells_later old mid opened.time.nature told) (whole_same old.files mid.files opened.same are)

  lines_from : (lines : List (List ℕ)) (text : List ℕ) → AnswersTableLines store disk last new lines text → AnswersTableLines store old last new lines text
  lines_from lines text given = record {
    answers = given.answers;
    run = subst (λ (n : Nature). TableRun n.tells_contents store (calls_of_lines lines) given.answers last) before.nature given.run;
    is = given.is;
    time = later_then old disk new before given.time;
    cause = λ some. let rose = given.cause some in omega (arith, rose, before.faults);
    damage = λ told. given.damage (tells_later old disk before.nature told);
    unbroken = λ told. given.unbroken (tells_later old disk before.nature told);
    whole = λ told none are. given.whole (tells_later old disk before.nature told) none (full_before told are);
    steady = λ steady told are.
        given.steady (subst (λ (n : Nature). IsTrue n.steady) (sym before.nature) steady) (tells_later old disk before.nature told) (full_before told are);
  }

  table_left : (lines : List (List ℕ)) (text : List ℕ) (lines_did : AreTableLines store disk last new lines text) → IsHonest old
      → IsServingLeft old new first store (calls_of_lines lines) lines_did.given.answers last
  table_left lines text lines_did honest = record {
    loaded = disk.clock;
    loading = loading_left old mid disk new first opened writes.time lines_did.given.time moments honest;
    answered = subst (λ (n : Nature). IsLeftByLines n.tells_contents new.image_at disk.clock new.clock (alone (table first) (loading_of first 1)) store (calls_of_lines lines) lines_did.given.answers last)
        before.nature (lines_did.crash (inr (safe (tells_later old mid opened.time.nature honest.0))) (honest_later old disk before.nature honest) (alone (table first) (loading_of first 1)) at_first);
  }
    where
      at_first : IsLeftTable disk.image_at disk.clock disk.clock (alone (table first) (loading_of first 1))
      at_first moment image from until is =
          (moments (honest_later old mid opened.time.nature honest)).each moment image (let later = writes.time.later in omega (arith, from, later)) until is

  pub table_answered : (lines : List (List ℕ)) (text : List ℕ) → AreTableLines store disk last new lines text → IsTableAnswered old new lines text
  unfolding lines_from
  table_answered lines text lines_did =
      let given = lines_did.given in
      let nature : new.nature ≡ old.nature = given.time.nature ∙ before.nature in
      record {
        first = first;
        opened = opened_log old mid first opened;
        store = store;
        load = subst (λ (n : Nature). LoadStep n.tells_contents first 1 (Ok store.memory) store.log) opened.time.nature load;
        loaded = subst (λ (n : Nature). tables.IsLoaded n.tells_contents first 1 store.memory store.log) opened.time.nature loaded;
        last = last;
        answered = lines_from lines text given;
        files = λ told none.
            kept.files (given.unbroken (tells_later old disk before.nature told) loaded.whole none).0 (tells_later old new nature told);
        settled = λ honest none.
            kept.settled (given.unbroken (tells_later old disk before.nature honest.0) loaded.whole none).0 (honest_later old new nature honest);
        crash = table_left lines text lines_did;
      }

  -- the replies were written in part
  pub table_answered_in_part : (torn : Bool) (lines : List (List ℕ)) (text : List ℕ) → IsTablePart store disk last new torn lines text
      → IsTableAnsweredInPart old new torn lines text
  unfolding table_answered lines_from
  table_answered_in_part torn lines text part = record {
    output = part.output;
    answered = table_answered lines part.output part.given;
    front = part.front;
  }

-- the same of a disk, the fault told in another way
pub writes_as : (fault other : Type 0) (old new : DiskState) → (fault → other) → (other → fault) → WritesDisk fault old new → WritesDisk other old new
writes_as fault other old new to back writes = record {
  time = writes.time;
  cause = λ f. writes.cause (back f);
  whole = λ none. writes.whole (λ f. none (to f));
  steady = λ steady told are. let fine = writes.steady steady told are in (λ f. fine.0 (back f), fine.1);
}

-- a table wasn't loaded of it
pub refuses_table : (cause : TxnLoadRefusal) (old mid new : DiskState) (first last : State) → IsLoaded 4 old mid first
    → LoadStep mid.nature.tells_contents first 1 (Err cause) last → tables.IsNotLoaded mid.nature.tells_contents first 1 cause last
    → (breaks_loading (Err cause) ≡ false → last.broken ≡ false) → WritesDisk (cause ≡ Log log_refusals.DiskFault) mid new
    → (TellsContents mid → (container offset at : ℕ) → cause ≡ Log (log_refusals.Damaged container offset at) → ⊥) → IsKeptOn last new
    → CrashLeavesTable (table first) (table first) (loading_of first 1) mid new → RefusesTable cause old new
refuses_table cause old mid new first last opened load refused stays writes damage kept moments =
    let before = unchanged_later old mid opened.time in
    let time = later_then old mid new before writes.time in
    let tells = tells_later old mid opened.time.nature in
    record {
      first = first;
      opened = opened_log old mid first opened;
      last = last;
      load = subst (λ (n : Nature). LoadStep n.tells_contents first 1 (Err cause) last) opened.time.nature load;
      refused = subst (λ (n : Nature). tables.IsNotLoaded n.tells_contents first 1 cause last) opened.time.nature refused;
      time = time;
      fault = λ is. let rose = writes.cause is in omega (arith, rose, before.faults);
      steady = λ steady told are is.
          (writes.steady (subst (λ (n : Nature). IsTrue n.steady) (sym opened.time.nature) steady) (tells told) (whole_same old.files mid.files opened.same are)).0 is;
      damage = λ told. damage (tells told);
      files = λ told other. kept.files (stays (calm_cause cause other (damage (tells told)))) (tells_later old new time.nature told);
      settled = λ honest other. kept.settled (stays (calm_cause cause other (damage (tells honest.0)))) (honest_later old new time.nature honest);
      crash = loading_left old mid new new first opened writes.time (stands_still new) moments;
    }
  where
    calm_cause : (given : TxnLoadRefusal) → given ≢ Log log_refusals.DiskFault
        → ((container offset at : ℕ) → given ≡ Log (log_refusals.Damaged container offset at) → ⊥) → breaks_loading (Err given) ≡ false
    calm_cause (Log log_refusals.DiskFault) other none = absurd (other refl)
    calm_cause (Log (log_refusals.Damaged container offset at)) other none = absurd (none container offset at refl)
    calm_cause _ other none = refl

-- ---- the lines of the table were answered

-- the statuses of answering are none of the others
not_refused : (status : ℕ) → IsAnswerStatus status → (status ≡ 4) ⊎ ((status ≡ 6) ⊎ ((status ≡ 9) ⊎ (status ≡ 10))) → ⊥
not_refused status answers others = by_answer answers
  where
    never : (n : ℕ) → status ≡ n → (n ≡ 4 → ⊥) → (n ≡ 6 → ⊥) → (n ≡ 9 → ⊥) → (n ≡ 10 → ⊥) → ⊥
    never n is not_4 not_6 not_9 not_10 = elim others [
      | inl e ↦ not_4 (sym is ∙ e)
      | inr (inl e) ↦ not_6 (sym is ∙ e)
      | inr (inr (inl e)) ↦ not_9 (sym is ∙ e)
      | inr (inr (inr e)) ↦ not_10 (sym is ∙ e)
    ]

    by_answer : IsAnswerStatus status → ⊥
    by_answer (inl e) = never 0 e (λ f. omega (arith, f)) (λ f. omega (arith, f)) (λ f. omega (arith, f)) (λ f. omega (arith, f))
    by_answer (inr (inl e)) = never 2 e (λ f. omega (arith, f)) (λ f. omega (arith, f)) (λ f. omega (arith, f)) (λ f. omega (arith, f))
    by_answer (inr (inr (inl e))) = never 3 e (λ f. omega (arith, f)) (λ f. omega (arith, f)) (λ f. omega (arith, f)) (λ f. omega (arith, f))
    by_answer (inr (inr (inr (inl e)))) = never 5 e (λ f. omega (arith, f)) (λ f. omega (arith, f)) (λ f. omega (arith, f)) (λ f. omega (arith, f))
    by_answer (inr (inr (inr (inr e)))) = never 7 e (λ f. omega (arith, f)) (λ f. omega (arith, f)) (λ f. omega (arith, f)) (λ f. omega (arith, f))

pub answering_ends : (Is : Answers) (InPart : Bool → Answers) (status : ℕ) (old new : DiskState) (left left' written written' : Option (List ℕ)) (source source' sink sink' : ℕ)
    → ((lines : List (List ℕ)) (text : List ℕ) → Is lines text → IsTableAnswered old new lines text)
    → ((torn : Bool) (lines : List (List ℕ)) (text : List ℕ) → InPart torn lines text → IsTableAnsweredInPart old new torn lines text)
    → EndsAnswering serve_limits Counts Is InPart status left left' written written' source source' sink sink'
    → EndsTxn status old new left left' written written' source source' sink sink'
answering_ends Is InPart status old new left left' written written' source source' sink sink' also also_part ends = record {
  statuses = inl ends.statuses;
  done = λ e. let found = ends.done e in (found.0, whole_as serve_limits Is Other also Counts left left' found.0 found.1, found.2);
  source_fault = ends.source_fault;
  source_fault_answers = λ e. let found = ends.source_fault_answers e in (found.0, fault_as serve_limits Is Other also left left' found.0 found.1, found.2);
  sink_fault = ends.sink_fault;
  sink_fault_front = λ e. inl (at_fault (ends.sink_fault_front e));
  disk_fault = λ e. absurd (not_refused status ends.statuses (inl e));
  disk_fault_line = λ e. absurd (not_refused status ends.statuses (inl e));
  no_memory = λ e. inr (inr (stops_as serve_limits Counts (InPart false) (OtherPart false) (also_part false) left left' written written' (ends.no_memory e)));
  no_log = λ e. absurd (not_refused status ends.statuses (inr (inl e)));
  too_long = λ e. let found = ends.too_long e in (found.0, limit_as serve_limits Is Other also left left' found.0 found.1, found.2);
  no_table = λ e. absurd (not_refused status ends.statuses (inr (inr (inl e))));
  refused = λ e. absurd (not_refused status ends.statuses (inr (inr (inr e))));
  unread = λ e. absurd (not_refused status ends.statuses e);
  source_count = ends.source_count;
  sink_count = ends.sink_count;
}
  where
    Other : Answers
    Other = IsTableAnswered old new

    OtherPart : Bool → Answers
    OtherPart = IsTableAnsweredInPart old new

    at_fault : StopsAtFault serve_limits Counts Is InPart left left' written written' → StopsAtFault serve_limits Counts Other OtherPart left left' written written'
    at_fault (inl stops) = inl (stops_as serve_limits Counts (InPart true) (OtherPart true) (also_part true) left left' written written' stops)
    at_fault (inr cut) = inr (cut.0, at_limit_as serve_limits Is Other also left left' cut.0 cut.1, cut.2)

-- ---- the table wasn't loaded

-- the statuses then
table_statuses : (status : ℕ) (cause : TxnLoadRefusal) → (status ≡ table_refusal_status cause) ⊎ ((status ≡ 3) ⊎ (status ≡ 5))
    → (status ≡ 4) ⊎ ((status ≡ 9) ⊎ ((status ≡ 10) ⊎ ((status ≡ 3) ⊎ (status ≡ 5))))
table_statuses status cause (inr others) = inr (inr (inr others))
table_statuses status (NotATable lsn) (inl e) = inr (inl e)
table_statuses status (Log log_refusals.DiskFault) (inl e) = inl e
table_statuses status (Log log_refusals.NoMemory) (inl e) = inr (inr (inr (inr e)))
table_statuses status (Log _) (inl e) = inr (inr (inl e))

-- it is none but these
never : (status k : ℕ) → (status ≡ 4) ⊎ ((status ≡ 9) ⊎ ((status ≡ 10) ⊎ ((status ≡ 3) ⊎ (status ≡ 5)))) → status ≡ k
    → (k ≡ 4 → ⊥) → (k ≡ 9 → ⊥) → (k ≡ 10 → ⊥) → (k ≡ 3 → ⊥) → (k ≡ 5 → ⊥) → ⊥
never status k (inl e) is not_4 not_9 not_10 not_3 not_5 = not_4 (sym is ∙ e)
never status k (inr (inl e)) is not_4 not_9 not_10 not_3 not_5 = not_9 (sym is ∙ e)
never status k (inr (inr (inl e))) is not_4 not_9 not_10 not_3 not_5 = not_10 (sym is ∙ e)
never status k (inr (inr (inr (inl e)))) is not_4 not_9 not_10 not_3 not_5 = not_3 (sym is ∙ e)
never status k (inr (inr (inr (inr e)))) is not_4 not_9 not_10 not_3 not_5 = not_5 (sym is ∙ e)

txn_status : (status : ℕ) → (status ≡ 4) ⊎ ((status ≡ 9) ⊎ ((status ≡ 10) ⊎ ((status ≡ 3) ⊎ (status ≡ 5)))) → IsTxnStatus status
txn_status status (inl e) = inr (inl e)
txn_status status (inr (inl e)) = inr (inr (inr (inl e)))
txn_status status (inr (inr (inl e))) = inr (inr (inr (inr e)))
txn_status status (inr (inr (inr (inl e)))) = inl (inr (inr (inl e)))
txn_status status (inr (inr (inr (inr e)))) = inl (inr (inr (inr (inl e))))

-- the status is the cause's
by_cause : (status k : ℕ) (cause : TxnLoadRefusal) → (status ≡ table_refusal_status cause) ⊎ ((status ≡ 3) ⊎ (status ≡ 5)) → status ≡ k
    → (k ≡ 3 → ⊥) → (k ≡ 5 → ⊥) → table_refusal_status cause ≡ k
by_cause status k cause (inl e) is not_3 not_5 = sym e ∙ is
by_cause status k cause (inr (inl e)) is not_3 not_5 = absurd (not_3 (sym is ∙ e))
by_cause status k cause (inr (inr e)) is not_3 not_5 = absurd (not_5 (sym is ∙ e))

fault_cause : (cause : TxnLoadRefusal) → table_refusal_status cause ≡ 4 → cause ≡ Log log_refusals.DiskFault
fault_cause (NotATable lsn) e = absurd (omega (arith, e))
fault_cause (Log log_refusals.DiskFault) e = refl
fault_cause (Log log_refusals.NoMemory) e = absurd (omega (arith, e))
fault_cause (Log _) e = absurd (omega (arith, e))

pub table_refusal_ends : (status : ℕ) (cause : TxnLoadRefusal) (old new : DiskState) (left written written' : Option (List ℕ)) (source sink sink' : ℕ)
    → RefusesTable cause old new → TellsTableRefusal status cause written written' sink sink'
    → EndsTxn status old new left left written written' source source sink sink'
table_refusal_ends status cause old new left written written' source sink sink' refuses tells =
    let statuses = table_statuses status cause tells.statuses in record {
      statuses = txn_status status statuses;
      done = λ e. absurd (none 0 e (λ f. omega (arith, f)) (λ f. omega (arith, f)) (λ f. omega (arith, f)) (λ f. omega (arith, f)) (λ f. omega (arith, f)));
      source_fault = λ e. absurd (none 2 e (λ f. omega (arith, f)) (λ f. omega (arith, f)) (λ f. omega (arith, f)) (λ f. omega (arith, f)) (λ f. omega (arith, f)));
      source_fault_answers = λ e.
          absurd (none 2 e (λ f. omega (arith, f)) (λ f. omega (arith, f)) (λ f. omega (arith, f)) (λ f. omega (arith, f)) (λ f. omega (arith, f)));
      sink_fault = tells.sink_fault;
      sink_fault_front = λ e.
          let front = tells.sink_fault_front e in
          inr (inr (table_refusal_line cause, record { cause = cause; other = front.0; refuses = refuses; line = refl }, front.1));
      disk_fault = λ e.
          let is = fault_cause cause (caused 4 e (λ f. omega (arith, f)) (λ f. omega (arith, f))) in
          inr (subst (λ (given : TxnLoadRefusal). RefusesTable given old new) is refuses);
      disk_fault_line = λ e.
          let is = fault_cause cause (caused 4 e (λ f. omega (arith, f)) (λ f. omega (arith, f))) in
          let line = said 4 e (λ f. omega (arith, f)) (λ f. omega (arith, f)) in rw is at line;
      no_memory = λ e. inr (inl (record { cause = cause; refuses = refuses; unread = refl; silence = tells.no_memory_silence e }));
      no_log = λ e. absurd (none 6 e (λ f. omega (arith, f)) (λ f. omega (arith, f)) (λ f. omega (arith, f)) (λ f. omega (arith, f)) (λ f. omega (arith, f)));
      too_long = λ e. absurd (none 7 e (λ f. omega (arith, f)) (λ f. omega (arith, f)) (λ f. omega (arith, f)) (λ f. omega (arith, f)) (λ f. omega (arith, f)));
      no_table = λ e. written_as 9 e (λ f. omega (arith, f)) (λ f. omega (arith, f));
      refused = λ e. written_as 10 e (λ f. omega (arith, f)) (λ f. omega (arith, f));
      unread = λ e. (refl, refl);
      source_count = omega arith;
      sink_count = tells.sink_count;
    }
  where
    none : (k : ℕ) → status ≡ k → (k ≡ 4 → ⊥) → (k ≡ 9 → ⊥) → (k ≡ 10 → ⊥) → (k ≡ 3 → ⊥) → (k ≡ 5 → ⊥) → ⊥
    none k = never status k (table_statuses status cause tells.statuses)

    caused : (k : ℕ) → status ≡ k → (k ≡ 3 → ⊥) → (k ≡ 5 → ⊥) → table_refusal_status cause ≡ k
    caused k = by_cause status k cause tells.statuses

    said : (k : ℕ) → status ≡ k → (k ≡ 3 → ⊥) → (k ≡ 5 → ⊥) → Appends written written' (table_refusal_line cause)
    said k is not_3 not_5 = tells.line (λ e. not_3 (sym is ∙ e)) (λ e. not_5 (sym is ∙ e))

    written_as : (k : ℕ) → status ≡ k → (k ≡ 3 → ⊥) → (k ≡ 5 → ⊥) → Writes (IsTableRefusalText k old new) written written'
    written_as k is not_3 not_5 =
        (table_refusal_line cause, record { cause = cause; by = caused k is not_3 not_5; refuses = refuses; line = refl }, said k is not_3 not_5)

-- ---- the log wasn't opened

pub log_refusal_ends : (status : ℕ) (refusal : LoadRefusal) (old new : DiskState) (left written written' : Option (List ℕ)) (source sink sink' : ℕ)
    → RefusesLog refusal old new → TellsOpening refusal → TellsRefusal status refusal written written' sink sink'
    → EndsTxn status old new left left written written' source source sink sink'
log_refusal_ends status refusal old new left written written' source sink sink' refuses place tells =
    let statuses = refused_statuses status refusal tells.statuses in record {
      statuses = log_status statuses;
      done = λ e. absurd (not_answered status 0 statuses e (inl refl));
      source_fault = λ e. absurd (not_answered status 2 statuses e (inr (inl refl)));
      source_fault_answers = λ e. absurd (not_answered status 2 statuses e (inr (inl refl)));
      sink_fault = tells.sink_fault;
      sink_fault_front = λ e. let front = tells.sink_fault_front e in inr (inl (refusal_line refusal, refusal_text refusal old new refuses front.0, front.1));
      disk_fault = λ e. inl (subst (λ (given : LoadRefusal). RefusesLog given old new) (fault_by status refusal tells.statuses e) refuses);
      disk_fault_line = λ e. let line = tells.line (λ f. omega (arith, e, f)) (λ f. omega (arith, e, f)) in rw (fault_by status refusal tells.statuses e) at line;
      no_memory = λ e. inl (record { same = refuses.same; time = refuses.time; unread = refl; silence = tells.no_memory_silence e });
      no_log = λ e.
          let is = no_log_by status refusal tells.statuses e in
          let line = tells.line (λ f. omega (arith, e, f)) (λ f. omega (arith, e, f)) in
          (refusal_line refusal, record { no_log = record { refusal = refusal; no_log = is; refuses = refuses; line = no_log_line refusal is }; place = place }, line);
      too_long = λ e. absurd (not_answered status 7 statuses e (inr (inr refl)));
      no_table = λ e. absurd (other statuses 9 e (λ f. omega (arith, f)) (λ f. omega (arith, f)) (λ f. omega (arith, f)) (λ f. omega (arith, f)));
      refused = λ e. absurd (other statuses 10 e (λ f. omega (arith, f)) (λ f. omega (arith, f)) (λ f. omega (arith, f)) (λ f. omega (arith, f)));
      unread = λ e. (refl, refl);
      source_count = omega arith;
      sink_count = tells.sink_count;
    }
  where
    log_status : (status ≡ 4) ⊎ ((status ≡ 6) ⊎ ((status ≡ 3) ⊎ (status ≡ 5))) → IsTxnStatus status
    log_status (inl e) = inr (inl e)
    log_status (inr (inl e)) = inr (inr (inl e))
    log_status (inr (inr (inl e))) = inl (inr (inr (inl e)))
    log_status (inr (inr (inr e))) = inl (inr (inr (inr (inl e))))

    other : (status ≡ 4) ⊎ ((status ≡ 6) ⊎ ((status ≡ 3) ⊎ (status ≡ 5))) → (k : ℕ) → status ≡ k → (k ≡ 4 → ⊥) → (k ≡ 6 → ⊥) → (k ≡ 3 → ⊥) → (k ≡ 5 → ⊥) → ⊥
    other (inl e) k is not_4 not_6 not_3 not_5 = not_4 (sym is ∙ e)
    other (inr (inl e)) k is not_4 not_6 not_3 not_5 = not_6 (sym is ∙ e)
    other (inr (inr (inl e))) k is not_4 not_6 not_3 not_5 = not_3 (sym is ∙ e)
    other (inr (inr (inr e))) k is not_4 not_6 not_3 not_5 = not_5 (sym is ∙ e)

-- ---- how it is told

-- the line was written, unless the sink failed
pub told_table_line : (result status : ℕ) (cause : TxnLoadRefusal) (text : List ℕ) (written written' : Option (List ℕ)) (sink sink' : ℕ)
    → text ≡ table_refusal_line cause → status ≡ table_refusal_status cause → (status ≢ 3) × (status ≢ 5) → (result ≡ status) ⊎ (result ≡ 3)
    → (result ≡ status → Appends written written' text) → (result ≡ 3 → AppendsFront written written' text) → (result ≡ 3 → ports.Rises sink sink') → sink ≤ sink'
    → TellsTableRefusal result cause written written' sink sink'
told_table_line result status cause text written written' sink sink' line is other ends whole front rose later = record {
  statuses = statuses ends;
  line = λ no_fault no_memory. subst (Appends written written') line (whole (done ends no_fault));
  sink_fault = rose;
  sink_fault_front = λ e. (λ memory. other.1 (is ∙ ap table_refusal_status memory), subst (AppendsFront written written') line (front e));
  no_memory_silence = λ e. absurd (never_memory ends e);
  sink_count = later;
}
  where
    statuses : (result ≡ status) ⊎ (result ≡ 3) → (result ≡ table_refusal_status cause) ⊎ ((result ≡ 3) ⊎ (result ≡ 5))
    statuses (inl e) = inl (e ∙ is)
    statuses (inr e) = inr (inl e)

    done : (result ≡ status) ⊎ (result ≡ 3) → result ≢ 3 → result ≡ status
    done (inl e) no_fault = e
    done (inr e) no_fault = absurd (no_fault e)

    never_memory : (result ≡ status) ⊎ (result ≡ 3) → result ≡ 5 → ⊥
    never_memory (inl e) f = other.1 (sym e ∙ f)
    never_memory (inr e) f = omega (arith, e, f)

-- memory ran out
pub told_table_nothing : (cause : TxnLoadRefusal) (written : Option (List ℕ)) (sink : ℕ) → TellsTableRefusal 5 cause written written sink sink
told_table_nothing cause written sink = record {
  statuses = inr (inr refl);
  line = λ no_fault no_memory. absurd (no_memory refl);
  sink_fault = λ e. absurd (omega (arith, e));
  sink_fault_front = λ e. absurd (omega (arith, e));
  no_memory_silence = λ e. Appends-nil written;
  sink_count = omega arith;
}
