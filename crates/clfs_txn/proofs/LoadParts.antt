-- What the parts of loading make of each other: how the plan goes on, and what is known of the log.
use Rattle.clfs_txn.proofs.Words.{◌≡◌, ◌≢◌, ℕ, ◌<◌, Bool, true, false, refl, sym, subst, ap, ◌∙◌, inl, inr, List, [], ◌∷◌, length, Option, Some, Result, Ok}
use Rattle.clfs_txn.proofs.Words.{Err, IfOk, IsErrOf, OnOk, ◌==◌, option_map_or, cases_Bool, DiskState, null_lsn, Records, Mode, Forward, LogEntry, Call}
use Rattle.clfs_txn.proofs.Words.{LogInfo, Refusal, Fine, Damage, Reply, Area, State, flushed, happened_of, happened_of_refusal, live_at, area_of, Step}
use Rattle.clfs_txn.proofs.Words.{IsReply, reads_disk, IsValid, StillGives, Steps, WritesDisk, TxnRecord, TxnLoadRefusal, Log, NotATable, checkpoint_bytes}
use Rattle.clfs_txn.proofs.Words.{Loaded, gives_up, in_table_area, load_new, memory_of, read_records, Plan, ends, Memory, table_name, LeadsTo, GoesForward}
use Rattle.clfs_txn.proofs.Words.{or_all_read, to_come, unread, IsAt}
use Rattle.clfs_model.specs.declared.call.Call.TheVariants as log_calls
use Rattle.clfs_model.specs.declared.refusal.Refusal.TheVariants as log_refusals
use Rattle.clfs_model.specs.declared.reply.Reply.TheVariants as log_replies
use Rattle.clfs_model.specs.Reading.{chain}
use Rattle.clfs_cells.specs.declared.checkpoint.Checkpoint.{Checkpoint}
use Rattle.clfs_cells.specs.Layout.{blank_checkpoint, checkpoint_of}
use Rattle.clfs_cells.specs.Loading.{load_above, load_stream, load_table, replayed}
use Rattle.clfs_txn.specs.Calls.{checkpoint_of as checkpoint_of_memory}
use Rattle.clfs_txn.specs.Loading.{or_refused}
use Rattle.clfs_txn.proofs.Cursors.{area_read}
use Rattle.clfs_txn.proofs.Leads.{leads_call, leads_on, leads_to}
use Rattle.clfs_txn.proofs.LoadSteps.{area_made, area_refused, few_come, goes_forward}
use Rattle.clfs_txn.proofs.Quiet.{QuietLaws}
use Rattle.clfs_txn.proofs.Written.{where_not, where_so, writes_as}

-- ---- calls of the log

-- a call that reads nothing from the disk is answered no damage
pub no_damage : {A : Type 0} (told : Bool) (s : State) (client : ℕ) (call : Call) (answer : A → Reply) (result : Result A Refusal) (t : State) (container offset at : ℕ)
    → reads_disk call ≡ false → Steps told s client call answer result t → IsErrOf result (log_refusals.Damaged container offset at) → ⊥
unfolding Step
no_damage {A} told s client call answer result t container offset at quiet steps is =
    let step : Step told s client call Damage (log_replies.Refused (log_refusals.Damaged container offset at)) t
    = subst (λ (r : Result A Refusal). Steps told s client call answer r t) is steps in
    elim (cases_Bool s.broken) [
      | inl broken ↦ let other = (where_so s.broken _ _ broken step).0 in absurd (cc other)
      | inr whole ↦ elim (where_not s.broken _ _ whole step) [
        | inl lacks ↦ let other = lacks.1.0 in absurd (cc other)
        | inr goes ↦ let read = goes.1.0 in absurd (cc (read, quiet))
      ]
    ]

-- a log that answered isn't broken, nor was it
pub answered_whole : {A : Type 0} → QuietLaws → (told : Bool) (s : State) (client : ℕ) (call : Call) (answer : A → Reply) (result : Result A Refusal) (t : State)
    → ((value : A) → answer value ≢ log_replies.Refused log_refusals.Broken) → ((value : A) → happened_of (answer value) ≡ Fine)
    → Steps told s client call answer result t → OnOk result (t.broken ≡ false)
answered_whole laws told s client call answer (Err refusal) t other fine step = tt
answered_whole laws told s client call answer (Ok value) t other fine step = elim (cases_Bool s.broken) [
  | inl broken ↦ absurd (other value (laws.broken told s client call (happened_of (answer value)) (answer value) t broken step).0)
  | inr whole ↦ (laws.unbroken told s client call (happened_of (answer value)) (answer value) t whole (fine value) step).0
]

pub was_whole : {A : Type 0} → QuietLaws → (told : Bool) (s : State) (client : ℕ) (call : Call) (answer : A → Reply) (result : Result A Refusal) (t : State)
    → ((value : A) → answer value ≢ log_replies.Refused log_refusals.Broken) → Steps told s client call answer result t → OnOk result (s.broken ≡ false)
was_whole laws told s client call answer (Err refusal) t other step = tt
was_whole laws told s client call answer (Ok value) t other step = elim (cases_Bool s.broken) [
  | inl broken ↦ absurd (other value (laws.broken told s client call (happened_of (answer value)) (answer value) t broken step).0)
  | inr whole ↦ whole
]

pub on_ok : {A E : Type 0} (result : Result A E) (P : Type 0) → P → OnOk result P
on_ok (Ok value) P is = is
on_ok (Err error) P is = tt

-- ---- the area

pub area_then : (told : Bool) (client : ℕ) (log mid t : State) (rest : ℕ → ℕ → Plan Loaded) (stream : ℕ) (result : Result Memory Refusal)
    → Step told log client (log_calls.OpenStream table_name) Fine (log_replies.Stream stream) mid
    → Steps told mid client (log_calls.CreateArea stream 260 2) (λ (m : Memory). log_replies.Area m.area) result t
    → IfOk result (λ m. m ≡ unread client m.area stream)
    → LeadsTo Loaded told client log (in_table_area rest) t (or_refused rest result)
area_then told client log mid t rest stream (Ok m) first second is =
    leads_to told client log t _ _ _ (ap (λ (x : Memory). rest m.area x.stream) (sym is)) (area_made told client log mid t rest stream m.area first second)
area_then told client log mid t rest stream (Err refusal) first second is = area_refused told client log mid t rest stream refusal first second

pub with_its_stream : (client stream : ℕ) (result : Result Memory Refusal) → IfOk result (λ m. m ≡ unread client m.area stream)
    → IfOk result (λ m. m ≡ unread client m.area m.stream)
with_its_stream client stream (Ok m) is = is ∙ ap (λ (x : Memory). unread client m.area x.stream) (sym is)
with_its_stream client stream (Err refusal) is = tt

-- a store's area is given up, by another name
pub given_up : (told : Bool) (client : ℕ) (log t : State) (plan : Plan Loaded) (m n : Memory) (cause : TxnLoadRefusal) → n ≡ m
    → LeadsTo Loaded told client log plan t (gives_up m.area cause) → LeadsTo Loaded told client log plan t (gives_up n.area cause)
given_up told client log t plan m n cause same leads = leads_to told client log t plan _ _ (ap (λ (x : Memory). gives_up x.area cause) (sym same)) leads

-- ---- the records

pub table_set : (m old : Memory) (c table : Checkpoint) (records : List TxnRecord) → m ≡ old → old.transactions ≡ [] → table ≡ replayed c records
    → record m { cells = table.cells; last = table.last } ≡ memory_of old.client old.area old.stream c records
table_set m old c table records same none is =
    ap (λ (x : Memory). record x { cells = table.cells; last = table.last }) same
    ∙ ap (λ l. record old { cells = table.cells; transactions = l; last = table.last }) none
    ∙ ap (λ (x : Checkpoint). record old { cells = x.cells; transactions = []; last = x.last }) is

pub records_read : (told : Bool) (log mid t : State) (m n : Memory) (cursor more : ℕ) (c : Checkpoint) (records : List TxnRecord) (done : Memory) → n ≡ m
    → LeadsTo Loaded told m.client log (read_records more m.area cursor [] (memory_of m.client m.area m.stream c)) mid
    (or_all_read m.area cursor records (memory_of m.client m.area m.stream c) (Ok tt))
    → (reply : Reply) × Step told mid n.client (log_calls.EndRead n.area cursor) (happened_of reply) reply t
    → done ≡ memory_of m.client m.area m.stream c records
    → LeadsTo Loaded told m.client log (read_records more m.area cursor [] (memory_of m.client m.area m.stream c)) t (ends (Ok done))
records_read told log mid t m n cursor more c records done same first ended is =
    let step = subst (λ (x : Memory). Step told mid x.client (log_calls.EndRead x.area cursor) (happened_of ended.0) ended.0 t) same ended.1 in
    leads_to told m.client log t _ (ends (Ok (memory_of m.client m.area m.stream c records))) _ (ap (λ (x : Memory). ends (Ok x)) (sym is))
    (leads_on told m.client log mid t _ _ _ first (leads_call told m.client mid _ _ ended.0 t step))

-- ---- the records above a restart area

pub at_forward : (s : State) (client number cursor lsn : ℕ) → IsAt s client number cursor Forward lsn → GoesForward s client number cursor
at_forward s client number cursor lsn at = goes_forward s client number cursor _ (record {
  area = at.area;
  area_there = at.there;
  at = record { number = cursor; kind = Records Forward; last = lsn };
  cursor_there = at.on;
  same_kind = refl;
  gives = refl;
})

abbrev pub FirstComes : Type 0
FirstComes = (told : Bool) (s t : State) (client number lsn : ℕ) (mode : Mode) (area : Area) (cursor : ℕ) (read : LogEntry)
    → IsValid s → area_of s client number ≡ Some area → Step told s client (log_calls.Read number lsn mode) Fine (log_replies.Found cursor read) t
    → (entry : LogEntry) × (rest : List LogEntry) × (chain s area.stream lsn mode ≡ entry ∷ rest)
    × IsReply told (flushed s) (log_replies.Found cursor entry) (log_replies.Found cursor read) × StillGives t client number cursor (Records mode) rest

pub above_few : FirstComes → (told : Bool) (s t : State) (client number lsn cursor : ℕ) (read : LogEntry) → IsValid s → s.broken ≡ false
    → Step told s client (log_calls.Read number lsn Forward) Fine (log_replies.Found cursor read) t → length (to_come t client number cursor) < length s.records
above_few first told s t client number lsn cursor read valid whole step =
    let place = area_read told s client number lsn Forward Fine cursor read t whole step in
    let area : Area = place.0 in
    let found = first told s t client number lsn Forward area cursor read valid place.1 step in
    few_come s t client number cursor area.stream (live_at s area.stream lsn) found.0 found.1 found.2 found.4

pub above_read : (told same : Bool) (log mid t : State) (m n : Memory) (most cursor lsn : ℕ) (c : Checkpoint) (entry : LogEntry) (done : Plan Loaded)
    → same ≡ told → n ≡ m → Step told log m.client (log_calls.Read m.area lsn Forward) Fine (log_replies.Found cursor entry) mid
    → LeadsTo Loaded same n.client mid (read_records most n.area cursor [] (memory_of n.client n.area n.stream c)) t done
    → LeadsTo Loaded told m.client log (load_above most m.client m.area m.stream c lsn) t done
above_read told same log mid t m n most cursor lsn c entry done p q first second =
    leads_on told m.client log mid t _ _ _ (leads_call told m.client log _ _ (log_replies.Found cursor entry) mid first)
    (subst (λ (x : Memory). LeadsTo Loaded told x.client mid (read_records most x.area cursor [] (memory_of x.client x.area x.stream c)) t done) q
    (subst (λ (b : Bool). LeadsTo Loaded b n.client mid (read_records most n.area cursor [] (memory_of n.client n.area n.stream c)) t done) p second))

-- ---- the newest restart area

-- what is done with its data
abbrev pub by_data : ℕ → Memory → LogEntry → Option Checkpoint → Plan Loaded
by_data most m entry found = option_map_or (λ c. load_above most m.client m.area m.stream c entry.lsn) found (gives_up m.area (NotATable entry.lsn))

pub restart_read : (told : Bool) (log mid t : State) (m n : Memory) (most cursor : ℕ) (entry : LogEntry) (found : Option Checkpoint) → n ≡ m
    → Step told log m.client (log_calls.ReadRestart m.area) Fine (log_replies.Found cursor entry) mid
    → (reply : Reply) × Step told mid n.client (log_calls.EndRead n.area cursor) (happened_of reply) reply t → found ≡ checkpoint_of entry.bytes
    → LeadsTo Loaded told m.client log (load_table most m.client m.area m.stream) t (by_data most m entry found)
restart_read told log mid t m n most cursor entry found same first ended is =
    let step = subst (λ (x : Memory). Step told mid x.client (log_calls.EndRead x.area cursor) (happened_of ended.0) ended.0 t) same ended.1 in
    leads_to told m.client log t _ (by_data most m entry (checkpoint_of entry.bytes)) _ (ap (λ (o : Option Checkpoint). by_data most m entry o) (sym is))
    (leads_on told m.client log mid t _ _ _ (leads_call told m.client log _ _ (log_replies.Found cursor entry) mid first)
    (leads_call told m.client mid _ _ ended.0 t step))

pub table_read : (told same : Bool) (log mid t : State) (m n : Memory) (most less : ℕ) (entry : LogEntry) (c : Checkpoint) (plan done : Plan Loaded)
    → same ≡ told → n ≡ m → less ≡ most → LeadsTo Loaded told m.client log plan mid (by_data most m entry (Some c))
    → LeadsTo Loaded same n.client mid (load_above less n.client n.area n.stream c entry.lsn) t done
    → LeadsTo Loaded told m.client log plan t done
table_read told same log mid t m n most less entry c plan done p q r first second =
    leads_on told m.client log mid t _ _ _ first
    (subst (λ (k : ℕ). LeadsTo Loaded told m.client mid (load_above k m.client m.area m.stream c entry.lsn) t done) r
    (subst (λ (x : Memory). LeadsTo Loaded told x.client mid (load_above less x.client x.area x.stream c entry.lsn) t done) q
    (subst (λ (b : Bool). LeadsTo Loaded b n.client mid (load_above less n.client n.area n.stream c entry.lsn) t done) p second)))

-- ---- what the stream is like

pub is_new : (most client area stream : ℕ) (info : LogInfo) → (info.last == null_lsn) ≡ true → load_stream most client area stream info ≡ load_new client area stream
is_new most client area stream info new = rw new refl

pub is_strange : (most client area stream : ℕ) (info : LogInfo) → (info.last == null_lsn) ≡ false → (info.restart == null_lsn) ≡ true
    → load_stream most client area stream info ≡ gives_up area (NotATable info.last)
is_strange most client area stream info some none = rw (some, none) refl

pub is_table : (most client area stream : ℕ) (info : LogInfo) → (info.last == null_lsn) ≡ false → (info.restart == null_lsn) ≡ false
    → load_stream most client area stream info ≡ load_table most client area stream
is_table most client area stream info some there = rw (some, there) refl

-- ---- the first restart area

pub first_data : (m : Memory) → m ≡ unread m.client m.area m.stream → checkpoint_bytes (checkpoint_of_memory m) ≡ checkpoint_bytes blank_checkpoint
first_data m is = ap (λ (x : Memory). checkpoint_bytes (checkpoint_of_memory x)) is

first_step : (told : Bool) (log t : State) (m : Memory) (reply : Reply) → m ≡ unread m.client m.area m.stream
    → Step told log m.client (log_calls.WriteRestart m.area (checkpoint_bytes (checkpoint_of_memory m)) null_lsn false) (happened_of reply) reply t
    → Step told log m.client (log_calls.WriteRestart m.area (checkpoint_bytes blank_checkpoint) null_lsn false) (happened_of reply) reply t
first_step told log t m reply is step =
    subst (λ (l : List ℕ). Step told log m.client (log_calls.WriteRestart m.area l null_lsn false) (happened_of reply) reply t) (first_data m is) step

pub first_written : (told : Bool) (log t : State) (m n : Memory) (lsn : ℕ) → m ≡ unread m.client m.area m.stream → n ≡ m
    → Step told log m.client (log_calls.WriteRestart m.area (checkpoint_bytes (checkpoint_of_memory m)) null_lsn false) Fine (log_replies.Placed lsn) t
    → LeadsTo Loaded told m.client log (load_new m.client m.area m.stream) t (ends (Ok n))
first_written told log t m n lsn is same step =
    leads_to told m.client log t _ _ _ (ap (λ (x : Memory). ends (Ok x)) (sym (same ∙ is)))
    (leads_call told m.client log _ _ (log_replies.Placed lsn) t (first_step told log t m (log_replies.Placed lsn) is step))

pub first_refused : (told : Bool) (log t : State) (m n : Memory) (refusal : Refusal) → m ≡ unread m.client m.area m.stream → n ≡ m
    → Step told log m.client (log_calls.WriteRestart m.area (checkpoint_bytes (checkpoint_of_memory m)) null_lsn false) (happened_of_refusal refusal) (log_replies.Refused refusal) t
    → LeadsTo Loaded told m.client log (load_new m.client m.area m.stream) t (gives_up n.area (Log refusal))
first_refused told log t m n refusal is same step =
    given_up told m.client log t _ m n (Log refusal) same
    (leads_call told m.client log _ _ (log_replies.Refused refusal) t (first_step told log t m (log_replies.Refused refusal) is step))

-- ---- the same by other names

pub ended_at : (told : Bool) (mid t u : State) (client area cursor : ℕ) → u ≡ t → (reply : Reply) × Step told mid client (log_calls.EndRead area cursor) (happened_of reply) reply t
    → (reply : Reply) × Step told mid client (log_calls.EndRead area cursor) (happened_of reply) reply u
ended_at told mid t u client area cursor same ended =
    (ended.0, subst (λ (x : State). Step told mid client (log_calls.EndRead area cursor) (happened_of ended.0) ended.0 x) (sym same) ended.1)

-- the log refused so what was refused so
pub refused_as : {A B : Type 0} (refusal other : Refusal) → IsErrOf {T = A} (Err (Log refusal)) (Log other) → IsErrOf {T = B} (Err refusal) other
refused_as {A} {B} refusal other is =
    let one : Log refusal ≡ Log other = cc is in let same : refusal ≡ other = cc one in ap (λ (r : Refusal). Err r) same

pub of_load : {A B : Type 0} (old new : DiskState) (refusal : Refusal) → WritesDisk (IsErrOf {T = A} (Err refusal) log_refusals.DiskFault) old new
    → WritesDisk (IsErrOf {T = B} (Err (Log refusal)) (Log log_refusals.DiskFault)) old new
of_load {A} {B} old new refusal is = writes_as _ _ old new
    (λ f. let same : refusal ≡ log_refusals.DiskFault = cc f in ap (λ (r : Refusal). Err (Log r)) same)
    (λ f. refused_as {A = B} {B = A} refusal log_refusals.DiskFault f) is

pub from_same : (fault : Type 0) (a b c : DiskState) → b ≡ a → WritesDisk fault b c → WritesDisk fault a c
from_same fault a b c same writes = subst (λ (x : DiskState). WritesDisk fault x c) same writes
