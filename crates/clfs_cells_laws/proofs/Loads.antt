-- What loading comes to.
use Rattle.clfs_cells_laws.proofs.Words.{◌≡◌, ℕ, ◌<◌, ◌≤◌, Bool, true, false, refl, sym, subst, ap, ◌∙◌, inl, inr, arith, List, [], ◌∷◌, length, Option, Some}
use Rattle.clfs_cells_laws.proofs.Words.{None, Ok, Err, ◌==◌, ◌&&◌, filter, find, if◌then◌else◌, is_none, nat_lt, AllByRecursion, last_or, option_map}
use Rattle.clfs_cells_laws.proofs.Words.{option_map_or, cases_Bool, le-ltb, recursion_from_All, null_lsn, LogEntry, Call, Refusal, Fine, Reply, Area, State}
use Rattle.clfs_cells_laws.proofs.Words.{Outcome, answer, outcome, restarted, unused_area, flushed, is_live, live, lsn_or_null, refusal, refused_if, need_of}
use Rattle.clfs_cells_laws.proofs.Words.{next_lsn, grown, areas_of, base_of, stream_at, IsReply, with_broken, IsRecord, IsValid, TxnLoadRefusal, Log}
use Rattle.clfs_cells_laws.proofs.Words.{NotATable, blank_cells, blank_checkpoint, checkpoint_bytes, first_restart, load_refusal, table_area, table_stream}
use Rattle.clfs_cells_laws.proofs.Words.{with_stream, Loaded, LoadStep, load_area, Plan, ends, CarriesOut, on_area, on_stream, table, table_name, table_in}
use Rattle.clfs_cells_laws.proofs.Words.{IsLoaded, IsNotLoaded}
use Rattle.clfs_lsn.specs.Size.{IsShape, longest}
use Rattle.clfs_lsn.specs.declared.shape.Shape.{Shape}
use Rattle.clfs_model.specs.declared.call.Call.TheVariants as calls
use Rattle.clfs_model.specs.declared.refusal.Refusal.TheVariants as refusals
use Rattle.clfs_model.specs.declared.reply.Reply.TheVariants as replies
use Rattle.clfs_model.specs.Refusals.{open_refusal}
use Rattle.clfs_cells.specs.Loaded.{with_table_area}
use Rattle.clfs_cells.specs.Plans.{calls as asks}
use Rattle.clfs_cells_laws.proofs.Above.{Rises, filter_rises, kept, rises}
use Rattle.clfs_cells_laws.proofs.Along.{fine_step}
use Rattle.clfs_cells_laws.proofs.FirstRestart.{Restarted, put_record, restarts, table_by}
use Rattle.clfs_cells_laws.proofs.Ground.{Ground, at, cells_in, last_in, no_table_in, own_area}
use Rattle.clfs_cells_laws.proofs.LoadArea.{cause_from, loads_area}
use Rattle.clfs_cells_laws.proofs.Opening.{Opens, opens, stream_is_there}
use Rattle.clfs_cells_laws.proofs.OwnArea.{find_own, with_own}
use Rattle.clfs_cells_laws.proofs.OwnCalls.{Laws, added_above, base_within, flushed_within}
use Rattle.clfs_cells_laws.proofs.Ways.{Way, broken_way, called, came, lacked, refused, faulted, damaged, by_reply}

-- what loading comes to
abbrev pub Comes_to : Bool → State → ℕ → Loaded → State → Type 0
Comes_to told log client (Ok memory) t = IsLoaded told log client memory t
Comes_to told log client (Err cause) t = IsNotLoaded told log client cause t

by : (told : Bool) (log : State) (client : ℕ) (r s : Loaded) (t u : State) → r ≡ s → t ≡ u → Comes_to told log client s u → Comes_to told log client r t
by told log client r s t u p q is =
    subst (λ (x : Loaded). Comes_to told log client x t) (sym p) (subst (λ (x : State). Comes_to told log client s x) (sym q) is)

pub above_null : (log : State) (p : LogEntry → Bool) (records : List LogEntry) → AllByRecursion (IsRecord log) records
    → AllByRecursion (λ (e : LogEntry). 0 < e.lsn) (filter p records)
above_null log p records all = kept (λ (e : LogEntry). 0 < e.lsn) p records (each records all)
  where
    each : (entries : List LogEntry) → AllByRecursion (IsRecord log) entries → AllByRecursion (λ (e : LogEntry). 0 < e.lsn) entries
    each [] are = tt
    each (e ∷ entries) are = (are.0.named, each entries are.1)

-- a restart area of a table fits any block
fits : (shape : Shape) → IsShape shape → nat_lt (longest shape) 260 ≡ false
fits shape is = le-ltb (longest shape) 260 (let some = is.some_sectors in omega (arith, some))

-- ---- the log with the area

pub table_of_base : (log : State) → Opens log → table (with_stream log) ≡ table log
table_of_base log o =
    ap (λ (x : Option ℕ). option_map_or (table_in (with_stream log)) x blank_cells) o.numbered
    ∙ ap cells_in o.same_live ∙ sym o.table_is

-- why loading is refused, by what is read of the log with the stream
abbrev by_records : State → ℕ → List LogEntry → Option TxnLoadRefusal
by_records log client xs =
    if lsn_or_null (last_or None xs) == null_lsn
    then option_map Log (refusal (with_table_area log client) client (first_restart (table_area log client).number))
    else option_map NotATable (no_table_in xs)

refusal_of : (log : State) (client : ℕ) → log.broken ≡ false → open_refusal log table_name ≡ None → Opens log
    → load_refusal log client ≡ by_records log client (live (with_stream log) (table_stream log))
refusal_of log client whole passes o =
    ap (λ (b : Bool). if b then Some (Log refusals.Broken)
    else option_map_or (λ (given : Refusal). Some (Log given)) (open_refusal log table_name) (by_records log client (live log (table_stream log)))) whole
    ∙ ap (λ (x : Option Refusal). option_map_or (λ (given : Refusal). Some (Log given)) x (by_records log client (live log (table_stream log)))) passes
    ∙ ap (by_records log client) (sym o.same_live)

-- the first restart area isn't below its stream's base
first_is_high : Laws → (base : State) (client number stream : ℕ) → IsValid (with_own base (own_area client number stream [])) → base.broken ≡ false → areas_of base client ≡ []
    → refusal (with_own base (own_area client number stream [])) client (first_restart number) ≡ None
    → base_of base stream ≤ next_lsn (grown (with_own base (own_area client number stream [])) (need_of false 260 [])) 260
first_is_high laws base client number stream valid whole none free =
    let area : Area = own_area client number stream [] in
    let l : State = with_own base area in
    let bytes : List ℕ = checkpoint_bytes blank_checkpoint in
    let c : Call = first_restart number in
    let u : State = (answer l client c).state in
    let at : u ≡ restarted l area bytes null_lsn false
    = ap (λ (o : Option Area). (option_map_or (λ (a : Area). outcome (replies.Placed (next_lsn l 260)) (restarted l a (checkpoint_bytes blank_checkpoint) null_lsn false)) o
    (outcome (replies.Refused refusals.NoSuchArea) l)).state) (find_own base area none) in
    let made = subst (Restarted l area bytes) (sym at) (restarts l area bytes) in
    let above = added_above laws true l client c Fine (answer l client c).reply u (put_record l area bytes) valid (fine_step l client c whole free) made.records in
    let low = base_within l stream valid in
    let high = flushed_within l valid in
    omega (arith, low, high, above)

-- what loading stands on once the client has its area
ground : Laws → (told : Bool) (log : State) (client : ℕ) → IsValid log → log.broken ≡ false → areas_of log client ≡ [] → open_refusal log table_name ≡ None → Opens log
    → is_none (stream_at (with_stream log) (table_stream log)) ≡ false
    → IsValid (with_own (with_stream log) (own_area client (unused_area (with_stream log) client) (table_stream log) [])) → Ground
ground laws told log client valid whole none passes o there valid_at =
    let base : State = with_stream log in
    let stream : ℕ = table_stream log in
    let all = recursion_from_All (IsRecord log) log.records valid.records.records in
    let p : LogEntry → Bool = λ e. (e.stream == stream) && is_live log e in
    record {
      told = told;
      log = log;
      base = base;
      client = client;
      number = unused_area base client;
      stream = stream;
      log_whole = whole;
      whole = o.broken ∙ whole;
      none = ap (filter (λ (area : Area). area.client == client)) o.areas ∙ none;
      stream_there = there;
      numbered = o.numbered;
      named = subst (AllByRecursion (λ (e : LogEntry). 0 < e.lsn)) (sym o.same_live) (above_null log p log.records all);
      rising = subst Rises (sym o.same_live) (filter_rises p log.records (rises log.records valid.records.rising));
      there = λ lsn entry is. ap (find (λ (e : LogEntry). e.lsn == lsn)) (sym o.same_live) ∙ is;
      table_is = o.table_is ∙ ap cells_in (sym o.same_live);
      table_same = λ t records streams. table_by t base records streams ∙ table_of_base log o;
      last_is = ap last_in (sym o.same_live);
      first_area = refl;
      first_high = λ free. first_is_high laws base client (unused_area base client) stream valid_at (o.broken ∙ whole)
          (ap (filter (λ (area : Area). area.client == client)) o.areas ∙ none) free;
      refusal_is = refusal_of log client whole passes o;
    }

-- ---- the area is made

pub area_as : (told : Bool) (stable number : ℕ) (reply : Reply) → IsReply told stable (replies.Area number) reply → reply ≡ replies.Area number
area_as true stable number reply is = is
area_as false stable number reply is = is

pub stream_as : (told : Bool) (stable number : ℕ) (reply : Reply) → IsReply told stable (replies.Stream number) reply → reply ≡ replies.Stream number
stream_as true stable number reply is = is
stream_as false stable number reply is = is

-- what an area of the table's size may be refused for
abbrev area_refusal : Bool → Bool → Bool → ℕ → ℕ → Option Refusal
area_refusal missing long many most count =
    refused_if missing refusals.NoSuchStream (option_map_or (λ len. Some (refusals.RecordTooLong len most)) (if long then Some 260 else None)
    (refused_if many (refusals.AreaLimit count) None))

create_is : (log : State) (client : ℕ) → IsValid log → areas_of log client ≡ [] → Opens log
    → refusal (with_stream log) client (calls.CreateArea (table_stream log) 260 2)
    ≡ refused_if (is_none (stream_at (with_stream log) (table_stream log))) refusals.NoSuchStream None
create_is log client valid none o =
    let base : State = with_stream log in
    let short : nat_lt (longest base.shape) 260 ≡ false = ap (λ (s : Shape). nat_lt (longest s) 260) o.shape ∙ fits log.shape valid.ranges.shape in
    let no_areas : areas_of base client ≡ [] = ap (filter (λ (area : Area). area.client == client)) o.areas ∙ none in
    rw (short, no_areas) refl

not_there : (b : Bool) (first : Refusal) → b ≡ false → refused_if b refusals.NoSuchStream None ≡ Some first → ⊥
not_there true first is e = absurd (cc is)
not_there false first is e = cc e

passes_there : (b : Bool) → refused_if b refusals.NoSuchStream None ≡ None → b ≡ false
passes_there true e = absurd (cc e)
passes_there false e = refl

behind_area : Laws → (told : Bool) (log : State) (client : ℕ) (r : Loaded) (t : State) (most : ℕ) → IsValid log → log.broken ≡ false → areas_of log client ≡ []
    → open_refusal log table_name ≡ None → Opens log → IsValid (with_stream log)
    → CarriesOut told client (with_stream log) (asks (calls.CreateArea (table_stream log) 260 2)
    (on_area (λ given. ends (Err (Log given))) (λ area. load_area most client area (table_stream log)))) r t
    → Comes_to told log client r t
unfolding ground
behind_area laws told log client r t most valid whole none passes o valid_base carries =
    let base : State = with_stream log in
    let c = called told client base (calls.CreateArea (table_stream log) 260 2) rest r t (o.broken ∙ whole) carries in
    went c.reply c.mid c.went c.behind
  where
    base : State
    base = with_stream log

    rest : Reply → Plan Loaded
    rest = on_area (λ given. ends (Err (Log given))) (λ area. load_area most client area (table_stream log))

    went : (reply : Reply) (mid : State) → Way told (with_stream log) client (calls.CreateArea (table_stream log) 260 2) reply mid
        → CarriesOut told client mid (rest reply) r t → Comes_to told log client r t
    went reply mid (lacked takes said same) behind =
        let over = by_reply told client mid rest reply (replies.Refused refusals.NoMemory) mid (with_stream log) r t said same behind in
        by told log client r (Err (Log refusals.NoMemory)) t (with_stream log) over.0 over.1
        (record { caused = whole; left = inr (ap (filter (λ (area : Area). area.client == client)) o.areas ∙ none); table = table_of_base log o })
    went reply mid (came passed comes) behind =
        let there = passes_there _ (sym (create_is log client valid none o) ∙ passed) in
        let c : Call = calls.CreateArea (table_stream log) 260 2 in
        let b : State = with_stream log in
        let valid_at = laws.keeps true b client c Fine (answer b client c).reply (answer b client c).state valid_base (fine_step b client c (o.broken ∙ whole) passed) in
        let g : Ground = ground laws told log client valid whole none passes o there valid_at in
        loads_area most g r t
        (by_reply told client mid rest reply (replies.Area (unused_area (with_stream log) client)) mid (at g []) r t
        (area_as told (flushed (with_stream log)) (unused_area (with_stream log) client) reply comes.0) comes.1 behind)
    went reply mid (refused first is said same) behind =
        absurd (not_there _ first (stream_is_there (with_stream log) (table_stream log) o.numbered) (sym (create_is log client valid none o) ∙ is))
    went reply mid (faulted calls_it said same) behind = absurd (cc calls_it)
    went reply mid (damaged reads is same) behind = absurd (cc reads)

-- why loading is refused at once
broken_refusal : (log : State) (client : ℕ) → log.broken ≡ true → load_refusal log client ≡ Some (Log refusals.Broken)
broken_refusal log client broken = ap (λ (b : Bool). if b then Some (Log refusals.Broken)
    else option_map_or (λ (given : Refusal). Some (Log given)) (open_refusal log table_name) (by_records log client (live log (table_stream log)))) broken

name_refusal : (log : State) (client : ℕ) (first : Refusal) → log.broken ≡ false → open_refusal log table_name ≡ Some first
    → load_refusal log client ≡ Some (Log first)
name_refusal log client first whole is =
    ap (λ (b : Bool). if b then Some (Log refusals.Broken)
    else option_map_or (λ (given : Refusal). Some (Log given)) (open_refusal log table_name) (by_records log client (live log (table_stream log)))) whole
    ∙ ap (λ (x : Option Refusal). option_map_or (λ (given : Refusal). Some (Log given)) x (by_records log client (live log (table_stream log)))) is

-- what loading from a valid log comes to, for a client that has no area
pub loads : Laws → (told : Bool) (log : State) (client : ℕ) (r : Loaded) (t : State) → IsValid log → areas_of log client ≡ [] → LoadStep told log client r t
    → Comes_to told log client r t
unfolding LoadStep
loads laws told log client r t valid none carries = elim (cases_Bool log.broken) [
  | inl broken ↦ if_broken broken carries
  | inr whole ↦
      let c = called told client log (calls.OpenStream table_name) rest r t whole carries in
      if_whole whole c.reply c.mid c.went c.behind
]
  where
    rest : Reply → Plan Loaded
    rest = on_stream (λ given. ends (Err (Log given))) (λ stream. asks (calls.CreateArea stream 260 2)
        (on_area (λ given. ends (Err (Log given))) (λ area. load_area (length log.records) client area stream)))

    if_broken : log.broken ≡ true → CarriesOut told client log (asks (calls.OpenStream table_name) rest) r t → Comes_to told log client r t
    if_broken broken (happened, reply, mid, (step, behind)) =
        let stays = broken_way told log client (calls.OpenStream table_name) happened reply mid broken step in
        let over = by_reply told client mid rest reply (replies.Refused refusals.Broken) mid log r t stays.0 stays.1 behind in
        by told log client r (Err (Log refusals.Broken)) t log over.0 over.1
        (record { caused = broken_refusal log client broken; left = inl broken; table = refl })

    if_whole : log.broken ≡ false → (reply : Reply) (mid : State) → Way told log client (calls.OpenStream table_name) reply mid
        → CarriesOut told client mid (rest reply) r t → Comes_to told log client r t
    if_whole whole reply mid (lacked takes said same) behind =
        let over = by_reply told client mid rest reply (replies.Refused refusals.NoMemory) mid log r t said same behind in
        by told log client r (Err (Log refusals.NoMemory)) t log over.0 over.1 (record { caused = whole; left = inr none; table = refl })
    if_whole whole reply mid (came passes comes) behind =
        let o = opens log valid in
        let told_so = subst (λ (x : Outcome). IsReply told (flushed log) x.reply reply × (mid ≡ x.state)) o.answered comes in
        let c : Call = calls.OpenStream table_name in
        let valid_base = laws.keeps true log client c Fine (answer log client c).reply (answer log client c).state valid (fine_step log client c whole passes) in
        behind_area laws told log client r t (length log.records) valid whole none passes o valid_base
        (by_reply told client mid rest reply (replies.Stream (table_stream log)) mid (with_stream log) r t
        (stream_as told (flushed log) (table_stream log) reply told_so.0) told_so.1 behind)
    if_whole whole reply mid (refused first is said same) behind =
        let over = by_reply told client mid rest reply (replies.Refused first) mid log r t said same behind in
        by told log client r (Err (Log first)) t log over.0 over.1
        (record { caused = cause_from told log client first whole (name_refusal log client first whole is); left = inr none; table = refl })
    if_whole whole reply mid (faulted calls_it said same) behind =
        let over = by_reply told client mid rest reply (replies.Refused refusals.DiskFault) mid (with_broken log) r t said same behind in
        by told log client r (Err (Log refusals.DiskFault)) t (with_broken log) over.0 over.1 (record { caused = whole; left = inl refl; table = refl })
    if_whole whole reply mid (damaged reads is same) behind = absurd (cc reads)
