-- How the plan of loading is carried out, piece by piece.
use Rattle.clfs_txn.proofs.Words.{◌≡◌, ◌≢◌, ℕ, suc, ◌<◌, ◌≤◌, Bool, true, false, refl, sym, subst, ap, ◌∙◌, inl, inr, arith, List, [], ◌∷◌, ◌++◌, length}
use Rattle.clfs_txn.proofs.Words.{Option, Some, None, Result, Ok, Err, option_map_or, cases_Bool, Cursor, Records, Mode, Forward, LogEntry, Call, LogInfo}
use Rattle.clfs_txn.proofs.Words.{Refusal, Happened, Fine, Reply, Area, State, Outcome, answer, happened_of, happened_of_refusal, next, refused_if, area_of}
use Rattle.clfs_txn.proofs.Words.{Step, IsReply, flushed, IsValid, StillGives, TxnRecord, Log, NotATable, txn_record_of, Loaded, gives_up, in_table_area}
use Rattle.clfs_txn.proofs.Words.{read_records, Plan, calls, ends, Memory, table_name, Steps, replied, is_none, LeadsTo, GoesForward, to_come}
use Rattle.std.proofs.Common.{zero}
use Rattle.clfs_model.specs.declared.call.Call.TheVariants as log_calls
use Rattle.clfs_model.specs.declared.refusal.Refusal.TheVariants as log_refusals
use Rattle.clfs_model.specs.declared.reply.Reply.TheVariants as log_replies
use Rattle.clfs_model.specs.Reading.{chain_from, newest_restart}
use Rattle.clfs_model.specs.Refusals.{stream_number}
use Rattle.clfs_model.specs.State.{stream_at}
use Rattle.clfs_laws.specs.Cursors.{still_to_come}
use Rattle.clfs_cells.specs.Loading.{on_more}
use Rattle.clfs_txn.proofs.Quiet.{QuietLaws}
use Rattle.clfs_txn.specs.Loading.{Taken, says_broken, to_come_in}
use Rattle.clfs_txn.proofs.Leads.{leads_call, leads_from, leads_on, leads_to}
use Rattle.clfs_txn.proofs.Ways.{Way, broken_way, came, damaged, faulted, lacked, refused, way}

-- ---- the stream and the area

pub stream_refused : (told : Bool) (client : ℕ) (log t : State) (rest : ℕ → ℕ → Plan Loaded) (refusal : Refusal)
    → Step told log client (log_calls.OpenStream table_name) (happened_of_refusal refusal) (log_replies.Refused refusal) t
    → LeadsTo Loaded told client log (in_table_area rest) t (ends (Err (Log refusal)))
stream_refused told client log t rest refusal step = leads_call told client log _ _ (log_replies.Refused refusal) t step

pub area_refused : (told : Bool) (client : ℕ) (log mid t : State) (rest : ℕ → ℕ → Plan Loaded) (stream : ℕ) (refusal : Refusal)
    → Step told log client (log_calls.OpenStream table_name) Fine (log_replies.Stream stream) mid
    → Step told mid client (log_calls.CreateArea stream 260 2) (happened_of_refusal refusal) (log_replies.Refused refusal) t
    → LeadsTo Loaded told client log (in_table_area rest) t (ends (Err (Log refusal)))
area_refused told client log mid t rest stream refusal first second =
    leads_on told client log mid t _ _ _ (leads_call told client log _ _ (log_replies.Stream stream) mid first)
    (leads_call told client mid _ _ (log_replies.Refused refusal) t second)

pub area_made : (told : Bool) (client : ℕ) (log mid t : State) (rest : ℕ → ℕ → Plan Loaded) (stream area : ℕ)
    → Step told log client (log_calls.OpenStream table_name) Fine (log_replies.Stream stream) mid
    → Step told mid client (log_calls.CreateArea stream 260 2) Fine (log_replies.Area area) t
    → LeadsTo Loaded told client log (in_table_area rest) t (rest area stream)
area_made told client log mid t rest stream area first second =
    leads_on told client log mid t _ _ _ (leads_call told client log _ _ (log_replies.Stream stream) mid first)
    (leads_call told client mid _ _ (log_replies.Area area) t second)

-- ---- calls that leave the records as they are

-- the call is one of those
pub data Leaves : Call → Type 0 where
  opening : (name : List ℕ) → Leaves (log_calls.OpenStream name)
  making : (stream largest reads : ℕ) → Leaves (log_calls.CreateArea stream largest reads)
  reading : (area : ℕ) → Leaves (log_calls.ReadRestart area)
  ending : (area cursor : ℕ) → Leaves (log_calls.EndRead area cursor)

same_records : State → Outcome → Type 0
same_records s o = o.state.records ≡ s.records

of_option : {X : Type 0} (P : Outcome → Type 0) (o : Option X) (f : X → Outcome) (other : Outcome) → ((x : X) → P (f x)) → P other → P (option_map_or f o other)
of_option P None f other each none = none
of_option P (Some x) f other each none = each x

answers_leave : (s : State) (client : ℕ) (call : Call) → Leaves call → same_records s (answer s client call)
unfolding same_records
answers_leave s client _ (opening name) = of_option (same_records s) (stream_number s name) _ _ (λ n. refl) refl
answers_leave s client _ (making stream largest reads) = refl
answers_leave s client _ (reading area) =
    of_option (same_records s) (area_of s client area) _ _ (λ a. of_option (same_records s) (newest_restart s a.stream) _ _ (λ e. refl) refl) refl
answers_leave s client _ (ending area cursor) = refl

by_way : (told : Bool) (s : State) (client : ℕ) (call : Call) (reply : Reply) (t : State) → Leaves call → Way told s client call reply t → t.records ≡ s.records
unfolding same_records
by_way told s client call reply t leaves (lacked _ _ same) = ap (λ (x : State). x.records) same
by_way told s client call reply t leaves (came _ comes) = ap (λ (x : State). x.records) comes.1 ∙ answers_leave s client call leaves
by_way told s client call reply t leaves (refused _ _ _ same) = ap (λ (x : State). x.records) same
by_way told s client call reply t leaves (faulted _ _ same) = ap (λ (x : State). x.records) same
by_way told s client call reply t leaves (damaged _ _ same) = ap (λ (x : State). x.records) same

pub leaves_records : (told : Bool) (s : State) (client : ℕ) (call : Call) (happened : Happened) (reply : Reply) (t : State) → Leaves call
    → Step told s client call happened reply t → t.records ≡ s.records
leaves_records told s client call happened reply t leaves step = elim (cases_Bool s.broken) [
  | inl broken ↦ ap (λ (x : State). x.records) (broken_way told s client call happened reply t broken step).1
  | inr whole ↦ by_way told s client call reply t leaves (way told s client call happened reply t whole step)
]

-- ---- where a cursor still goes

pub gives_is : (s : State) (client number cursor : ℕ) (entries : List LogEntry) → StillGives s client number cursor (Records Forward) entries
    → to_come s client number cursor ≡ entries
gives_is s client number cursor entries gives =
    ap (λ (o : Option Area). option_map_or (to_come_in s cursor) o []) gives.area_there
    ∙ ap (λ (o : Option Cursor). option_map_or (λ (at : Cursor). still_to_come s gives.area.stream (Records Forward) at.last) o []) gives.cursor_there
    ∙ gives.gives

pub goes_forward : (s : State) (client number cursor : ℕ) (entries : List LogEntry) → StillGives s client number cursor (Records Forward) entries
    → GoesForward s client number cursor
goes_forward s client number cursor entries gives =
    subst (λ (l : List LogEntry). StillGives s client number cursor (Records Forward) l) (sym (gives_is s client number cursor entries gives)) gives

-- what the laws say of reading on
abbrev pub GoesOn : Type 0
GoesOn = (told : Bool) (s t : State) (client number cursor : ℕ) (mode : Mode) (entry : LogEntry) (rest : List LogEntry) (reply : Reply)
    → IsValid s → s.broken ≡ false → StillGives s client number cursor (Records mode) (entry ∷ rest)
    → Step told s client (log_calls.ReadNext number cursor) Fine reply t → reply ≢ log_replies.Refused log_refusals.NoMemory
    → IsReply told (flushed s) (log_replies.Next entry) reply × StillGives t client number cursor (Records mode) rest

abbrev pub ComesToEnd : Type 0
ComesToEnd = (told : Bool) (s t : State) (client number cursor : ℕ) (reply : Reply)
    → IsValid s → s.broken ≡ false → StillGives s client number cursor (Records Forward) []
    → Step told s client (log_calls.ReadNext number cursor) Fine reply t → reply ≢ log_replies.Refused log_refusals.NoMemory
    → (reply ≡ log_replies.Refused log_refusals.EndOfLog) × (t ≡ s)

-- where reading on gave a record the cursor still goes forward, over fewer
pub fewer_come : GoesOn → ComesToEnd → (told : Bool) (s t : State) (client number cursor : ℕ) (read : LogEntry) → IsValid s → s.broken ≡ false
    → GoesForward s client number cursor → Step told s client (log_calls.ReadNext number cursor) Fine (log_replies.Next read) t
    → GoesForward t client number cursor × (length (to_come t client number cursor) < length (to_come s client number cursor))
fewer_come next over told s t client number cursor read valid whole forward step = go (to_come s client number cursor) refl
  where
    go : (l : List LogEntry) → to_come s client number cursor ≡ l
        → GoesForward t client number cursor × (length (to_come t client number cursor) < length (to_come s client number cursor))
    go [] is =
        let none = over told s t client number cursor (log_replies.Next read) valid whole
        (subst (λ (l : List LogEntry). StillGives s client number cursor (Records Forward) l) is forward) step (λ same. cc same) in
        absurd (cc none.0)
    go (entry ∷ rest) is =
        let some = next told s t client number cursor Forward entry rest (log_replies.Next read) valid whole
        (subst (λ (l : List LogEntry). StillGives s client number cursor (Records Forward) l) is forward) step (λ same. cc same) in
        let now = gives_is t client number cursor rest some.1 in
        (goes_forward t client number cursor rest some.1, omega (arith, ap length now, ap length is))

chain_short : (s : State) (stream : ℕ) (mode : Mode) (bound : ℕ) (found : Option LogEntry) → length (chain_from s stream mode bound found) ≤ bound
chain_short s stream mode zero found = omega arith
chain_short s stream mode (suc bound) None = omega arith
chain_short s stream mode (suc bound) (Some entry) = let rest = chain_short s stream mode bound (next s stream mode entry.lsn) in omega (arith, rest)

-- fewer come than the log has records
pub few_come : (s t : State) (client number cursor stream : ℕ) (found : Option LogEntry) (entry : LogEntry) (rest : List LogEntry)
    → chain_from s stream Forward (length s.records) found ≡ entry ∷ rest → StillGives t client number cursor (Records Forward) rest
    → length (to_come t client number cursor) < length s.records
few_come s t client number cursor stream found entry rest chain gives =
    let short = chain_short s stream Forward (length s.records) found in
    omega (arith, short, ap length chain, ap length (gives_is t client number cursor rest gives))

-- ---- reading records

-- how reading goes on after a record
abbrev pub behind_record : ℕ → ℕ → ℕ → List TxnRecord → (List TxnRecord → Memory) → LogEntry → Plan Loaded
behind_record more area cursor records all entry = option_map_or (λ (r : TxnRecord). read_records more area cursor (records ++ r ∷ []) all) (txn_record_of entry.bytes)
    (gives_up area (NotATable entry.lsn))

-- and at the end
abbrev pub at_end : ℕ → ℕ → List TxnRecord → (List TxnRecord → Memory) → Plan Loaded
at_end area cursor records all = calls (log_calls.EndRead area cursor) (λ _. ends (Ok (all records)))

by_count : (told : Bool) (client : ℕ) (log t : State) (area cursor : ℕ) (records : List TxnRecord) (all : List TxnRecord → Memory) (more less : ℕ) (rest : Plan Loaded)
    → suc less ≡ more → LeadsTo Loaded told client log (read_records (suc less) area cursor records all) t rest
    → LeadsTo Loaded told client log (read_records more area cursor records all) t rest
by_count told client log t area cursor records all more less rest same leads =
    leads_from told client log t (read_records (suc less) area cursor records all) _ rest (ap (λ (n : ℕ). read_records n area cursor records all) (sym same)) leads

-- a record was read that joins those before it
pub record_taken : (told : Bool) (client : ℕ) (log t : State) (area cursor more less : ℕ) (records now : List TxnRecord) (all : List TxnRecord → Memory) (entry : LogEntry)
    → suc less ≡ more → Step told log client (log_calls.ReadNext area cursor) Fine (log_replies.Next entry) t → Taken entry records now
    → LeadsTo Loaded told client log (read_records more area cursor records all) t (read_records less area cursor now all)
record_taken told client log t area cursor more less records now all entry same step taken =
    by_count told client log t area cursor records all more less _ same
    (leads_to told client log t _ (behind_record less area cursor records all entry) _
    (ap (λ (o : Option TxnRecord). option_map_or (λ (r : TxnRecord). read_records less area cursor (records ++ r ∷ []) all) o (gives_up area (NotATable entry.lsn))) taken.spelled
    ∙ ap (λ (l : List TxnRecord). read_records less area cursor l all) (sym taken.joined))
    (leads_call told client log _ _ (log_replies.Next entry) t step))

-- one was read that is none
pub record_strange : (told : Bool) (client : ℕ) (log t : State) (area cursor more less : ℕ) (records : List TxnRecord) (all : List TxnRecord → Memory) (entry : LogEntry)
    → suc less ≡ more → Step told log client (log_calls.ReadNext area cursor) Fine (log_replies.Next entry) t → txn_record_of entry.bytes ≡ None
    → LeadsTo Loaded told client log (read_records more area cursor records all) t (gives_up area (NotATable entry.lsn))
record_strange told client log t area cursor more less records all entry same step none =
    by_count told client log t area cursor records all more less _ same
    (leads_to told client log t _ (behind_record less area cursor records all entry) _
    (ap (λ (o : Option TxnRecord). option_map_or (λ (r : TxnRecord). read_records less area cursor (records ++ r ∷ []) all) o (gives_up area (NotATable entry.lsn))) none)
    (leads_call told client log _ _ (log_replies.Next entry) t step))

-- memory ran out after one that was read, which is as where it runs out in the next call
pub record_lost : (told : Bool) (client : ℕ) (log t : State) (area cursor more less fewer : ℕ) (records : List TxnRecord) (all : List TxnRecord → Memory) (entry : LogEntry)
    (row : TxnRecord) → suc less ≡ more → suc fewer ≡ less → Step told log client (log_calls.ReadNext area cursor) Fine (log_replies.Next entry) t
    → txn_record_of entry.bytes ≡ Some row → Step told t client (log_calls.ReadNext area cursor) Fine (log_replies.Refused log_refusals.NoMemory) t
    → LeadsTo Loaded told client log (read_records more area cursor records all) t (gives_up area (Log log_refusals.NoMemory))
record_lost told client log t area cursor more less fewer records all entry row same left step spelled lacks =
    leads_on told client log t t _ (read_records less area cursor (records ++ row ∷ []) all) _
    (record_taken told client log t area cursor more less records (records ++ row ∷ []) all entry same step (record { row = row; spelled = spelled; joined = refl }))
    (by_count told client t t area cursor (records ++ row ∷ []) all less fewer _ left
    (leads_call told client t _ _ (log_replies.Refused log_refusals.NoMemory) t lacks))

pub records_end : (told : Bool) (client : ℕ) (log t : State) (area cursor more less : ℕ) (records : List TxnRecord) (all : List TxnRecord → Memory)
    → suc less ≡ more → Step told log client (log_calls.ReadNext area cursor) Fine (log_replies.Refused log_refusals.EndOfLog) t
    → LeadsTo Loaded told client log (read_records more area cursor records all) t (at_end area cursor records all)
records_end told client log t area cursor more less records all same step =
    by_count told client log t area cursor records all more less _ same (leads_call told client log _ _ (log_replies.Refused log_refusals.EndOfLog) t step)

other_refusal : (area : ℕ) (go : LogEntry → Plan Loaded) (done : Plan Loaded) (refusal : Refusal) → (refusal ≡ log_refusals.EndOfLog → ⊥)
    → on_more area go done (log_replies.Refused refusal) ≡ gives_up area (Log refusal)
other_refusal area go done log_refusals.EndOfLog other = absurd (other refl)
other_refusal area go done _ other = refl

pub records_refused : (told : Bool) (client : ℕ) (log t : State) (area cursor more less : ℕ) (records : List TxnRecord) (all : List TxnRecord → Memory) (refusal : Refusal)
    → suc less ≡ more → Step told log client (log_calls.ReadNext area cursor) (happened_of_refusal refusal) (log_replies.Refused refusal) t
    → (refusal ≡ log_refusals.EndOfLog → ⊥)
    → LeadsTo Loaded told client log (read_records more area cursor records all) t (gives_up area (Log refusal))
records_refused told client log t area cursor more less records all refusal same step other =
    by_count told client log t area cursor records all more less _ same
    (leads_to told client log t _ _ _ (other_refusal area (behind_record less area cursor records all) (at_end area cursor records all) refusal other) (leads_call told client log _ _ (log_replies.Refused refusal) t step))

-- ---- whether the log is broken

not_broken : {A : Type 0} (answer : A → Reply) (result : Result A Refusal) → (replied answer result ≢ log_replies.Refused log_refusals.Broken) → says_broken result ≡ false
not_broken answer (Ok value) other = refl
not_broken answer (Err log_refusals.Broken) other = absurd (other refl)
not_broken answer (Err _) other = refl

so_broken : (result : Result LogInfo Refusal) → replied log_replies.Info result ≡ log_replies.Refused log_refusals.Broken → says_broken result ≡ true
so_broken (Ok info) is = absurd (cc is)
so_broken (Err refusal) is = let same : refusal ≡ log_refusals.Broken = cc is in ap (λ (r : Refusal). says_broken {A = LogInfo} (Err r)) same

fine_info : (told : Bool) (s : State) (client stream : ℕ) (result : Result LogInfo Refusal) (t : State) → s.broken ≡ false
    → Steps told s client (log_calls.Info stream) log_replies.Info result t → happened_of (replied log_replies.Info result) ≡ Fine
fine_info told s client stream result t whole step = fine (way told s client (log_calls.Info stream) _ (replied log_replies.Info result) t whole step)
  where
    info_fine : (told : Bool) (stable : ℕ) (info : LogInfo) (reply : Reply) → IsReply told stable (log_replies.Info info) reply → happened_of reply ≡ Fine
    info_fine true stable info reply is = ap happened_of is
    info_fine false stable info reply is = ap happened_of is

    of_stream : (b : Bool) (first : Refusal) → refused_if b log_refusals.NoSuchStream None ≡ Some first → happened_of (log_replies.Refused first) ≡ Fine
    of_stream true first is = let same : Some log_refusals.NoSuchStream ≡ Some first = is in let one : log_refusals.NoSuchStream ≡ first = cc same in ap (λ (r : Refusal). happened_of (log_replies.Refused r)) (sym one)
    of_stream false first is = absurd (cc is)

    fine : Way told s client (log_calls.Info stream) (replied log_replies.Info result) t → happened_of (replied log_replies.Info result) ≡ Fine
    fine (lacked takes _ _) = absurd (cc takes)
    fine (came _ comes) = info_fine told (flushed s) _ (replied log_replies.Info result) comes.0
    fine (refused first is said _) = ap happened_of said ∙ of_stream (is_none (stream_at s stream)) first is
    fine (faulted called _ _) = absurd (cc called)
    fine (damaged read _ _) = absurd (cc read)

pub says_is : QuietLaws → (s : State) (client : ℕ) (result : Result LogInfo Refusal) → Steps true s client (log_calls.Info 1) log_replies.Info result s
    → says_broken result ≡ s.broken
says_is laws s client result step = elim (cases_Bool s.broken) [
  | inl broken ↦ so_broken result (laws.broken true s client (log_calls.Info 1) _ (replied log_replies.Info result) s broken step).0 ∙ sym broken
  | inr whole ↦
      not_broken log_replies.Info result (laws.unbroken true s client (log_calls.Info 1) _ (replied log_replies.Info result) s whole
      (fine_info true s client 1 result s whole step) step).1 ∙ sym whole
]
