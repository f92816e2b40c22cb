-- What a reply to reading on makes of the plan of loading, of the log and of the disk.
use Rattle.clfs_txn.proofs.Words.{◌≡◌, ◌≢◌, ℕ, ◌-◌, ◌<◌, Bool, true, false, refl, sym, subst, ap, ◌∙◌, inl, inr, arith, List, length, Option, Some, None}
use Rattle.clfs_txn.proofs.Words.{Result, Ok, Err, IsErrOf, IsSome, OnOk, DiskState, LogEntry, Refusal, Fine, State, happened_of_refusal, Step, IsValid}
use Rattle.clfs_txn.proofs.Words.{Steps, WritesDisk, TxnRecord, TxnLoadRefusal, Log, NotATable, txn_record_of, Loaded, gives_up, read_records, Memory}
use Rattle.clfs_txn.proofs.Words.{LeadsTo, GoesForward, or_ended_read, to_come}
use Rattle.clfs_model.specs.declared.call.Call.TheVariants as log_calls
use Rattle.clfs_model.specs.declared.refusal.Refusal.TheVariants as log_refusals
use Rattle.clfs_model.specs.declared.reply.Reply.TheVariants as log_replies
use Rattle.clfs_model.specs.Ways.{GoesTheseWays}
use Rattle.clfs_txn.specs.Loading.{IsJoined, IsNotTaken}
use Rattle.clfs_txn.proofs.Joined.{writes_then}
use Rattle.clfs_txn.proofs.Leads.{leads_to}
use Rattle.clfs_txn.proofs.LoadSteps.{ComesToEnd, GoesOn, fewer_come, record_lost, record_strange, record_taken, records_end, records_refused}
use Rattle.clfs_txn.proofs.Quiet.{QuietLaws}
use Rattle.clfs_txn.proofs.Written.{writes_as}

some_row : (entry : LogEntry) → IsSome (txn_record_of entry.bytes) → (row : TxnRecord) × (txn_record_of entry.bytes ≡ Some row)
some_row entry some = go (txn_record_of entry.bytes) refl some
  where
    go : (o : Option TxnRecord) → txn_record_of entry.bytes ≡ o → IsSome o → (row : TxnRecord) × (txn_record_of entry.bytes ≡ Some row)
    go (Some row) is some = (row, is)
    go None is some = absurd (cc some)

-- a record that couldn't join ends the loading
strange : GoesTheseWays → (told : Bool) (client : ℕ) (log t : State) (area cursor more : ℕ) (records : List TxnRecord) (all : List TxnRecord → Memory) (entry : LogEntry)
    (cause : TxnLoadRefusal) → t.broken ≡ false → 1 < more → Step told log client (log_calls.ReadNext area cursor) Fine (log_replies.Next entry) t → IsNotTaken entry cause
    → LeadsTo Loaded told client log (read_records more area cursor records all) t (gives_up area cause)
strange ways told client log t area cursor more records all entry cause whole some step not = elim not [
  | inl none ↦ leads_to told client log t _ _ _ (ap (λ (c : TxnLoadRefusal). gives_up area c) (sym none.1))
      (record_strange told client log t area cursor more (more - 1) records all entry (omega (arith, some)) step none.0)
  | inr lost ↦
      let row = some_row entry lost.0 in
      leads_to told client log t _ _ _ (ap (λ (c : TxnLoadRefusal). gives_up area c) (sym lost.1))
      (record_lost told client log t area cursor more (more - 1) (more - 2) records all entry row.0 (omega (arith, some)) (omega (arith, some)) step row.1
      (ways.no_memory told t client (log_calls.ReadNext area cursor) Fine whole refl))
]

-- how the plan goes on
pub reads_on : GoesOn → ComesToEnd → GoesTheseWays → (told : Bool) (client : ℕ) (log t : State) (area cursor : ℕ) (old new : List TxnRecord) (reply : Result LogEntry Refusal)
    (result : Result Bool TxnLoadRefusal) → IsValid log → log.broken ≡ false → OnOk reply (t.broken ≡ false) → GoesForward log client area cursor
    → Steps told log client (log_calls.ReadNext area cursor) log_replies.Next reply t → IsJoined reply old new result
    → (more : ℕ) (all : List TxnRecord → Memory) → length (to_come log client area cursor) < more
    → LeadsTo Loaded told client log (read_records more area cursor old all) t (or_ended_read (more - 1) area cursor new all result)
reads_on next over ways told client log t area cursor old new (Ok entry) (Ok true) valid whole still forward step joined more all few =
    record_taken told client log t area cursor more (more - 1) old new all entry (omega (arith, few)) step joined
reads_on next over ways told client log t area cursor old new (Ok entry) (Ok false) valid whole still forward step joined more all few = absurd joined
reads_on next over ways told client log t area cursor old new (Ok entry) (Err cause) valid whole still forward step joined more all few =
    let fewer = (fewer_come next over told log t client area cursor entry valid whole forward step).1 in
    strange ways told client log t area cursor more old all entry cause still (omega (arith, few, fewer)) step joined
reads_on next over ways told client log t area cursor old new (Err refusal) (Ok true) valid whole still forward step joined more all few = absurd joined
reads_on next over ways told client log t area cursor old new (Err refusal) (Ok false) valid whole still forward step joined more all few =
    leads_to told client log t _ _ _ (ap (λ (l : List TxnRecord). or_ended_read (more - 1) area cursor l all (Ok false)) (sym joined.1))
    (records_end told client log t area cursor more (more - 1) old all (omega (arith, few))
    (subst (λ (r : Refusal). Step told log client (log_calls.ReadNext area cursor) (happened_of_refusal r) (log_replies.Refused r) t) joined.0 step))
reads_on next over ways told client log t area cursor old new (Err refusal) (Err cause) valid whole still forward step joined more all few =
    leads_to told client log t _ _ _ (ap (λ (c : TxnLoadRefusal). gives_up area c) (sym joined.1))
    (records_refused told client log t area cursor more (more - 1) old all refusal (omega (arith, few)) step joined.0)

-- and the cursor
pub goes_on : GoesOn → ComesToEnd → (told : Bool) (client : ℕ) (log t : State) (area cursor : ℕ) (old new : List TxnRecord) (reply : Result LogEntry Refusal)
    (result : Result Bool TxnLoadRefusal) → IsValid log → log.broken ≡ false → GoesForward log client area cursor
    → Steps told log client (log_calls.ReadNext area cursor) log_replies.Next reply t → IsJoined reply old new result → result ≡ Ok true
    → GoesForward t client area cursor × (length (to_come t client area cursor) < length (to_come log client area cursor))
goes_on next over told client log t area cursor old new (Ok entry) result valid whole forward step joined is =
    fewer_come next over told log t client area cursor entry valid whole forward step
goes_on next over told client log t area cursor old new (Err refusal) (Ok true) valid whole forward step joined is = absurd joined
goes_on next over told client log t area cursor old new (Err refusal) (Ok false) valid whole forward step joined is = absurd (cc is)
goes_on next over told client log t area cursor old new (Err refusal) (Err cause) valid whole forward step joined is = absurd (cc is)

-- the log isn't broken if it was read on
pub still_whole : QuietLaws → (told : Bool) (client : ℕ) (log t : State) (area cursor : ℕ) (old new : List TxnRecord) (reply : Result LogEntry Refusal)
    (result : Result Bool TxnLoadRefusal) → log.broken ≡ false → Steps told log client (log_calls.ReadNext area cursor) log_replies.Next reply t → IsJoined reply old new result
    → OnOk result (t.broken ≡ false)
still_whole laws told client log t area cursor old new (Ok entry) (Ok more) whole step joined =
    (laws.unbroken told log client (log_calls.ReadNext area cursor) Fine (log_replies.Next entry) t whole refl step).0
still_whole laws told client log t area cursor old new (Err refusal) (Ok true) whole step joined = absurd joined
still_whole laws told client log t area cursor old new (Err refusal) (Ok false) whole step joined =
    (laws.unbroken told log client (log_calls.ReadNext area cursor) Fine (log_replies.Refused log_refusals.EndOfLog) t whole refl
    (subst (λ (r : Refusal). Step told log client (log_calls.ReadNext area cursor) (happened_of_refusal r) (log_replies.Refused r) t) joined.0 step)).0
still_whole laws told client log t area cursor old new reply (Err cause) whole step joined = tt

-- ---- what the log refused

-- it is the same refusal
pub to_cause : (old new : List TxnRecord) (reply : Result LogEntry Refusal) (result : Result Bool TxnLoadRefusal) (refusal : Refusal) → refusal ≢ log_refusals.EndOfLog
    → IsJoined reply old new result → IsErrOf reply refusal → IsErrOf result (Log refusal)
to_cause old new (Ok entry) result refusal other joined is = absurd (cc is)
to_cause old new (Err given) (Ok true) refusal other joined is = absurd joined
to_cause old new (Err given) (Ok false) refusal other joined is = let same : given ≡ refusal = cc is in absurd (other (sym same ∙ joined.0))
to_cause old new (Err given) (Err cause) refusal other joined is =
    let same : given ≡ refusal = cc is in ap (λ (c : TxnLoadRefusal). Err c) (joined.1 ∙ ap (λ (r : Refusal). Log r) same)

-- and so back, but for memory
pub of_cause : (old new : List TxnRecord) (reply : Result LogEntry Refusal) (result : Result Bool TxnLoadRefusal) (refusal : Refusal) → refusal ≢ log_refusals.NoMemory
    → IsJoined reply old new result → IsErrOf result (Log refusal) → IsErrOf reply refusal
of_cause old new (Ok entry) (Ok more) refusal other joined is = absurd (cc is)
of_cause old new (Ok entry) (Err cause) refusal other joined is =
    let same : cause ≡ Log refusal = cc is in elim joined [
      | inl none ↦ let different : NotATable entry.lsn ≡ Log refusal = sym none.1 ∙ same in absurd (cc different)
      | inr lost ↦ let lacked : Log log_refusals.NoMemory ≡ Log refusal = sym lost.1 ∙ same in let fed : log_refusals.NoMemory ≡ refusal = cc lacked in absurd (other (sym fed))
    ]
of_cause old new (Err given) (Ok more) refusal other joined is = absurd (cc is)
of_cause old new (Err given) (Err cause) refusal other joined is =
    let same : cause ≡ Log refusal = cc is in let one : Log given ≡ Log refusal = sym joined.1 ∙ same in let equal : given ≡ refusal = cc one in
    ap (λ (r : Refusal). Err r) equal

pub writes_on : (a b : DiskState) (old new : List TxnRecord) (reply : Result LogEntry Refusal) (result : Result Bool TxnLoadRefusal) → IsJoined reply old new result
    → WritesDisk (IsErrOf reply log_refusals.DiskFault) a b → WritesDisk (IsErrOf result (Log log_refusals.DiskFault)) a b
writes_on a b old new reply result joined writes =
    writes_as _ _ a b (to_cause old new reply result log_refusals.DiskFault (λ same. cc same) joined) (of_cause old new reply result log_refusals.DiskFault (λ same. cc same) joined) writes

-- after others that met no fault
pub read_then_ok : {A : Type 0} (a b c : DiskState) (value : A) → WritesDisk ⊥ a b → WritesDisk (IsErrOf (Ok value) (Log log_refusals.DiskFault)) b c → WritesDisk ⊥ a c
read_then_ok {A} a b c value first second =
    writes_as _ ⊥ a c (λ f. absurd (cc f)) (λ f. absurd f) (writes_then ⊥ (IsErrOf {T = A} (Ok value) (Log log_refusals.DiskFault)) a b c (λ f. f) first second)

pub read_then_err : {A B : Type 0} (a b c : DiskState) (cause : TxnLoadRefusal) → WritesDisk ⊥ a b → WritesDisk (IsErrOf {T = A} (Err cause) (Log log_refusals.DiskFault)) b c
    → WritesDisk (IsErrOf {T = B} (Err cause) (Log log_refusals.DiskFault)) a c
read_then_err {A} {B} a b c cause first second =
    same_cause {A = A} {B = B} a c cause (writes_then ⊥ (IsErrOf {T = A} (Err cause) (Log log_refusals.DiskFault)) a b c (λ f. f) first second)
  where
    same_cause : {A B : Type 0} (a b : DiskState) (cause : TxnLoadRefusal) → WritesDisk (IsErrOf {T = A} (Err cause) (Log log_refusals.DiskFault)) a b
        → WritesDisk (IsErrOf {T = B} (Err cause) (Log log_refusals.DiskFault)) a b
    same_cause {A} {B} a b cause is = writes_as _ _ a b
        (λ f. let same : cause ≡ Log log_refusals.DiskFault = cc f in ap (λ (r : TxnLoadRefusal). Err r) same)
        (λ f. let same : cause ≡ Log log_refusals.DiskFault = cc f in ap (λ (r : TxnLoadRefusal). Err r) same) is
