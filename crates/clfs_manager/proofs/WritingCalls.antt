-- Calls of a manager that may write, by what each of them comes to.
use Rattle.clfs_manager.proofs.Words.{[], ◌≡◌, ℕ, Bool, true, false, refl, sym, ap, subst, ◌∙◌, Result, Some, None, IfErr, IsErrOf, IsOk, OnErr, OnOk}
use Rattle.clfs_manager.proofs.Words.{DiskState, IsSteady, Later, Rises, is_of_call, Call, Refusal, Happened, Fine, Fault, Reply, State, answer}
use Rattle.clfs_manager.proofs.Words.{MeetsCondition, block_start, flush, flushed, happened_of, refusal, asks, bad_line, Step, calls_disk, takes_memory}
use Rattle.clfs_manager.proofs.Words.{GoesTheseWays, PhysicalRefusal, AreMade, CallLaws, Steps, WritesAs, CrashLeavesSurvivor, CrashSurvives, StoredMeanwhile}
use Rattle.clfs_manager.proofs.Words.{IsLeft, StoredAfter, Holds, IsManaged, WritesDisk, Log}
use Rattle.std.proofs.Common.{Ok, Err}
use Rattle.std.specs.Prelude.{is_err}
use Rattle.clfs_model.specs.declared.refusal.Refusal.TheVariants as refusals
use Rattle.clfs_model.specs.declared.reply.Reply.TheVariants as replies
use Rattle.clfs_physical.specs.declared.refusal.PhysicalRefusal.TheVariants as physical
use Rattle.clfs_manager.specs.Copying.{CountsFiles, KeepsFiles}
use Rattle.clfs_manager.specs.Flushing.{IsBroken}
use Rattle.clfs_manager.specs.Written.{LeavesCopy}
use Rattle.clfs_manager.proofs.AreasChange.{KeepsStorable, KeepsValid}
use Rattle.clfs_manager.proofs.CopyingCalls.{crash_written}
use Rattle.clfs_manager.proofs.Crashes.{crash_broken, crash_managed, never_ok}
use Rattle.clfs_manager.proofs.FlushKeeps.{on_err, on_ok}
use Rattle.clfs_manager.proofs.Intact.{writes_as, writes_failed, writes_fine, writes_nothing, writes_seen}
use Rattle.clfs_manager.proofs.KeptFiles.{copy_faulted, copy_left, copy_of_call, copy_stays, counts_kept}
use Rattle.clfs_manager.proofs.OwnRefusals.{refused_step, writes_refused}

-- ---- the disk isn't called

-- the log is broken
pub call_stopped : {A D : Type 0} → GoesTheseWays → (state : D → DiskState) (log : Log) (disk : D) (seen : State × D) → (log.state.value, disk) ≡ seen
    → IsManaged (state disk) log → log.broken ≡ true → (client : ℕ) (call : Call) (reply : A → Reply)
    → WritesAs state client call reply (Err refusals.Broken) seen seen
call_stopped {A} {D} ways state log disk seen view managed broken client call reply =
    let s : State = log.state.value in
    let stopped : s.broken ≡ true = managed.broken ∙ broken in
    subst (λ (v : State × D). WritesAs state client call reply (Err refusals.Broken) v v) view (record {
      step = λ told. ways.broken told s client call Fine stopped;
      writes = writes_nothing (IsErrOf {T = A} (Err refusals.Broken) refusals.DiskFault) (state disk) (λ f. cc f);
      moments = crash_broken (asks client call) s (state disk) (state disk) stopped;
      no_memory = λ want. absurd (cc want);
      stopped = λ _. refl;
      refused = λ _. refl;
      copy = copy_stays _ (state disk);
    })

-- the call is refused for what was asked
pub call_refused : {A D : Type 0} → CallLaws → GoesTheseWays → (state : D → DiskState) (log : Log) (disk : D) (seen : State × D) → (log.state.value, disk) ≡ seen
    → IsManaged (state disk) log → log.broken ≡ false → (client : ℕ) (call : Call) (reply : A → Reply) (given : Refusal)
    → refusal log.state.value client call ≡ Some given → WritesAs state client call reply (Err given) seen seen
call_refused {A} {D} laws ways state log disk seen view managed unbroken client call reply given first =
    let s : State = log.state.value in
    let own = laws.own s client call given first in
    subst (λ (v : State × D). WritesAs state client call reply (Err given) v v) view (record {
      step = λ told. refused_step ways told s client call given (managed.broken ∙ unbroken) own first;
      writes = writes_refused given (state disk) own;
      moments = crash_managed laws.stands laws.by_file (state disk) log managed (asks client call) (laws.before s client call managed.valid);
      no_memory = λ _. crash_managed laws.stands laws.by_file (state disk) log managed (bad_line 0) (laws.nothing s 0 managed.valid);
      stopped = λ _. refl;
      refused = λ _. refl;
      copy = copy_stays _ (state disk);
    })

-- nothing is to be changed
pub call_idle : {A D : Type 0} → CallLaws → GoesTheseWays → (state : D → DiskState) (log : Log) (disk : D) (seen : State × D) → (log.state.value, disk) ≡ seen
    → IsManaged (state disk) log → log.broken ≡ false → (client : ℕ) (call : Call) (reply : A → Reply) (value : A) → happened_of (reply value) ≡ Fine
    → refusal log.state.value client call ≡ None → reply value ≡ (answer log.state.value client call).reply
    → log.state.value ≡ (answer log.state.value client call).state → WritesAs state client call reply (Ok value) seen seen
call_idle {A} {D} laws ways state log disk seen view managed unbroken client call reply value fine none replies_so leaves =
    let s : State = log.state.value in
    subst (λ (v : State × D). WritesAs state client call reply (Ok value) v v) view (record {
      step = λ told. subst (λ (h : Happened). Step told s client call h (reply value) s) (sym fine)
          (ways.answered told s client call (reply value) s (managed.broken ∙ unbroken) none replies_so leaves);
      writes = writes_nothing (IsErrOf {E = Refusal} (Ok value) refusals.DiskFault) (state disk) (λ f. cc f);
      moments = crash_managed laws.stands laws.by_file (state disk) log managed (asks client call) (laws.before s client call managed.valid);
      no_memory = λ want. absurd (cc want);
      stopped = λ _. refl;
      refused = tt;
      copy = copy_stays _ (state disk);
    })

-- ---- the disk was called

never_stopped : {D : Type 0} (s : State) (disk new : D) (seen : State × D) → (s, disk) ≡ seen → s.broken ≡ false → seen.0.broken ≡ true → new ≡ seen.1
never_stopped {D} s disk new seen view whole broken =
    let clash : s.broken ≡ true = ap (λ (v : State × D). v.0.broken) view ∙ broken in absurd (cc (whole, clash))

-- the call is a step
pub call_made : {A D : Type 0} (state : D → DiskState) (log after : Log) (disk new : D) (seen : State × D) → (log.state.value, disk) ≡ seen
    → IsManaged (state disk) log → log.broken ≡ false → (client : ℕ) (call : Call) (reply : A → Reply) (result : Result A Refusal)
    → ((told : Bool) → Steps told log.state.value client call reply result after.state.value)
    → WritesDisk (IsErrOf result refusals.DiskFault) (state disk) (state new) → CrashSurvives (asks client call) seen.0 (state seen.1) (state new)
    → (IsErrOf result refusals.NoMemory → CrashSurvives (bad_line 0) seen.0 (state seen.1) (state new))
    → IfErr result (λ given. is_of_call given ≡ true → new ≡ seen.1) → LeavesCopy (IsErrOf result refusals.DiskFault) (state seen.1) (state new)
    → WritesAs state client call reply result seen (after.state.value, new)
call_made {A} {D} state log after disk new seen view managed unbroken client call reply result step writes moments no_memory refused copy =
    let s : State = log.state.value in
    record {
      step = λ told. subst (λ (v : State × D). Steps told v.0 client call reply result after.state.value) view (step told);
      writes = writes_seen state (s, disk) seen view (IsErrOf result refusals.DiskFault) (state new) writes;
      moments = moments;
      no_memory = no_memory;
      stopped = never_stopped s disk new seen view (managed.broken ∙ unbroken);
      refused = refused;
      copy = copy;
    }

-- and the call was done
pub call_done : {A D : Type 0} → GoesTheseWays → (state : D → DiskState) (log after : Log) (disk new : D) (seen : State × D) → (log.state.value, disk) ≡ seen
    → IsManaged (state disk) log → log.broken ≡ false → (client : ℕ) (call : Call) (reply : A → Reply) (value : A) → happened_of (reply value) ≡ Fine
    → refusal log.state.value client call ≡ None → reply value ≡ (answer log.state.value client call).reply
    → after.state.value ≡ (answer log.state.value client call).state → WritesDisk (IsErrOf {E = Refusal} (Ok value) refusals.DiskFault) (state seen.1) (state new)
    → CrashSurvives (asks client call) seen.0 (state seen.1) (state new) → LeavesCopy (IsErrOf {E = Refusal} (Ok value) refusals.DiskFault) (state seen.1) (state new)
    → WritesAs state client call reply (Ok value) seen (after.state.value, new)
call_done {A} {D} ways state log after disk new seen view managed unbroken client call reply value fine none replies_so leaves writes moments copy =
    let s : State = log.state.value in
    let whole : s.broken ≡ false = managed.broken ∙ unbroken in
    record {
      step = λ told. subst (λ (v : State × D). Step told v.0 client call (happened_of (reply value)) (reply value) after.state.value) view
          (subst (λ (h : Happened). Step told s client call h (reply value) after.state.value) (sym fine)
          (ways.answered told s client call (reply value) after.state.value whole none replies_so leaves));
      writes = writes;
      moments = moments;
      no_memory = λ want. absurd (cc want);
      stopped = never_stopped s disk new seen view whole;
      refused = tt;
      copy = copy;
    }

-- and it failed
pub call_faulted : {A D : Type 0} → GoesTheseWays → (state : D → DiskState) (log after : Log) (disk new : D) (seen : State × D) → (log.state.value, disk) ≡ seen
    → IsManaged (state disk) log → log.broken ≡ false → (client : ℕ) (call : Call) (reply : A → Reply) → refusal log.state.value client call ≡ None
    → calls_disk log.state.value call ≡ true → IsBroken log after → WritesDisk (IsErrOf {T = A} (Err refusals.DiskFault) refusals.DiskFault) (state seen.1) (state new)
    → CrashSurvives (asks client call) seen.0 (state seen.1) (state new) → WritesAs state client call reply (Err refusals.DiskFault) seen (after.state.value, new)
call_faulted {A} {D} ways state log after disk new seen view managed unbroken client call reply none called broken writes moments =
    let s : State = log.state.value in
    let whole : s.broken ≡ false = managed.broken ∙ unbroken in
    record {
      step = λ told. subst (λ (v : State × D). Step told v.0 client call Fault (replies.Refused refusals.DiskFault) after.state.value) view
          (subst (λ (t : State). Step told s client call Fault (replies.Refused refusals.DiskFault) t) (sym broken.state)
          (ways.faulted told s client call whole none called));
      writes = writes;
      moments = moments;
      no_memory = λ want. absurd (cc want);
      stopped = never_stopped s disk new seen view whole;
      refused = λ own. absurd (cc own);
      copy = copy_faulted (state seen.1) (state new) refl;
    }

-- and memory ran out
pub call_starved : {A D : Type 0} → GoesTheseWays → (state : D → DiskState) (log after : Log) (disk new : D) (seen : State × D) → (log.state.value, disk) ≡ seen
    → IsManaged (state disk) log → log.broken ≡ false → (client : ℕ) (call : Call) (reply : A → Reply) → takes_memory call ≡ true
    → after.state.value ≡ log.state.value → WritesDisk (IsErrOf {T = A} (Err refusals.NoMemory) refusals.DiskFault) (state seen.1) (state new)
    → CrashSurvives (asks client call) seen.0 (state seen.1) (state new) → CrashSurvives (bad_line 0) seen.0 (state seen.1) (state new)
    → LeavesCopy (IsErrOf {T = A} (Err refusals.NoMemory) refusals.DiskFault) (state seen.1) (state new)
    → WritesAs state client call reply (Err refusals.NoMemory) seen (after.state.value, new)
call_starved {A} {D} ways state log after disk new seen view managed unbroken client call reply takes same writes moments before copy =
    let s : State = log.state.value in
    let whole : s.broken ≡ false = managed.broken ∙ unbroken in
    record {
      step = λ told. subst (λ (v : State × D). Step told v.0 client call Fine (replies.Refused refusals.NoMemory) after.state.value) view
          (subst (λ (t : State). Step told s client call Fine (replies.Refused refusals.NoMemory) t) (sym same)
          (ways.no_memory told s client call Fine whole takes));
      writes = writes;
      moments = moments;
      no_memory = λ _. before;
      stopped = never_stopped s disk new seen view whole;
      refused = λ own. absurd (cc own);
      copy = copy;
    }

-- the LSN below which all is on the disk, once all was written
pub flushed_written : (s : State) (log : Log) (lsn : ℕ) → log.state.value ≡ flush s → Holds log.state.value log
    → (log.queue.waiting ≡ [] → lsn ≡ block_start log.queue.place) → lsn ≡ flushed (flush s)
flushed_written s log lsn is holds none =
    none (holds.waiting ∙ ap (λ (t : State). t.waiting) is) ∙ ap block_start (holds.place ∙ ap (λ (t : State). t.place) is)

-- a fault tells that the disk was called
pub fault_calls : {A E : Type 0} (called : Bool) (result : Result A E) (P : Type 0) → (called ≡ false → IsOk result × P) → is_err result ≡ true → called ≡ true
fault_calls true result P quiet failed = refl
fault_calls false result P quiet failed = absurd (never_ok result failed (quiet refl).0)

-- ---- how the size of the log was changed, as the call tells it

pub sized_fine : {A B : Type 0} (result : Result B PhysicalRefusal) (given : B) (value : A) (old new : DiskState) → result ≡ Ok given
    → WritesDisk (IsErrOf result physical.DiskFault) old new → WritesDisk (IsErrOf {E = Refusal} (Ok value) refusals.DiskFault) old new
sized_fine {A} {B} result given value old new is writes = writes_as (IsErrOf result physical.DiskFault) (IsErrOf {E = Refusal} (Ok value) refusals.DiskFault) old new
    (λ f. absurd (let wrong = subst (λ (r : Result B PhysicalRefusal). IsErrOf r physical.DiskFault) is f in cc wrong)) (λ f. absurd (cc f)) writes

pub sized_starved : {A B : Type 0} (result : Result B PhysicalRefusal) (old new : DiskState) → result ≡ Err physical.NoMemory
    → WritesDisk (IsErrOf result physical.DiskFault) old new → WritesDisk (IsErrOf {T = A} (Err refusals.NoMemory) refusals.DiskFault) old new
sized_starved {A} {B} result old new is writes = writes_as (IsErrOf result physical.DiskFault) (IsErrOf {T = A} (Err refusals.NoMemory) refusals.DiskFault) old new
    (λ f. absurd (let wrong = subst (λ (r : Result B PhysicalRefusal). IsErrOf r physical.DiskFault) is f in cc wrong)) (λ f. absurd (cc f)) writes

pub sized_faulted : {A B : Type 0} (result : Result B PhysicalRefusal) (old new : DiskState) → result ≡ Err physical.DiskFault
    → WritesDisk (IsErrOf result physical.DiskFault) old new → WritesDisk (IsErrOf {T = A} (Err refusals.DiskFault) refusals.DiskFault) old new
sized_faulted {A} {B} result old new is writes = writes_as (IsErrOf result physical.DiskFault) (IsErrOf {T = A} (Err refusals.DiskFault) refusals.DiskFault) old new
    (λ _. refl) (λ _. subst (λ (r : Result B PhysicalRefusal). IsErrOf r physical.DiskFault) (sym is) refl) writes

-- ---- what is on the disk of one state becomes that of another

-- and the call was done
pub stored_done : {A B D E : Type 0} → CallLaws → GoesTheseWays → KeepsValid → (state : D → DiskState) (log after : Log) (disk new : D) (seen : State × D)
    → (log.state.value, disk) ≡ seen → IsManaged (state disk) log → log.broken ≡ false → (client : ℕ) (call : Call) (reply : A → Reply) (value : A)
    → happened_of (reply value) ≡ Fine → (t : State) → refusal log.state.value client call ≡ None → reply value ≡ (answer log.state.value client call).reply
    → (answer log.state.value client call).state ≡ t → (result : Result B E) → is_err result ≡ false → OnOk result (after.state.value ≡ t)
    → OnOk result (StoredAfter (state disk) (state new) log.state.value after.state.value log.physical after.physical)
    → StoredMeanwhile (state disk) (state new) log.state.value t log.physical → Later (state disk) (state new)
    → (IsSteady (state disk) → AreMade log.physical.image (state disk).files → IsOk result × ((state new).faults ≡ (state disk).faults))
    → IsManaged (state new) after → after.broken ≡ log.broken → KeepsFiles (state disk) (state new) log.physical after.physical
    → WritesAs state client call reply (Ok value) seen (after.state.value, new)
stored_done {A} {B} {D} {E} laws ways keeps state log after disk new seen view managed unbroken client call reply value fine t none replies_so leaves result ok is stored meanwhile
    time steady later same files =
    let s : State = log.state.value in
    call_done ways state log after disk new seen view managed unbroken client call reply value fine none replies_so (on_ok result ok is ∙ sym leaves)
    (writes_seen state (s, disk) seen view (IsErrOf {E = Refusal} (Ok value) refusals.DiskFault) (state new)
    (writes_fine (IsErrOf {E = Refusal} (Ok value) refusals.DiskFault) (state disk) (state new) s after.state.value log after (λ f. cc f) (managed.whole unbroken)
    (on_ok result ok stored) time (λ calm made. (steady calm made).1)))
    (crash_written laws ways keeps state log disk seen view managed unbroken client call t (state new) none leaves meanwhile)
    (copy_of_call state log after disk new seen view managed unbroken later.whole time.nature _ (λ none. counts_kept (state disk) (state new) log after (same ∙ unbroken) files))

-- and it failed
pub stored_faulted : {A B D E : Type 0} → CallLaws → GoesTheseWays → KeepsValid → (state : D → DiskState) (log after : Log) (disk new : D) (seen : State × D)
    → (log.state.value, disk) ≡ seen → IsManaged (state disk) log → log.broken ≡ false → (client : ℕ) (call : Call) (reply : A → Reply) (t : State)
    → refusal log.state.value client call ≡ None → (answer log.state.value client call).state ≡ t → calls_disk log.state.value call ≡ true
    → (result : Result B E) → is_err result ≡ true → OnErr result (IsBroken log after) → StoredMeanwhile (state disk) (state new) log.state.value t log.physical
    → Later (state disk) (state new) → OnErr result (Rises (state disk).faults (state new).faults)
    → (IsSteady (state disk) → AreMade log.physical.image (state disk).files → IsOk result × ((state new).faults ≡ (state disk).faults))
    → WritesAs state client call reply (Err refusals.DiskFault) seen (after.state.value, new)
stored_faulted {A} {B} {D} {E} laws ways keeps state log after disk new seen view managed unbroken client call reply t none leaves called result failed broken meanwhile time
    cause steady =
    let s : State = log.state.value in
    call_faulted ways state log after disk new seen view managed unbroken client call reply none called (on_err result failed broken)
    (writes_seen state (s, disk) seen view (IsErrOf {T = A} (Err refusals.DiskFault) refusals.DiskFault) (state new)
    (writes_failed (IsErrOf {T = A} (Err refusals.DiskFault) refusals.DiskFault) (state disk) (state new) s log refl (managed.whole unbroken) time
    (on_err result failed cause) (λ calm made. never_ok result failed (steady calm made).0)))
    (crash_written laws ways keeps state log disk seen view managed unbroken client call t (state new) none leaves meanwhile)

-- ---- by the log's own call

-- What the log's own call tells of one that isn't broken, which is left as a call must leave it.
pub record LogWritesAs {A D : Type 0} (state : D → DiskState) (client : ℕ) (call : Call) (answer : A → Reply) (result : Result A Refusal) (old new : D) (before after : Log) : Type 0 where
  pub step : (told : Bool) → Steps told before.state.value client call answer result after.state.value
  pub left : IsLeft (state new) after
  pub writes : WritesDisk (IsErrOf result refusals.DiskFault) (state old) (state new)
  pub moments : CrashLeavesSurvivor (asks client call) before.state.value (state old) (state new)
  pub no_memory : IsErrOf result refusals.NoMemory → CrashLeavesSurvivor (bad_line 0) before.state.value (state old) (state new)
  pub refused : IfErr result (λ refusal. is_of_call refusal ≡ true → new ≡ old)
  pub files : (IsErrOf result refusals.DiskFault → ⊥) → CountsFiles (state old) (state new) before after

-- what such a log answers, its manager answers
pub call_of_log : {A D : Type 0} (state : D → DiskState) (log after : Log) (disk new : D) (seen : State × D) → (log.state.value, disk) ≡ seen
    → IsManaged (state disk) log → log.broken ≡ false → (client : ℕ) (call : Call) (reply : A → Reply) (result : Result A Refusal)
    → LogWritesAs state client call reply result disk new log after → WritesAs state client call reply result seen (after.state.value, new)
call_of_log {A} {D} state log after disk new seen view managed unbroken client call reply result is =
    let s : State = log.state.value in
    subst (λ (v : State × D). WritesAs state client call reply result v (after.state.value, new)) view (record {
      step = is.step;
      writes = is.writes;
      moments = λ _. is.moments;
      no_memory = λ want _. is.no_memory want;
      stopped = never_stopped s disk new (s, disk) refl (managed.broken ∙ unbroken);
      refused = is.refused;
      copy = copy_left _ (state disk) (state new) log after managed unbroken is.left.whole is.writes.time.nature is.files;
    })

-- and the manager is one still
pub managed_by_log : {A D : Type 0} (state : D → DiskState) (log after : Log) (disk new : D) (client : ℕ) (call : Call) (reply : A → Reply) (result : Result A Refusal)
    → KeepsValid → KeepsStorable → MeetsCondition client call → IsManaged (state disk) log → LogWritesAs state client call reply result disk new log after
    → IsManaged (state new) after
managed_by_log state log after disk new client call reply result valid storable meets managed is = record {
  valid = valid false log.state.value client call _ _ after.state.value managed.valid (is.step false);
  storable = storable false log.state.value client call _ _ after.state.value managed.valid managed.storable meets (is.step false);
  broken = is.left.broken;
  whole = is.left.whole;
}
