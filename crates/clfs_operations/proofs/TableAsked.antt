-- What a call of a store answered, as the answer to what a line asks for.
use Rattle.std.proofs.Common.{◌≡◌, ◌∙◌, ◌⊎◌, ℕ, Bool, Result, Ok, Err, true, false, ap, arith, inl, inr, refl, sym, subst}
use Rattle.std.specs.Prelude.{IsErrOf, IsTrue, OnErr, OnOk}
use Rattle.clfs_disk.specs.State.{DiskState, Later, Nature, TellsContents}
use Rattle.clfs_model.specs.declared.refusal.Refusal.TheVariants as log_refusals
use Rattle.clfs_manager.specs.Written.{WritesDisk}
use Rattle.clfs_cells.specs.declared.asked.TxnCall.{TxnCall}
use Rattle.clfs_cells.specs.declared.told.TxnRefusal.{TxnRefusal}
use Rattle.clfs_cells.specs.declared.told.TxnRefusal.TheVariants.{Log}
use Rattle.clfs_cells.specs.declared.told.TxnReply.{TxnReply}
use Rattle.clfs_cells.specs.declared.told.TxnReply.TheVariants.{Refused}
use Rattle.clfs_cells.specs.Calls.{TxnStep}
use Rattle.clfs_cells.specs.Stored.{Store}
use Rattle.clfs_cells.specs.Table.{table}
use Rattle.clfs_cells_laws.specs.Breaking.{reads_back, tells_table_damage}
use Rattle.clfs_cells_laws.specs.Crashes.{EndsSafe, IsSafe, is_answer, table_once}
use Rattle.clfs_txn.specs.Calls.{TxnSteps, replied}
use Rattle.clfs_txn.specs.Crashes.{CrashLeavesTable, KeepsTable, LeavesTableOf}
use Rattle.clfs_txn.specs.UnderWay.{asking}
use Rattle.clfs_operations.specs.TableAnswered.{AnswersAsked, LineStep, asks_nothing, fault_reply, table_asked}

-- a refusal that tells a fault is such a reply
fault_reply_of : (A : Type 0) (answer : A → TxnReply) (result : Result A TxnRefusal) (reply : TxnReply) → reply ≡ replied answer result
    → IsErrOf result (Log log_refusals.DiskFault) → reply ≡ fault_reply
fault_reply_of A answer result reply is fault = is ∙ ap (λ (r : Result A TxnRefusal). replied answer r) fault

-- such a reply is of a refusal that tells a fault
fault_of_reply : {A : Type 0} (answer : A → TxnReply) (result : Result A TxnRefusal) (reply : TxnReply) → ((value : A) → answer value ≡ fault_reply → ⊥)
    → reply ≡ replied answer result → reply ≡ fault_reply → IsErrOf result (Log log_refusals.DiskFault)
fault_of_reply answer (Ok value) reply never is fault = absurd (never value (sym is ∙ fault))
fault_of_reply answer (Err refusal) reply never is fault = let same : Refused refusal ≡ fault_reply = sym is ∙ fault in cc same

writes_as : (old new : DiskState) (P Q : Type 0) → (P → Q) → (Q → P) → WritesDisk P old new → WritesDisk Q old new
writes_as old new P Q to from writes = record {
  time = writes.time;
  cause = λ fault. writes.cause (from fault);
  whole = λ none. writes.whole (λ fault. none (to fault));
  steady = λ steady told whole. let fine = writes.steady steady told whole in (λ fault. fine.0 (from fault), fine.1);
}

pub answered_as : {A : Type 0} (D : Type 0) (state : D → DiskState) (old new : D) (s t : Store) (call : TxnCall) (answer : A → TxnReply) (result : Result A TxnRefusal) (reply : TxnReply)
    → ((value : A) → answer value ≡ fault_reply → ⊥) → reply ≡ replied answer result → TxnSteps (state old).nature.tells_contents s call answer result t
    → WritesDisk (IsErrOf result (Log log_refusals.DiskFault)) (state old) (state new) → (s.log.broken ≡ true → new ≡ old)
    → (TellsContents (state old) → tells_table_damage reply ≡ false) → asks_nothing (Ok call) ≡ false → LeavesTableOf s call (state old) (state new)
    → KeepsTable (state old) s call answer result t → (s.log.broken ≡ false → IsSafe s.log s.memory.stream → is_answer reply ≡ true
    → CrashLeavesTable (table_once s call) (table_once s call) (asking s call) (state new) (state new))
    → AnswersAsked s (state old) (Ok call) reply t (state new)
answered_as D state old new s t call answer result reply never is step writes stopped damage asks moments keeps lasts = record {
  crash = λ whole safe. record {
    nothing = λ none. let no : true ≡ false = sym none ∙ asks in absurd (cc no);
    moments = λ _. moments whole safe;
    lasts = λ _ answered. lasts whole safe answered;
    kept = λ tells. subst (λ (r : TxnReply). (t.log.broken ≡ true) ⊎ EndsSafe (table s.log) (table_once s call) t.memory.stream r t.log) (sym is) (keeps tells whole safe);
  };
  step = subst (λ (r : TxnReply). TxnStep (state old).nature.tells_contents s call r t) (sym is) step;
  writes = writes_as (state old) (state new) (IsErrOf result (Log log_refusals.DiskFault)) (reply ≡ fault_reply)
      (fault_reply_of _ answer result reply is) (fault_of_reply answer result reply never is) writes;
  damage = damage;
  stopped = λ broken. record {
    clock = ap (λ (d : D). (state d).clock) (stopped broken);
    images = λ moment image at. subst (λ (d : D). (state d).image_at moment image) (stopped broken) at;
  };
}

-- a call that doesn't read tells no damage
pub quiet_reply : {A : Type 0} → ((told : Bool) (s : Store) (call : TxnCall) (reply : TxnReply) (t : Store) → reads_back call ≡ false → TxnStep told s call reply t
    → tells_table_damage reply ≡ false) → (told : Bool) (s t : Store) (call : TxnCall) (answer : A → TxnReply) (result : Result A TxnRefusal) (reply : TxnReply)
    → reads_back call ≡ false → reply ≡ replied answer result → TxnSteps told s call answer result t → tells_table_damage reply ≡ false
quiet_reply quiet told s t call answer result reply unread is step = ap tells_table_damage is ∙ quiet told s call (replied answer result) t unread step

-- a call that reads tells none where its refusal isn't one
pub no_damage_reply : {A : Type 0} (answer : A → TxnReply) (result : Result A TxnRefusal) (reply : TxnReply) → ((value : A) → tells_table_damage (answer value) ≡ false)
    → reply ≡ replied answer result → ((container offset at : ℕ) → IsErrOf result (Log (log_refusals.Damaged container offset at)) → ⊥) → tells_table_damage reply ≡ false
no_damage_reply answer (Ok value) reply fine is none = ap tells_table_damage is ∙ fine value
no_damage_reply answer (Err refusal) reply fine is none = ap tells_table_damage is ∙ by_refusal refusal none
  where
    by_refusal : {B : Type 0} (given : TxnRefusal) → ((container offset at : ℕ) → IsErrOf {T = B} (Err given) (Log (log_refusals.Damaged container offset at)) → ⊥)
        → tells_table_damage (Refused given) ≡ false
    by_refusal (Log (log_refusals.Damaged container offset at)) never = absurd (never container offset at refl)
    by_refusal _ never = refl

-- what is so holds also if there is an error
pub if_refused : {T E P : Type 0} (result : Result T E) → P → OnErr result P
if_refused (Ok value) holds = tt
if_refused (Err e) holds = holds

-- ---- what a crash leaves once a call is answered

-- a call that leaves the table
lasts_same : (s : Store) (call : TxnCall) (old new : DiskState) (reply : TxnReply) → table_once s call ≡ table s.log → new.nature ≡ old.nature → LeavesTableOf s call old new
    → s.log.broken ≡ false → IsSafe s.log s.memory.stream → is_answer reply ≡ true → CrashLeavesTable (table_once s call) (table_once s call) (asking s call) new new
lasts_same s call old new reply same nature moments whole safe answered honest =
    let left = moments whole safe (subst (λ (n : Nature). IsTrue n.tells_contents × IsTrue n.tells_images) nature honest) in record {
      later = omega arith;
      past = λ moment image le at. at;
      each = λ moment image from until at.
          let held = left.each moment image (let first = left.later in omega (arith, first, from)) until at in record {
            log = held.log;
            stands = held.stands;
            either = elim held.either [ inl before ↦ inl (before ∙ sym same) | inr after ↦ inl after ];
            survivor = held.survivor;
            left = held.left;
            same = held.same;
          };
    }

-- a commit
pub lasts_of : {A P : Type 0} (answer : A → TxnReply) (result : Result A TxnRefusal) (reply : TxnReply) → reply ≡ replied answer result → OnOk result P → is_answer reply ≡ true → P
lasts_of answer (Ok value) reply is holds answered = holds
lasts_of answer (Err refusal) reply is holds answered = let no : true ≡ false = sym answered ∙ ap is_answer is in absurd (cc no)

-- a call that leaves the table was answered
pub answered_leaving : {A : Type 0} (D : Type 0) (state : D → DiskState) (old new : D) (s t : Store) (call : TxnCall) (answer : A → TxnReply) (result : Result A TxnRefusal) (reply : TxnReply)
    → ((value : A) → answer value ≡ fault_reply → ⊥) → reply ≡ replied answer result → TxnSteps (state old).nature.tells_contents s call answer result t
    → WritesDisk (IsErrOf result (Log log_refusals.DiskFault)) (state old) (state new) → (s.log.broken ≡ true → new ≡ old)
    → (TellsContents (state old) → tells_table_damage reply ≡ false) → asks_nothing (Ok call) ≡ false → table_once s call ≡ table s.log
    → LeavesTableOf s call (state old) (state new) → KeepsTable (state old) s call answer result t → AnswersAsked s (state old) (Ok call) reply t (state new)
answered_leaving D state old new s t call answer result reply never is step writes stopped damage asks same moments keeps =
    answered_as D state old new s t call answer result reply never is step writes stopped damage asks moments keeps
    (lasts_same s call (state old) (state new) reply same writes.time.nature moments)

-- nothing was asked of the disk

later_still : (disk : DiskState) → Later disk disk
later_still disk = record {
  later = omega arith;
  past = λ moment image le at. at;
  kept = λ moment image le at. at;
  images = λ moment image after until at. absurd (omega (arith, after, until));
  faults = omega arith;
  nature = refl;
}

pub nothing_asked : (s : Store) (disk : DiskState) (asked : Result TxnCall ℕ) (reply : TxnReply) → LineStep disk.nature.tells_contents s asked reply s
    → (reply ≡ fault_reply → ⊥) → tells_table_damage reply ≡ false → asks_nothing asked ≡ true → table_asked s asked ≡ table s.log
    → AnswersAsked s disk asked reply s disk
nothing_asked s disk asked reply step fine well none same = record {
  step = step;
  writes = record {
    time = later_still disk;
    cause = λ fault. absurd (fine fault);
    whole = λ _ tells whole. whole;
    steady = λ calm tells whole. (fine, refl);
  };
  damage = λ tells. well;
  stopped = λ broken. record { clock = refl; images = λ moment image at. at };
  crash = λ whole safe. record {
    nothing = λ _. record { clock = refl; images = λ moment image at. at };
    moments = λ some. let no : true ≡ false = sym none ∙ some in absurd (cc no);
    lasts = λ some. let no : true ≡ false = sym none ∙ some in absurd (cc no);
    kept = λ tells. inr (record { safe = safe; either = inl refl; answered = λ _. sym same });
  };
}
