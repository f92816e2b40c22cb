-- Whether a log is broken after a call, by its answer.
use Rattle.clfs_txn.proofs.Words.{◌≡◌, ◌≢◌, ℕ, Bool, true, false, Result, Ok, Err, refl, sym, ◌∙◌, IfErr, OnOk, AllByRecursion, Call, Refusal, Happened, Fine}
use Rattle.clfs_txn.proofs.Words.{Fault, Damage, Reply, State, happened_of, happened_of_refusal, Step, IsValid, Steps, replied, Memory, Store, is_break}
use Rattle.clfs_txn.proofs.Words.{AreLogged}
use Rattle.clfs_model.specs.declared.refusal.Refusal.TheVariants as refusals
use Rattle.clfs_model.specs.declared.reply.Reply.TheVariants as replies
use Rattle.clfs_txn.specs.Calls.{breaks}
use Rattle.clfs_txn.specs.Kept.{IsKept}
use Rattle.clfs_txn.proofs.Appended.{OnlyAdds}
use Rattle.clfs_txn.proofs.Logged.{all_logged_on}

-- what the laws say of broken logs
pub record Laws : Type 0 where
  pub fault : (told : Bool) (s : State) (client : ℕ) (call : Call) (happened : Happened) (reply : Reply) (t : State)
      → Step told s client call happened reply t → happened_of reply ≡ Fault → t.broken ≡ true
  pub damage : (told : Bool) (s : State) (client : ℕ) (call : Call) (happened : Happened) (reply : Reply) (t : State)
      → Step told s client call happened reply t → happened_of reply ≡ Damage → t.broken ≡ true
  pub unbroken : (told : Bool) (s : State) (client : ℕ) (call : Call) (happened : Happened) (reply : Reply) (t : State)
      → s.broken ≡ false → happened_of reply ≡ Fine → Step told s client call happened reply t
      → (t.broken ≡ false) × (reply ≢ replies.Refused refusals.Broken)
  pub adds : OnlyAdds

-- after a refusal
refused : Laws → (told : Bool) (s : State) (client : ℕ) (call : Call) (refusal : Refusal) (t : State) → s.broken ≡ false
    → Step told s client call (happened_of_refusal refusal) (replies.Refused refusal) t → t.broken ≡ is_break refusal
refused laws told s client call refusals.DiskFault t whole step = laws.fault told s client call Fault (replies.Refused refusals.DiskFault) t step refl
refused laws told s client call (refusals.Damaged container offset at) t whole step =
    laws.damage told s client call Damage (replies.Refused (refusals.Damaged container offset at)) t step refl
refused laws told s client call other t whole step = (laws.unbroken told s client call Fine (replies.Refused other) t whole refl step).0

-- after any answer, where one that isn't a refusal tells of nothing that happened
pub broken_then : {A : Type 0} → Laws → (told : Bool) (s : State) (client : ℕ) (call : Call) (answer : A → Reply) (result : Result A Refusal) (t : State)
    → ((value : A) → happened_of (answer value) ≡ Fine) → s.broken ≡ false → Steps told s client call answer result t → t.broken ≡ breaks result
broken_then laws told s client call answer (Ok value) t fine whole step =
    (laws.unbroken told s client call (happened_of (answer value)) (answer value) t whole (fine value) step).0
broken_then laws told s client call answer (Err refusal) t fine whole step = refused laws told s client call refusal t whole step

-- the sets of the open transactions are in the log still
pub still_logged : OnlyAdds → (told : Bool) (s : State) (client : ℕ) (call : Call) (happened : Happened) (reply : Reply) (t : State) (memory : Memory) → IsValid s
    → Step told s client call happened reply t → AllByRecursion (AreLogged s) memory.transactions → AllByRecursion (AreLogged t) memory.transactions
still_logged adds told s client call happened reply t memory valid step logged =
    let more = adds told s client call happened reply t valid step in all_logged_on s t more.0 memory.transactions more.1 logged

-- a store that has noted what its log's call answered
pub kept_by : {A : Type 0} → Laws → (told : Bool) (s : State) (client : ℕ) (call : Call) (answer : A → Reply) (result : Result A Refusal) (t : State)
    (memory : Memory) (before after : Bool) → IsValid s → IsKept s memory before → ((value : A) → happened_of (answer value) ≡ Fine) → s.broken ≡ false
    → Steps told s client call answer result t → after ≡ breaks result → IsKept t memory after
kept_by laws told s client call answer result t memory before after valid kept fine whole step noted = record {
  knows = noted ∙ sym (broken_then laws told s client call answer result t fine whole step);
  client = kept.client;
  logged = still_logged laws.adds told s client call (happened_of (replied answer result)) (replied answer result) t memory valid step kept.logged;
}

pub kept_after : {A : Type 0} → Laws → (s : State) (client : ℕ) (call : Call) (answer : A → Reply) (result : Result A Refusal) (t : State)
    (memory : Memory) (before after : Bool) → IsValid s → IsKept s memory before → ((value : A) → happened_of (answer value) ≡ Fine) → s.broken ≡ false
    → Steps true s client call answer result t → after ≡ breaks result → IsKept t memory after
kept_after laws s client call answer result t memory before after valid kept fine whole step noted =
    kept_by laws true s client call answer result t memory before after valid kept fine whole step noted

-- the log isn't broken where the call was answered
pub whole_then : {A : Type 0} (result : Result A Refusal) (broken : Bool) → broken ≡ breaks result → OnOk result (broken ≡ false)
whole_then (Ok value) broken is = is
whole_then (Err refusal) broken is = tt

fine_of : (refusal : Refusal) → is_break refusal ≡ false → happened_of_refusal refusal ≡ Fine
fine_of refusals.DiskFault e = absurd (cc e)
fine_of (refusals.Damaged container offset at) e = absurd (cc e)
fine_of other e = refl

-- a refusal leaves the log as it was, unless it is of a fault or of damage
pub unchanged : {A : Type 0} → ((told : Bool) (s : State) (client : ℕ) (call : Call) (happened : Happened) (refusal : Refusal) (t : State)
    → Step told s client call happened (replies.Refused refusal) t → happened_of_refusal refusal ≡ Fine → t ≡ s)
    → (told : Bool) (s old : State) (client : ℕ) (call : Call) (answer : A → Reply) (result : Result A Refusal) (t : State) → s ≡ old
    → Steps told s client call answer result t → IfErr result (λ refusal. is_break refusal ≡ false → t ≡ old)
unchanged law told s old client call answer (Ok value) t seen step = tt
unchanged law told s old client call answer (Err refusal) t seen step = λ fine.
    law told s client call (happened_of_refusal refusal) refusal t step (fine_of refusal fine) ∙ seen

pub same_store : (s t : Store) → t.log ≡ s.log → t.memory ≡ s.memory → t ≡ s
same_store s t p q = λ i. record { log = p i; memory = q i }
