-- What a crash leaves of a store's table while a call of it is under way, and what the call leaves of it.
use Rattle.clfs_txn.proofs.Words.{◌≡◌, ◌⊎◌, ℕ, Bool, true, false, refl, sym, subst, ◌∙◌, inl, inr, List, Result, Ok, DiskState, Leaves, State, bad_line}
use Rattle.clfs_txn.proofs.Words.{Survives, CrashSurvives, HoldSurvivor, TxnCall, TxnRefusal, TxnReply, TxnStep, txn_plan, LoadStep, Memory, Store, table}
use Rattle.clfs_txn.proofs.Words.{LeavesTables, IsKeptStore, TxnSteps, CrashLeavesTable, HoldsTable, HoldsLeft, IsLeftMeanwhile, LeavesCalls, Meanwhile}
use Rattle.clfs_cells.specs.declared.asked.TxnCall.TheVariants as asked
use Rattle.clfs_cells.specs.declared.told.TxnReply.TheVariants as replies
use Rattle.clfs_cells_laws.specs.Crashes.{EndsSafe, IsSafe, table_joined, table_once}
use Rattle.clfs_cells_laws.specs.Steps.{HasArguments}
use Rattle.clfs_cells_laws.specs.Stores.{IsStore}
use Rattle.clfs_txn.specs.Crashes.{KeepsTable, LeavesTableOf}
use Rattle.clfs_txn.specs.UnderWay.{asking}
use Rattle.clfs_txn.proofs.Left.{SameTable, along_left, left_has_table, table_held}
use Rattle.clfs_txn.proofs.Moments.{asked_leaves, leaves_weaker}

-- ---- what the laws say

pub record Crashes : Type 0 where
  pub left : (s : Store) (call : TxnCall) → HasArguments call → IsStore true s.log s.memory → IsSafe s.log s.memory.stream
      → LeavesTables (table s.log) (table_once s call) true s.memory.client s.log (txn_plan s.log s.memory call)
  pub ends : (s t : Store) (call : TxnCall) (reply : TxnReply) → HasArguments call → IsStore true s.log s.memory → IsSafe s.log s.memory.stream
      → TxnStep true s call reply t → (t.log.broken ≡ true) ⊎ EndsSafe (table s.log) (table_once s call) t.memory.stream reply t.log
  pub at_rest : (s : Store) (at : ℕ) (x : State) → IsStore true s.log s.memory → IsSafe s.log s.memory.stream → Survives (bad_line at) s.log x → table x ≡ table s.log
  pub same : SameTable

-- ---- a disk that tells what it holds

pub whole_store : (told : Bool) (s : Store) → told ≡ true → s.log.broken ≡ false → IsKeptStore told s.log s.memory → IsStore true s.log s.memory
whole_store told s tells whole (inl broken) = let no : true ≡ false = sym broken.broken ∙ whole in absurd (cc no)
whole_store told s tells whole (inr store) = subst (λ (b : Bool). IsStore b s.log s.memory) tells store

-- ---- while a call is under way

leaves_of : (told : Bool) (s : Store) (call : TxnCall) (old new : DiskState) → Crashes → old.nature.tells_contents ≡ told → HasArguments call → IsKeptStore told s.log s.memory
    → CrashSurvives (bad_line 0) s.log old old
    → Meanwhile (asking s call) told s.memory.client s.log (txn_plan s.log s.memory call) old new
    → LeavesTableOf s call old new
leaves_of told s call old new laws is has kept survives meanwhile whole safe honest =
    let tells : told ≡ true = sym is ∙ honest.0 in
    let plan = txn_plan s.log s.memory call in
    let under = asking s call in
    let along = subst (λ (b : Bool). LeavesCalls under b s.memory.client s.log plan) (sym tells) (along_left under s.memory.client s.log plan (λ x left. inr left)) in
    let present = asked_leaves under (bad_line 0) s.log old old (λ x left. inl left) whole survives in
    leaves_weaker (HoldsLeft under) (HoldsTable (table s.log) (table_once s call) under) old new
    (table_held (table s.log) (table_once s call) under laws.same (tables (whole_store told s tells whole kept)) (λ x left. inl left)) (meanwhile along present honest)
  where
    tables : IsStore true s.log s.memory → (x : State) → IsLeftMeanwhile (asking s call) x → (table x ≡ table s.log) ⊎ (table x ≡ table_once s call)
    tables store x (inl rests) = inl (laws.at_rest s 0 x store safe rests)
    tables store x (inr under) = left_has_table (table s.log) (table_once s call) s.memory.client s.log (txn_plan s.log s.memory call) (laws.left s call has store safe) x under

pub moments : {X : Type 0} (state : X → DiskState) (inside seen : Store × X) (call : TxnCall) (new : DiskState) → Crashes → inside ≡ seen → HasArguments call
    → IsKeptStore (state inside.1).nature.tells_contents inside.0.log inside.0.memory → CrashSurvives (bad_line 0) inside.0.log (state inside.1) (state inside.1)
    → Meanwhile (asking inside.0 call) (state inside.1).nature.tells_contents inside.0.memory.client inside.0.log
    (txn_plan inside.0.log inside.0.memory call) (state inside.1) new
    → LeavesTableOf seen.0 call (state seen.1) new
moments {X = X} state inside seen call new laws view has kept survives meanwhile =
    subst (λ (v : Store × X). LeavesTableOf v.0 call (state v.1) new) view
    (leaves_of (state inside.1).nature.tells_contents inside.0 call (state inside.1) new laws refl has kept survives meanwhile)

-- ---- once it is answered

pub keeps : {A X : Type 0} (state : X → DiskState) (inside seen : Store × X) (call : TxnCall) (answer : A → TxnReply) (result : Result A TxnRefusal) (t : Store) → Crashes
    → inside ≡ seen → HasArguments call → IsKeptStore (state inside.1).nature.tells_contents inside.0.log inside.0.memory
    → TxnSteps (state inside.1).nature.tells_contents inside.0 call answer result t → KeepsTable (state seen.1) seen.0 call answer result t
keeps {A = A} {X = X} state inside seen call answer result t laws view has kept step =
    subst (λ (v : Store × X). KeepsTable (state v.1) v.0 call answer result t) view go
  where
    go : KeepsTable (state inside.1) inside.0 call answer result t
    go tells whole safe =
        let so : (state inside.1).nature.tells_contents ≡ true = tells in
        laws.ends inside.0 t call _ has (whole_store (state inside.1).nature.tells_contents inside.0 so whole kept) safe
        (subst (λ (b : Bool). TxnSteps b inside.0 call answer result t) so step)

-- ---- a commit that was answered

pub lasts : (told : Bool) (s t : Store) (number : ℕ) (disk : DiskState) → Crashes → told ≡ disk.nature.tells_contents → s.log.broken ≡ false → t.log.broken ≡ false
    → IsKeptStore told s.log s.memory → IsKeptStore told t.log t.memory → CrashSurvives (bad_line 0) t.log disk disk → IsSafe s.log s.memory.stream
    → TxnStep true s (asked.Commit number) replies.Done t
    → CrashLeavesTable (table_joined s.log s.memory.stream number) (table_joined s.log s.memory.stream number) (asking s (asked.Commit number)) disk disk
lasts told s t number disk laws is whole_s whole kept_s kept survives safe step honest =
    let tells : told ≡ true = is ∙ honest.0 in
    rested (laws.ends s t (asked.Commit number) replies.Done tt (whole_store told s tells whole_s kept_s) safe step) (whole_store told t tells whole kept)
  where
    rested : (t.log.broken ≡ true) ⊎ EndsSafe (table s.log) (table_once s (asked.Commit number)) t.memory.stream replies.Done t.log → IsStore true t.log t.memory
        → Leaves (HoldsTable (table_joined s.log s.memory.stream number) (table_joined s.log s.memory.stream number) (asking s (asked.Commit number))) disk disk
    rested (inl broken) store = let no : true ≡ false = sym broken ∙ whole in absurd (cc no)
    rested (inr ended) store =
        let joined : List ℕ = table_joined s.log s.memory.stream number in
        leaves_weaker (HoldSurvivor false (bad_line 0) t.log) (HoldsTable joined joined (asking s (asked.Commit number))) disk disk (λ image held. record {
          log = held.opened;
          stands = held.stands;
          either = inl (sym (laws.same held.survivor held.opened held.same) ∙ laws.at_rest t 0 held.survivor store ended.safe held.survives ∙ ended.answered refl);
          survivor = held.survivor;
          left = inr (replies.Done, t, (step, held.survives));
          same = held.same;
        }) (survives whole honest false (λ full. absurd (cc full)))

-- ---- a table that was loaded

pub loaded_kept : (told : Bool) (log : State) (client : ℕ) (memory : Memory) (t : State) → (LoadStep false log client (Ok memory) t → IsStore false t memory)
    → (LoadStep true log client (Ok memory) t → IsStore true t memory) → LoadStep told log client (Ok memory) t → IsKeptStore told t memory
loaded_kept true log client memory t untold tells step = inr (tells step)
loaded_kept false log client memory t untold tells step = inr (untold step)

pub so_safe : (log : State) (stream : ℕ) → log.broken ≡ false → (log.broken ≡ true) ⊎ IsSafe log stream → IsSafe log stream
so_safe log stream whole (inl broken) = let no : true ≡ false = sym broken ∙ whole in absurd (cc no)
so_safe log stream whole (inr safe) = safe
