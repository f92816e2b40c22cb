-- All calls of a store: what a crash leaves in them, and how they end.
use Rattle.clfs_cells_laws.proofs.Words.{◌≡◌, ◌⊎◌, ℕ, Bool, true, false, refl, sym, subst, inl, inr, List, [], Ok, length, Call, State, bad_line}
use Rattle.clfs_cells_laws.proofs.Words.{fine_outcome, areas_of, Survives, IsValid, TxnCall, TxnReply, Answered, TxnStep, txn_plan, unless, LoadStep}
use Rattle.clfs_cells_laws.proofs.Words.{load_plan, Plan, ends, never, CarriesOut, Memory, Store, table, Along, EndsSafe, IsSafe, IsSafeLog, LeavesEither}
use Rattle.clfs_cells_laws.proofs.Words.{LoadsSafe, table_once, HasArguments, IsStore}
use Rattle.clfs_model.specs.declared.refusal.Refusal.TheVariants as refusals
use Rattle.clfs_cells.specs.declared.asked.TxnCall.TheVariants as asked
use Rattle.clfs_cells.specs.declared.told.TxnRefusal.TheVariants as denials
use Rattle.clfs_cells.specs.Plans.{calls as then_calls}
use Rattle.clfs_cells_laws.proofs.Along.{Rising}
use Rattle.clfs_cells_laws.proofs.AlongCalls.{EndsAs, along_back, along_begin, along_rollback, along_set}
use Rattle.clfs_cells_laws.proofs.AlongCheckpoint.{along_checkpoint}
use Rattle.clfs_cells_laws.proofs.AlongCommit.{along_commit}
use Rattle.clfs_cells_laws.proofs.AlongOpen.{load_along}
use Rattle.clfs_cells_laws.proofs.LeftBy.{quiet_left}
use Rattle.clfs_cells_laws.proofs.OwnCalls.{Laws}

-- ---- along any plan

-- what holds at the end of a plan that was carried out
pub at_end : {A : Type 0} (P : Call → State → Type 0) (E : A → State → Type 0) (told : Bool) (client : ℕ) (l : State) (plan : Plan A) (result : A) (t : State)
    → Along P E told client l plan → CarriesOut told client l plan result t → E result t
at_end P E told client l (ends value) result t along (is, at) = subst (E result) (sym at) (subst (λ a. E a l) (sym is) along)
at_end P E told client l (then_calls call rest) result t along (happened, reply, mid, (step, behind)) =
    at_end P E told client mid (rest reply) result t (along.1 happened reply mid step) behind
at_end P E told client l never result t along carries = absurd carries

-- the same of the calls alone
pub calls_alone : {A : Type 0} (P : Call → State → Type 0) (E : A → State → Type 0) (told : Bool) (client : ℕ) (l : State) (plan : Plan A)
    → Along P E told client l plan → Along P (λ _ _. Unit {0}) told client l plan
calls_alone P E told client l (ends value) along = tt
calls_alone P E told client l (then_calls call rest) along =
    (along.0, λ happened reply mid step. calls_alone P E told client mid (rest reply) (along.1 happened reply mid step))
calls_alone P E told client l never along = tt

-- ---- all calls

unbroken_along : (before after : List ℕ) (s : State) (memory : Memory) (plan : Plan Answered) → s.broken ≡ false
    → Along (LeavesEither before after memory.client) (EndsAs before after) true memory.client s plan
    → Along (LeavesEither before after memory.client) (EndsAs before after) true memory.client s (unless s.broken (denials.Log refusals.Broken) memory plan)
unbroken_along before after s memory plan whole along =
    subst (λ (b : Bool). Along (LeavesEither before after memory.client) (EndsAs before after) true memory.client s (unless b (denials.Log refusals.Broken) memory plan)) (sym whole) along

pub along_call_of : Laws → Rising → (s : Store) (call : TxnCall) → HasArguments call → IsStore true s.log s.memory → IsSafe s.log s.memory.stream
    → Along (LeavesEither (table s.log) (table_once s call) s.memory.client) (EndsAs (table s.log) (table_once s call)) true s.memory.client s.log (txn_plan s.log s.memory call)
along_call_of laws rising s (asked.Begin changes) has store safe =
    unbroken_along (table s.log) (table s.log) s.log s.memory _ store.whole (along_begin laws rising s.log s.memory changes store safe)
along_call_of laws rising s (asked.Set number cell value) has store safe =
    unbroken_along (table s.log) (table s.log) s.log s.memory _ store.whole (along_set laws rising s.log s.memory number cell value store safe has.0 has.1)
along_call_of laws rising s (asked.Back number kept) has store safe =
    unbroken_along (table s.log) (table s.log) s.log s.memory _ store.whole (along_back laws rising s.log s.memory number kept store safe)
along_call_of laws rising s (asked.Commit number) has store safe =
    unbroken_along (table s.log) (table_once s (asked.Commit number)) s.log s.memory _ store.whole (along_commit laws rising s.log s.memory number store safe)
along_call_of laws rising s (asked.Rollback number) has store safe =
    unbroken_along (table s.log) (table s.log) s.log s.memory _ store.whole (along_rollback laws rising s.log s.memory number store safe)
along_call_of laws rising s (asked.Get cell) has store safe = inr (record { safe = safe; either = inl refl; answered = λ e. refl })
along_call_of laws rising s asked.Checkpoint has store safe =
    unbroken_along (table s.log) (table s.log) s.log s.memory _ store.whole (along_checkpoint laws rising s.log s.memory store safe)

pub ends_so : Laws → Rising → (s t : Store) (call : TxnCall) (reply : TxnReply) → HasArguments call → IsStore true s.log s.memory → IsSafe s.log s.memory.stream
    → TxnStep true s call reply t → (t.log.broken ≡ true) ⊎ EndsSafe (table s.log) (table_once s call) t.memory.stream reply t.log
unfolding TxnStep
ends_so laws rising s t call reply has store safe step =
    at_end (LeavesEither (table s.log) (table_once s call) s.memory.client) (EndsAs (table s.log) (table_once s call)) true s.memory.client s.log (txn_plan s.log s.memory call)
    (record { reply = reply; memory = t.memory }) t.log (along_call_of laws rising s call has store safe) step

pub rests : (s : Store) (at : ℕ) (x : State) → IsStore true s.log s.memory → IsSafe s.log s.memory.stream → Survives (bad_line at) s.log x → table x ≡ table s.log
unfolding fine_outcome
rests s at x store safe survives = quiet_left (bad_line at) s.log s.log x s.memory.stream store.valid store.stream safe refl refl survives

pub loads_safe : Laws → Rising → (log : State) (client : ℕ) (memory : Memory) (t : State) → IsValid log → log.broken ≡ false → areas_of log client ≡ [] → IsSafeLog log
    → LoadStep true log client (Ok memory) t → (t.broken ≡ true) ⊎ IsSafe t memory.stream
unfolding LoadStep
loads_safe laws rising log client memory t valid whole none safe step =
    at_end (LeavesEither (table log) (table log) client) LoadsSafe true client log (load_plan (length log.records) client) (Ok memory) t
    (load_along laws rising (length log.records) log client valid whole none safe) step
