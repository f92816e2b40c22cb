-- What the steps of a store come to, call by call.
use Rattle.clfs_cells_laws.proofs.Words.{◌≡◌, ◌⊎◌, ℕ, ◌<◌, Bool, true, false, refl, sym, subst, ap, ◌∙◌, inl, inr, ◌^◌, slice_index, Refusal, State, TxnCall}
use Rattle.clfs_cells_laws.proofs.Words.{TxnRefusal, TxnReply, Answered, TxnStep, back_plan, begin_plan, checkpoint_plan, commit_plan, rollback_plan}
use Rattle.clfs_cells_laws.proofs.Words.{set_plan, unless, cell_count, Plan, CarriesOut, Memory, Store, with_begun, asks_log, begin_reason, table_reason}
use Rattle.clfs_cells_laws.proofs.Words.{HasArguments, IsCommitted, IsRolledBack, IsSetTo, IsTakenBack, for_room_or_outside, from_outside, is_of_log}
use Rattle.clfs_cells_laws.proofs.Words.{IsBrokenStore, IsKeptStore, IsStore}
use Rattle.std.specs.Prelude.{Option}
use Rattle.clfs_model.specs.declared.refusal.Refusal.TheVariants as log_refusals
use Rattle.clfs_cells.specs.declared.asked.TxnCall.TheVariants as asked
use Rattle.clfs_cells.specs.declared.told.TxnRefusal.TheVariants as denials
use Rattle.clfs_cells.specs.declared.told.TxnReply.TheVariants as told_replies
use Rattle.clfs_cells.specs.Calls.{unbroken}
use Rattle.clfs_cells_laws.specs.Steps.{is_within}
use Rattle.clfs_cells_laws.proofs.Ends.{IsDone, Lengths, Out, denied, done, set_out, stopped}
use Rattle.clfs_cells_laws.proofs.OtherEnds.{IsBegunAs, any_refusal, begin_out, checkpoint_out}
use Rattle.clfs_cells_laws.proofs.OwnCalls.{Laws}
use Rattle.clfs_cells_laws.proofs.TxnEnds.{back_out, commit_out, rollback_out}

-- ---- by how a call ends

abbrev pub answer_of : TxnReply → Store → Answered
answer_of reply t = record { reply = reply; memory = t.memory }

still_store : {tabled : Bool} → (allowed : Refusal → Bool) (own : Option TxnRefusal) (s : State) (memory : Memory) (answered : TxnReply → Type 0) (leaves : Memory → Type 0) (result : Answered) (v : State)
    → IsStore tabled s memory → Out tabled allowed own s memory answered leaves result v → IsKeptStore tabled v result.memory
still_store {tabled = tabled} allowed own s memory answered leaves result v store (denied given why own_one is same) =
    inr (subst (λ (x : State). IsStore tabled x result.memory) (sym same) (subst (λ (a : Answered). IsStore tabled s a.memory) (sym is) store))
still_store {tabled = tabled} allowed own s memory answered leaves result v store (stopped clear h) = h.left
still_store {tabled = tabled} allowed own s memory answered leaves result v store (done clear so left after) = inr after

left_done : {tabled : Bool} → (allowed : Refusal → Bool) (own : Option TxnRefusal) (s : State) (memory : Memory) (answered : TxnReply → Type 0) (leaves : Memory → Type 0) (reply : TxnReply) (now : Memory) (v : State)
    → ((given : TxnRefusal) → reply ≡ told_replies.Refused given → ⊥)
    → Out tabled allowed own s memory answered leaves (record { reply = reply; memory = now }) v → leaves now
left_done {tabled = tabled} allowed own s memory answered leaves reply now v fine (denied given why own_one is same) = absurd (fine given (ap (λ (a : Answered). a.reply) is))
left_done {tabled = tabled} allowed own s memory answered leaves reply now v fine (stopped clear h) = absurd (fine (denials.Log h.given) h.is)
left_done {tabled = tabled} allowed own s memory answered leaves reply now v fine (done clear so left after) = left

refused_so : {tabled : Bool} → (allowed : Refusal → Bool) (own : Option TxnRefusal) (s : State) (memory : Memory) (answered : TxnReply → Type 0) (leaves : Memory → Type 0) (given : Refusal) (now : Memory) (v : State)
    → (answered (told_replies.Refused (denials.Log given)) → ⊥)
    → Out tabled allowed own s memory answered leaves (record { reply = told_replies.Refused (denials.Log given); memory = now }) v → allowed given ≡ true
refused_so {tabled = tabled} allowed own s memory answered leaves given now v fine (denied other why own_one is same) =
    let both : denials.Log given ≡ other = cc (ap (λ (a : Answered). a.reply) is) in
    let of_log : true ≡ false = ap is_of_log both ∙ own_one in absurd (cc of_log)
refused_so {tabled = tabled} allowed own s memory answered leaves given now v fine (stopped clear h) =
    let same : given ≡ h.given = cc (h.is) in ap allowed same ∙ h.may
refused_so {tabled = tabled} allowed own s memory answered leaves given now v fine (done clear so left after) = absurd (fine so)

-- ---- by the call

-- a log that isn't broken lets the call go on
pub goes : (told : Bool) (s : Store) (plan : Plan Answered) (result : Answered) (v : State) → s.log.broken ≡ false
    → CarriesOut told s.memory.client s.log (unbroken s.log s.memory plan) result v → CarriesOut told s.memory.client s.log plan result v
goes told s plan result v whole carries =
    subst (λ (p : Plan Answered). CarriesOut told s.memory.client s.log p result v)
    (ap (λ (b : Bool). unless b (denials.Log log_refusals.Broken) s.memory plan) whole) carries

-- a broken one says so, and stays as it is
broken_says : (told : Bool) (s t : Store) (plan : Plan Answered) (reply : TxnReply) → s.log.broken ≡ true
    → CarriesOut told s.memory.client s.log (unbroken s.log s.memory plan) (answer_of reply t) t.log
    → (reply ≡ told_replies.Refused (denials.Log log_refusals.Broken)) × (t ≡ s)
broken_says told s t plan reply broken carries =
    let ended = subst (λ (p : Plan Answered). CarriesOut told s.memory.client s.log p (answer_of reply t) t.log)
    (ap (λ (b : Bool). unless b (denials.Log log_refusals.Broken) s.memory plan) broken) carries in
    let memory : t.memory ≡ s.memory = ap (λ (a : Answered). a.memory) ended.0 in
    (ap (λ (a : Answered). a.reply) ended.0, λ i. record { log = ended.1 i; memory = memory i })

pub broken_step : (told : Bool) (s t : Store) (call : TxnCall) (reply : TxnReply) → s.log.broken ≡ true → asks_log call ≡ true → TxnStep told s call reply t
    → (reply ≡ told_replies.Refused (denials.Log log_refusals.Broken)) × (t ≡ s)
unfolding TxnStep
broken_step told s t (asked.Begin changes) reply broken asks step = broken_says told s t (begin_plan s.memory changes) reply broken step
broken_step told s t (asked.Set number cell value) reply broken asks step = broken_says told s t (set_plan s.memory number cell value) reply broken step
broken_step told s t (asked.Back number kept) reply broken asks step = broken_says told s t (back_plan s.memory number kept) reply broken step
broken_step told s t (asked.Commit number) reply broken asks step = broken_says told s t (commit_plan s.memory number) reply broken step
broken_step told s t (asked.Rollback number) reply broken asks step = broken_says told s t (rollback_plan s.memory number) reply broken step
broken_step told s t (asked.Get cell) reply broken asks step = absurd (cc asks)
broken_step told s t asked.Checkpoint reply broken asks step = broken_says told s t (checkpoint_plan s.memory) reply broken step

pub get_leaves : (told : Bool) (s t : Store) (cell : ℕ) (reply : TxnReply) → TxnStep told s (asked.Get cell) reply t
    → (reply ≡ told_replies.Value (slice_index s.memory.cells cell)) × (t ≡ s)
unfolding TxnStep
get_leaves told s t cell reply step =
    let log : t.log ≡ s.log = step.1 in
    let memory : t.memory ≡ s.memory = ap (λ (a : Answered). a.memory) step.0 in
    (ap (λ (a : Answered). a.reply) step.0, λ i. record { log = log i; memory = memory i })

module _ (tabled : Bool) (laws : Laws) (lengths : Lengths) (told : Bool) (s t : Store) (store : IsStore tabled s.log s.memory) where
  pub set_ends : (number cell value : ℕ) (reply : TxnReply) → cell < cell_count → value < 2 ^ 64 → TxnStep told s (asked.Set number cell value) reply t
      → Out tabled from_outside (table_reason s.memory (asked.Set number cell value)) s.log s.memory IsDone (IsSetTo cell value s.memory) (answer_of reply t) t.log
  unfolding TxnStep
  set_ends number cell value reply inside fits step =
      set_out laws lengths told s.log s.memory number cell value (answer_of reply t) t.log store inside fits
      (goes told s (set_plan s.memory number cell value) (answer_of reply t) t.log store.whole step)

  pub back_ends : (number kept : ℕ) (reply : TxnReply) → TxnStep told s (asked.Back number kept) reply t
      → Out tabled from_outside (table_reason s.memory (asked.Back number kept)) s.log s.memory IsDone (IsTakenBack number kept s.memory) (answer_of reply t) t.log
  unfolding TxnStep
  back_ends number kept reply step =
      back_out laws lengths told s.log s.memory number kept (answer_of reply t) t.log store
      (goes told s (back_plan s.memory number kept) (answer_of reply t) t.log store.whole step)

  pub commit_ends : (number : ℕ) (reply : TxnReply) → TxnStep told s (asked.Commit number) reply t
      → Out tabled from_outside (table_reason s.memory (asked.Commit number)) s.log s.memory IsDone (IsCommitted number s.memory) (answer_of reply t) t.log
  unfolding TxnStep
  commit_ends number reply step =
      commit_out laws lengths told s.log s.memory number (answer_of reply t) t.log store
      (goes told s (commit_plan s.memory number) (answer_of reply t) t.log store.whole step)

  pub rollback_ends : (number : ℕ) (reply : TxnReply) → TxnStep told s (asked.Rollback number) reply t
      → Out tabled from_outside (table_reason s.memory (asked.Rollback number)) s.log s.memory IsDone (IsRolledBack number s.memory) (answer_of reply t) t.log
  unfolding TxnStep
  rollback_ends number reply step =
      rollback_out laws lengths told s.log s.memory number (answer_of reply t) t.log store
      (goes told s (rollback_plan s.memory number) (answer_of reply t) t.log store.whole step)

  begin_ends : (changes : ℕ) (reply : TxnReply) → TxnStep told s (asked.Begin changes) reply t
      → Out tabled for_room_or_outside (begin_reason s.memory) s.log s.memory (IsBegunAs s.memory) (λ now. now ≡ with_begun changes s.memory) (answer_of reply t) t.log
  unfolding TxnStep
  begin_ends changes reply step =
      begin_out laws told s.log s.memory changes (answer_of reply t) t.log store
      (goes told s (begin_plan s.memory changes) (answer_of reply t) t.log store.whole step)

  checkpoint_ends : (reply : TxnReply) → TxnStep told s asked.Checkpoint reply t
      → Out tabled any_refusal (table_reason s.memory asked.Checkpoint) s.log s.memory IsDone (λ now. now ≡ s.memory) (answer_of reply t) t.log
  unfolding TxnStep
  checkpoint_ends reply step =
      checkpoint_out laws told s.log s.memory (answer_of reply t) t.log store
      (goes told s (checkpoint_plan s.memory) (answer_of reply t) t.log store.whole step)

  get_ends : (cell : ℕ) (reply : TxnReply) → TxnStep told s (asked.Get cell) reply t → IsKeptStore tabled t.log t.memory
  unfolding TxnStep
  get_ends cell reply step =
      inr (subst (λ (x : State). IsStore tabled x t.memory) (sym step.1) (subst (λ (a : Answered). IsStore tabled s.log a.memory) (sym step.0) store))

  whole_stays : (call : TxnCall) (reply : TxnReply) → HasArguments call → TxnStep told s call reply t → IsKeptStore tabled t.log t.memory
  whole_stays (asked.Begin changes) reply has step = still_store _ _ s.log s.memory _ _ (answer_of reply t) t.log store (begin_ends changes reply step)
  whole_stays (asked.Set number cell value) reply has step = still_store _ _ s.log s.memory _ _ (answer_of reply t) t.log store (set_ends number cell value reply has.0 has.1 step)
  whole_stays (asked.Back number kept) reply has step = still_store _ _ s.log s.memory _ _ (answer_of reply t) t.log store (back_ends number kept reply step)
  whole_stays (asked.Commit number) reply has step = still_store _ _ s.log s.memory _ _ (answer_of reply t) t.log store (commit_ends number reply step)
  whole_stays (asked.Rollback number) reply has step = still_store _ _ s.log s.memory _ _ (answer_of reply t) t.log store (rollback_ends number reply step)
  whole_stays (asked.Get cell) reply has step = get_ends cell reply step
  whole_stays asked.Checkpoint reply has step = still_store _ _ s.log s.memory _ _ (answer_of reply t) t.log store (checkpoint_ends reply step)

  not_done : (given : TxnRefusal) → told_replies.Done ≡ told_replies.Refused given → ⊥
  not_done given is = cc is

  not_log : (given : Refusal) → IsDone (told_replies.Refused (denials.Log given)) → ⊥
  not_log given is = cc is

  whole_set_leaves : (number cell value : ℕ) → cell < cell_count → value < 2 ^ 64 → TxnStep told s (asked.Set number cell value) told_replies.Done t → IsSetTo cell value s.memory t.memory
  whole_set_leaves number cell value inside fits step = left_done _ _ s.log s.memory _ _ told_replies.Done t.memory t.log not_done (set_ends number cell value told_replies.Done inside fits step)

  whole_back_leaves : (number kept : ℕ) → TxnStep told s (asked.Back number kept) told_replies.Done t → IsTakenBack number kept s.memory t.memory
  whole_back_leaves number kept step = left_done _ _ s.log s.memory _ _ told_replies.Done t.memory t.log not_done (back_ends number kept told_replies.Done step)

  whole_rollback_leaves : (number : ℕ) → TxnStep told s (asked.Rollback number) told_replies.Done t → IsRolledBack number s.memory t.memory
  whole_rollback_leaves number step = left_done _ _ s.log s.memory _ _ told_replies.Done t.memory t.log not_done (rollback_ends number told_replies.Done step)

  whole_commit_leaves : (number : ℕ) → TxnStep told s (asked.Commit number) told_replies.Done t → IsCommitted number s.memory t.memory
  whole_commit_leaves number step = left_done _ _ s.log s.memory _ _ told_replies.Done t.memory t.log not_done (commit_ends number told_replies.Done step)

  whole_begin_leaves : (changes number : ℕ) → TxnStep told s (asked.Begin changes) (told_replies.Begun number) t → t.memory ≡ with_begun changes s.memory
  whole_begin_leaves changes number step =
      left_done _ _ s.log s.memory _ _ (told_replies.Begun number) t.memory t.log (λ given is. cc is) (begin_ends changes (told_replies.Begun number) step)

  whole_checkpoint_leaves : TxnStep told s asked.Checkpoint told_replies.Done t → t.memory ≡ s.memory
  whole_checkpoint_leaves step = left_done _ _ s.log s.memory _ _ told_replies.Done t.memory t.log not_done (checkpoint_ends told_replies.Done step)

  whole_within : (call : TxnCall) (given : Refusal) → HasArguments call → is_within call ≡ true → TxnStep told s call (told_replies.Refused (denials.Log given)) t
      → from_outside given ≡ true
  whole_within (asked.Set number cell value) given has is step =
      refused_so from_outside _ s.log s.memory _ _ given t.memory t.log (not_log given) (set_ends number cell value (told_replies.Refused (denials.Log given)) has.0 has.1 step)
  whole_within (asked.Back number kept) given has is step =
      refused_so from_outside _ s.log s.memory _ _ given t.memory t.log (not_log given) (back_ends number kept (told_replies.Refused (denials.Log given)) step)
  whole_within (asked.Commit number) given has is step =
      refused_so from_outside _ s.log s.memory _ _ given t.memory t.log (not_log given) (commit_ends number (told_replies.Refused (denials.Log given)) step)
  whole_within (asked.Rollback number) given has is step =
      refused_so from_outside _ s.log s.memory _ _ given t.memory t.log (not_log given) (rollback_ends number (told_replies.Refused (denials.Log given)) step)
  whole_within (asked.Begin changes) given has is step = absurd (cc is)
  whole_within (asked.Get cell) given has is step = absurd (cc is)
  whole_within asked.Checkpoint given has is step = absurd (cc is)

  whole_begin_refused : (changes : ℕ) (given : Refusal) → TxnStep told s (asked.Begin changes) (told_replies.Refused (denials.Log given)) t → for_room_or_outside given ≡ true
  whole_begin_refused changes given step =
      refused_so for_room_or_outside _ s.log s.memory _ _ given t.memory t.log (λ is. cc is) (begin_ends changes (told_replies.Refused (denials.Log given)) step)

-- ---- whether it is broken or not

-- what it leaves if it is done
by_kept : {tabled : Bool} → {P : Type 0} (told : Bool) (s t : Store) (call : TxnCall) (reply : TxnReply) → asks_log call ≡ true → (reply ≡ told_replies.Refused (denials.Log log_refusals.Broken) → P)
    → (IsStore tabled s.log s.memory → P) → IsKeptStore tabled s.log s.memory → TxnStep told s call reply t → P
by_kept {tabled = tabled} told s t call reply asks of_broken of_whole (inl broken) step = of_broken (broken_step told s t call reply broken.broken asks step).0
by_kept {tabled = tabled} told s t call reply asks of_broken of_whole (inr store) step = of_whole store

module _ (tabled : Bool) (laws : Laws) (lengths : Lengths) (told : Bool) (s t : Store) (kept_so : IsKeptStore tabled s.log s.memory) where
  pub stays : (call : TxnCall) (reply : TxnReply) → HasArguments call → TxnStep told s call reply t → IsKeptStore tabled t.log t.memory
  stays call reply has step = elim kept_so [
    | inl broken ↦ inl (subst (λ (x : Store). IsBrokenStore tabled x.log x.memory) (sym (still call reply broken.broken step)) broken)
    | inr store ↦ whole_stays tabled laws lengths told s t store call reply has step
  ]
    where
      still : (call : TxnCall) (reply : TxnReply) → s.log.broken ≡ true → TxnStep told s call reply t → t ≡ s
      still (asked.Get cell) reply broken step = (get_leaves told s t cell reply step).1
      still (asked.Begin changes) reply broken step = (broken_step told s t (asked.Begin changes) reply broken refl step).1
      still (asked.Set number cell value) reply broken step = (broken_step told s t (asked.Set number cell value) reply broken refl step).1
      still (asked.Back number kept) reply broken step = (broken_step told s t (asked.Back number kept) reply broken refl step).1
      still (asked.Commit number) reply broken step = (broken_step told s t (asked.Commit number) reply broken refl step).1
      still (asked.Rollback number) reply broken step = (broken_step told s t (asked.Rollback number) reply broken refl step).1
      still asked.Checkpoint reply broken step = (broken_step told s t asked.Checkpoint reply broken refl step).1

  pub set_leaves : (number cell value : ℕ) → cell < cell_count → value < 2 ^ 64 → TxnStep told s (asked.Set number cell value) told_replies.Done t → IsSetTo cell value s.memory t.memory
  set_leaves number cell value inside fits step =
      by_kept told s t (asked.Set number cell value) told_replies.Done refl (λ is. absurd (cc is))
      (λ store. whole_set_leaves tabled laws lengths told s t store number cell value inside fits step) kept_so step

  pub back_leaves : (number kept : ℕ) → TxnStep told s (asked.Back number kept) told_replies.Done t → IsTakenBack number kept s.memory t.memory
  back_leaves number kept step =
      by_kept told s t (asked.Back number kept) told_replies.Done refl (λ is. absurd (cc is))
      (λ store. whole_back_leaves tabled laws lengths told s t store number kept step) kept_so step

  pub rollback_leaves : (number : ℕ) → TxnStep told s (asked.Rollback number) told_replies.Done t → IsRolledBack number s.memory t.memory
  rollback_leaves number step =
      by_kept told s t (asked.Rollback number) told_replies.Done refl (λ is. absurd (cc is))
      (λ store. whole_rollback_leaves tabled laws lengths told s t store number step) kept_so step

  pub commit_leaves : (number : ℕ) → TxnStep told s (asked.Commit number) told_replies.Done t → IsCommitted number s.memory t.memory
  commit_leaves number step =
      by_kept told s t (asked.Commit number) told_replies.Done refl (λ is. absurd (cc is))
      (λ store. whole_commit_leaves tabled laws lengths told s t store number step) kept_so step

  pub begin_leaves : (changes number : ℕ) → TxnStep told s (asked.Begin changes) (told_replies.Begun number) t → t.memory ≡ with_begun changes s.memory
  begin_leaves changes number step =
      by_kept told s t (asked.Begin changes) (told_replies.Begun number) refl (λ is. absurd (cc is))
      (λ store. whole_begin_leaves tabled laws lengths told s t store changes number step) kept_so step

  pub checkpoint_leaves : TxnStep told s asked.Checkpoint told_replies.Done t → t.memory ≡ s.memory
  checkpoint_leaves step =
      by_kept told s t asked.Checkpoint told_replies.Done refl (λ is. absurd (cc is))
      (λ store. whole_checkpoint_leaves tabled laws lengths told s t store step) kept_so step

  says_outside : (given : Refusal) → told_replies.Refused (denials.Log given) ≡ told_replies.Refused (denials.Log log_refusals.Broken) → from_outside given ≡ true
  says_outside given is = let same : given ≡ log_refusals.Broken = cc is in ap from_outside same

  asks_within : (call : TxnCall) → is_within call ≡ true → asks_log call ≡ true
  asks_within (asked.Get cell) is = absurd (cc is)
  asks_within (asked.Begin changes) is = refl
  asks_within (asked.Set number cell value) is = refl
  asks_within (asked.Back number kept) is = refl
  asks_within (asked.Commit number) is = refl
  asks_within (asked.Rollback number) is = refl
  asks_within asked.Checkpoint is = refl

  pub within : (call : TxnCall) (given : Refusal) → HasArguments call → is_within call ≡ true → TxnStep told s call (told_replies.Refused (denials.Log given)) t
      → from_outside given ≡ true
  within call given has is step =
      by_kept told s t call (told_replies.Refused (denials.Log given)) (asks_within call is) (says_outside given)
      (λ store. whole_within tabled laws lengths told s t store call given has is step) kept_so step

  pub begin_refused : (changes : ℕ) (given : Refusal) → TxnStep told s (asked.Begin changes) (told_replies.Refused (denials.Log given)) t → for_room_or_outside given ≡ true
  begin_refused changes given step =
      by_kept told s t (asked.Begin changes) (told_replies.Refused (denials.Log given)) refl
      (λ is. let same : given ≡ log_refusals.Broken = cc is in ap for_room_or_outside same)
      (λ store. whole_begin_refused tabled laws lengths told s t store changes given step) kept_so step
