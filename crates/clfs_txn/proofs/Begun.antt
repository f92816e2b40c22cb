-- The ways in which the beginning of a transaction goes.
use Rattle.clfs_txn.proofs.Words.{◌≡◌, ℕ, Bool, true, false, length, refl, sym, subst, ◌∙◌, ◌<◌, ◌≤◌, arith, ◌==◌, nat_le, slice_index, eq-eqb, ne_eqb}
use Rattle.clfs_txn.proofs.Words.{Refusal, happened_of, happened_of_refusal, Step, Plan, calls, Answered, TxnStep, txn_plan, stops, answers, Store, Memory}
use Rattle.clfs_txn.proofs.Words.{most_records, with_begun, DiskState, CrashLeaves, LeavesCall, Meanwhile, UnderWay}
use Rattle.std.specs.Prelude.{◌+◌, replicate}
use Rattle.std.proofs.lemmas.Bool.{le-leb, lt-leb}
use Rattle.clfs_model.specs.declared.call.Call.TheVariants as log_calls
use Rattle.clfs_model.specs.declared.refusal.Refusal.TheVariants as log_refusals
use Rattle.clfs_model.specs.declared.reply.Reply.TheVariants as log_replies
use Rattle.clfs_cells.specs.declared.asked.TxnCall.TheVariants as asked
use Rattle.clfs_cells.specs.declared.told.TxnRefusal.TheVariants as refusals
use Rattle.clfs_cells.specs.declared.told.TxnReply.TheVariants as replies
use Rattle.clfs_cells.specs.Plans.{on_held}
use Rattle.clfs_txn.proofs.Carried.{passed, met, one_call, step_is, refused_at_once}
use Rattle.clfs_txn.proofs.Moments.{first_call, meanwhile_as}

pub broken : (told : Bool) (s : Store) (changes : ℕ) → s.log.broken ≡ true
    → TxnStep told s (asked.Begin changes) (replies.Refused (refusals.Log log_refusals.Broken)) s
broken told s changes e = refused_at_once told s (asked.Begin changes) (refusals.Log log_refusals.Broken) (met s.log.broken _ s.memory _ e)

pub limit : (told : Bool) (s : Store) (changes : ℕ) → s.log.broken ≡ false → nat_le 8 (length s.memory.transactions) ≡ true
    → TxnStep told s (asked.Begin changes) (replies.Refused (refusals.TxnLimit (length s.memory.transactions))) s
limit told s changes e f =
    refused_at_once told s (asked.Begin changes) (refusals.TxnLimit (length s.memory.transactions)) (passed s.log.broken _ s.memory _ e ∙ met _ _ s.memory _ f)

pub spent : (told : Bool) (s : Store) (changes : ℕ) → s.log.broken ≡ false → nat_le 8 (length s.memory.transactions) ≡ false
    → (s.memory.last == 4294967295) ≡ true → TxnStep told s (asked.Begin changes) (replies.Refused refusals.IdsSpent) s
spent told s changes e f g =
    refused_at_once told s (asked.Begin changes) refusals.IdsSpent (passed s.log.broken _ s.memory _ e ∙ (passed _ _ s.memory _ f ∙ met _ _ s.memory _ g))

-- what is asked of the log
reserving : Memory → ℕ → Plan Answered
reserving memory changes = calls (log_calls.Reserve memory.area (replicate (most_records changes) 24))
    (on_held (stops memory) (answers (replies.Begun (memory.last + 1)) (with_begun changes memory)))

reserves : (s : Store) (changes : ℕ) → s.log.broken ≡ false → nat_le 8 (length s.memory.transactions) ≡ false
    → (s.memory.last == 4294967295) ≡ false → txn_plan s.log s.memory (asked.Begin changes) ≡ reserving s.memory changes
unfolding reserving
reserves s changes e f g = passed s.log.broken _ s.memory _ e ∙ (passed _ _ s.memory _ f ∙ passed _ _ s.memory _ g)

pub refused : (told : Bool) (s : Store) (changes : ℕ) (refusal : Refusal) (u : Store) → s.log.broken ≡ false
    → nat_le 8 (length s.memory.transactions) ≡ false → (s.memory.last == 4294967295) ≡ false
    → Step told s.log s.memory.client (log_calls.Reserve s.memory.area (replicate (most_records changes) 24)) (happened_of_refusal refusal)
    (log_replies.Refused refusal) u.log
    → u.memory ≡ s.memory → TxnStep told s (asked.Begin changes) (replies.Refused (refusals.Log refusal)) u
unfolding reserving
refused told s changes refusal u e f g step same =
    let result : Answered = record { reply = replies.Refused (refusals.Log refusal); memory = u.memory } in
    let told_is : result ≡ record { reply = replies.Refused (refusals.Log refusal); memory = s.memory } = λ i. record { reply = replies.Refused (refusals.Log refusal); memory = same i } in
    step_is told s (asked.Begin changes) (replies.Refused (refusals.Log refusal)) u (reserving s.memory changes) (reserves s changes e f g)
    (one_call told s.memory.client s.log _ _ (log_replies.Refused refusal) u.log result u.log step (told_is, refl))

pub done : (told : Bool) (s : Store) (changes sectors number : ℕ) (u : Store) → s.log.broken ≡ false
    → nat_le 8 (length s.memory.transactions) ≡ false → (s.memory.last == 4294967295) ≡ false
    → Step told s.log s.memory.client (log_calls.Reserve s.memory.area (replicate (most_records changes) 24)) (happened_of (log_replies.Held sectors))
    (log_replies.Held sectors) u.log
    → number ≡ s.memory.last + 1 → u.memory ≡ with_begun changes s.memory → TxnStep told s (asked.Begin changes) (replies.Begun number) u
unfolding reserving
done told s changes sectors number u e f g step is same =
    let result : Answered = record { reply = replies.Begun number; memory = u.memory } in
    let told_is : result ≡ record { reply = replies.Begun (s.memory.last + 1); memory = with_begun changes s.memory }
    = λ i. record { reply = replies.Begun (is i); memory = same i } in
    step_is told s (asked.Begin changes) (replies.Begun number) u (reserving s.memory changes) (reserves s changes e f g)
    (one_call told s.memory.client s.log _ _ (log_replies.Held sectors) u.log result u.log step (told_is, refl))

-- a cell's value
pub told_value : (told : Bool) (s : Store) (cell value : ℕ) → value ≡ slice_index s.memory.cells cell → TxnStep told s (asked.Get cell) (replies.Value value) s
told_value told s cell value is =
    step_is told s (asked.Get cell) (replies.Value value) s (answers (replies.Value (slice_index s.memory.cells cell)) s.memory) refl
    ((λ i. record { reply = replies.Value (is i); memory = s.memory }), refl)

-- ---- the same by what was computed

eight : (n m : ℕ) → n ≡ m → n ≡ 8 → nat_le 8 m ≡ true
eight n m is all = le-leb 8 m (omega (arith, is, all))

pub some_room : (n m : ℕ) → n ≡ m → n ≤ 8 → (n ≡ 8 → ⊥) → nat_le 8 m ≡ false
some_room n m is few not_all = lt-leb 8 m (below m (omega (arith, is, few)) (λ e. not_all (is ∙ e)))
  where
    below : (m : ℕ) → m ≤ 8 → (m ≡ 8 → ⊥) → m < 8
    below m few not_all = grind arith

pub limit_of : (told : Bool) (s : Store) (changes n : ℕ) → s.log.broken ≡ false → n ≡ length s.memory.transactions → n ≡ 8
    → TxnStep told s (asked.Begin changes) (replies.Refused (refusals.TxnLimit n)) s
limit_of told s changes n e is all =
    subst (λ (k : ℕ). TxnStep told s (asked.Begin changes) (replies.Refused (refusals.TxnLimit k)) s) (sym is)
    (limit told s changes e (eight n (length s.memory.transactions) is all))

pub is_last : (n m : ℕ) → n ≡ m → n ≡ 4294967295 → (m == 4294967295) ≡ true
is_last n m is all = eq-eqb m 4294967295 (sym is ∙ all)

pub is_not_last : (n m : ℕ) → n ≡ m → (n ≡ 4294967295 → ⊥) → (m == 4294967295) ≡ false
is_not_last n m is not_all = ne_eqb m 4294967295 (λ e. not_all (is ∙ e))

-- what a crash leaves while the room is reserved
pub begin_meanwhile : (under : UnderWay) (told : Bool) (s : Store) (changes : ℕ) (old new : DiskState) → s.log.broken ≡ false
    → nat_le 8 (length s.memory.transactions) ≡ false → (s.memory.last == 4294967295) ≡ false
    → (LeavesCall under s.memory.client (log_calls.Reserve s.memory.area (replicate (most_records changes) 24)) s.log → CrashLeaves under old new)
    → Meanwhile under told s.memory.client s.log (txn_plan s.log s.memory (asked.Begin changes)) old new
unfolding reserving
begin_meanwhile under told s changes old new e f g leaves =
    meanwhile_as under told s.memory.client s.log (reserving s.memory changes) _ old new (reserves s changes e f g)
    (first_call under told s.memory.client s.log (log_calls.Reserve s.memory.area (replicate (most_records changes) 24)) _ old new e leaves)
