-- The ways in which a set goes.
use Rattle.clfs_txn.proofs.Words.{◌≡◌, inl, inr, ℕ, Bool, true, false, length, Option, Some, None, refl, sym, ap, ◌∙◌, nat_le, option_map, option_map_or}
use Rattle.clfs_txn.proofs.Words.{Refusal, happened_of, happened_of_refusal, Step, TxnCall, Set, TxnRefusal, Plan, Answered, TxnStep, txn_plan, refuses}
use Rattle.clfs_txn.proofs.Words.{over_transaction, append_call, change_to, Store, Memory, Transaction, transaction, holder, newest_standing, with_set}
use Rattle.clfs_txn.proofs.Words.{IsFound, IsNotFound, DiskState, CrashLeaves, LeavesCall, Meanwhile, UnderWay}
use Rattle.clfs_model.specs.declared.reply.Reply.TheVariants as log_replies
use Rattle.clfs_cells.specs.declared.asked.TxnCall.TheVariants as asked
use Rattle.clfs_cells.specs.declared.told.TxnRefusal.TheVariants as refusals
use Rattle.clfs_cells.specs.declared.told.TxnReply.TheVariants as replies
use Rattle.clfs_cells.specs.Calls.{unbroken, set_cell}
use Rattle.clfs_txn.proofs.Carried.{passed, met, one_call, step_is, refused_at_once}
use Rattle.clfs_txn.proofs.Moments.{first_call, meanwhile_as}

pub over : (memory : Memory) (number : ℕ) (go : Transaction → Plan Answered) (found : Option Transaction) → transaction memory number ≡ found
    → over_transaction memory number go ≡ option_map_or go found (refuses memory refusals.NoSuchTxn)
over memory number go found is = ap (λ (o : Option Transaction). option_map_or go o (refuses memory refusals.NoSuchTxn)) is

-- what a call does that is of an open transaction
pub goes_on : (s : Store) (call : TxnCall) (number : ℕ) (t : Transaction) (go : Transaction → Plan Answered)
    → txn_plan s.log s.memory call ≡ unbroken s.log s.memory (over_transaction s.memory number go) → IsFound s number t
    → txn_plan s.log s.memory call ≡ go t
goes_on s call number t go plan found = plan ∙ (passed s.log.broken _ s.memory _ found.whole ∙ over s.memory number go (Some t) found.there)

-- where there is no such transaction
pub not_found : (told : Bool) (s : Store) (call : TxnCall) (number : ℕ) (refusal : TxnRefusal) (go : Transaction → Plan Answered)
    → txn_plan s.log s.memory call ≡ unbroken s.log s.memory (over_transaction s.memory number go) → IsNotFound s number refusal
    → TxnStep told s call (replies.Refused refusal) s
not_found told s call number refusal go plan (inl broken) =
    refused_at_once told s call refusal (plan ∙ (met s.log.broken _ s.memory _ broken.0 ∙ ap (λ (r : TxnRefusal). refuses s.memory r) (sym broken.1)))
not_found told s call number refusal go plan (inr none) =
    refused_at_once told s call refusal
    (plan ∙ (passed s.log.broken _ s.memory _ none.0 ∙ (over s.memory number go None none.1 ∙ ap (λ (r : TxnRefusal). refuses s.memory r) (sym none.2))))

-- ---- a set

held_by : (memory : Memory) (found : Option Transaction) (number : ℕ) (others : Plan Answered) → Some number ≡ option_map (λ (t : Transaction). t.number) found
    → option_map_or (λ (other : Transaction). refuses memory (refusals.CellHeld other.number)) found others ≡ refuses memory (refusals.CellHeld number)
held_by memory None number others is = absurd (cc is)
held_by memory (Some other) number others is = let same : number ≡ other.number = cc is in ap (λ (n : ℕ). refuses memory (refusals.CellHeld n)) (sym same)

held_by_none : (memory : Memory) (found : Option Transaction) (others : Plan Answered) → None ≡ option_map (λ (t : Transaction). t.number) found
    → option_map_or (λ (other : Transaction). refuses memory (refusals.CellHeld other.number)) found others ≡ others
held_by_none memory None others is = refl
held_by_none memory (Some other) others is = absurd (cc is)

pub held : (told : Bool) (s : Store) (number cell value : ℕ) (t : Transaction) (other : ℕ) → IsFound s number t
    → Some other ≡ option_map (λ (t : Transaction). t.number) (holder s.memory number cell)
    → TxnStep told s (asked.Set number cell value) (replies.Refused (refusals.CellHeld other)) s
held told s number cell value t other found is =
    refused_at_once told s (asked.Set number cell value) (refusals.CellHeld other)
    (goes_on s (asked.Set number cell value) number t _ refl found ∙ held_by s.memory (holder s.memory number cell) other _ is)

pub spent : (told : Bool) (s : Store) (number cell value : ℕ) (t : Transaction) → IsFound s number t
    → None ≡ option_map (λ (t : Transaction). t.number) (holder s.memory number cell) → nat_le t.changes (length t.made) ≡ true
    → TxnStep told s (asked.Set number cell value) (replies.Refused (refusals.ChangesSpent t.changes)) s
spent told s number cell value t found free all =
    refused_at_once told s (asked.Set number cell value) (refusals.ChangesSpent t.changes)
    (goes_on s (asked.Set number cell value) number t _ refl found ∙ (held_by_none s.memory (holder s.memory number cell) _ free ∙ met _ _ s.memory _ all))

appends : (s : Store) (number cell value : ℕ) (t : Transaction) → IsFound s number t
    → None ≡ option_map (λ (t : Transaction). t.number) (holder s.memory number cell) → nat_le t.changes (length t.made) ≡ false
    → txn_plan s.log s.memory (asked.Set number cell value) ≡ set_cell s.memory t (change_to s.memory cell value)
appends s number cell value t found free some =
    goes_on s (asked.Set number cell value) number t _ refl found ∙ (held_by_none s.memory (holder s.memory number cell) _ free ∙ passed _ _ s.memory _ some)

pub refused : (told : Bool) (s : Store) (number cell value : ℕ) (t : Transaction) (refusal : Refusal) (u : Store) → IsFound s number t
    → None ≡ option_map (λ (t : Transaction). t.number) (holder s.memory number cell) → nat_le t.changes (length t.made) ≡ false
    → Step told s.log s.memory.client (append_call s.memory t (Set (change_to s.memory cell value)) (newest_standing t) false) (happened_of_refusal refusal)
    (log_replies.Refused refusal) u.log
    → u.memory ≡ s.memory → TxnStep told s (asked.Set number cell value) (replies.Refused (refusals.Log refusal)) u
refused told s number cell value t refusal u found free some step same =
    let result : Answered = record { reply = replies.Refused (refusals.Log refusal); memory = u.memory } in
    let told_is : result ≡ record { reply = replies.Refused (refusals.Log refusal); memory = s.memory } = λ i. record { reply = replies.Refused (refusals.Log refusal); memory = same i } in
    step_is told s (asked.Set number cell value) (replies.Refused (refusals.Log refusal)) u (set_cell s.memory t (change_to s.memory cell value))
    (appends s number cell value t found free some)
    (one_call told s.memory.client s.log _ _ (log_replies.Refused refusal) u.log result u.log step (told_is, refl))

pub done : (told : Bool) (s : Store) (number cell value : ℕ) (t : Transaction) (lsn : ℕ) (u : Store) → IsFound s number t
    → None ≡ option_map (λ (t : Transaction). t.number) (holder s.memory number cell) → nat_le t.changes (length t.made) ≡ false
    → Step told s.log s.memory.client (append_call s.memory t (Set (change_to s.memory cell value)) (newest_standing t) false)
    (happened_of (log_replies.Placed lsn)) (log_replies.Placed lsn) u.log
    → u.memory ≡ with_set t (change_to s.memory cell value) lsn s.memory → TxnStep told s (asked.Set number cell value) replies.Done u
done told s number cell value t lsn u found free some step same =
    let result : Answered = record { reply = replies.Done; memory = u.memory } in
    let told_is : result ≡ record { reply = replies.Done; memory = with_set t (change_to s.memory cell value) lsn s.memory }
    = λ i. record { reply = replies.Done; memory = same i } in
    step_is told s (asked.Set number cell value) replies.Done u (set_cell s.memory t (change_to s.memory cell value))
    (appends s number cell value t found free some)
    (one_call told s.memory.client s.log _ _ (log_replies.Placed lsn) u.log result u.log step (told_is, refl))

-- what a crash leaves while the record is appended
pub set_meanwhile : (under : UnderWay) (told : Bool) (s : Store) (number cell value : ℕ) (t : Transaction) (old new : DiskState) → IsFound s number t
    → None ≡ option_map (λ (t : Transaction). t.number) (holder s.memory number cell) → nat_le t.changes (length t.made) ≡ false
    → (LeavesCall under s.memory.client (append_call s.memory t (Set (change_to s.memory cell value)) (newest_standing t) false) s.log
    → CrashLeaves under old new)
    → Meanwhile under told s.memory.client s.log (txn_plan s.log s.memory (asked.Set number cell value)) old new
set_meanwhile under told s number cell value t old new found free some leaves =
    meanwhile_as under told s.memory.client s.log (set_cell s.memory t (change_to s.memory cell value)) _ old new (appends s number cell value t found free some)
    (first_call under told s.memory.client s.log (append_call s.memory t (Set (change_to s.memory cell value)) (newest_standing t) false) _ old new found.whole leaves)
