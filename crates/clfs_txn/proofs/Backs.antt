-- The ways in which taking sets back and rolling back go.
use Rattle.clfs_txn.proofs.Words.{◌≡◌, ℕ, ◌-◌, ◌<◌, ◌≤◌, Bool, false, length, Result, Some, refl, sym, subst, ap, ◌∙◌, arith, lt-ltb, le-ltb, Refusal}
use Rattle.clfs_txn.proofs.Words.{RolledBack, TxnRefusal, Answered, TxnStep, answers, end_plan, over_transaction, stops, txn_plan, undo_sets, Plan}
use Rattle.clfs_txn.proofs.Words.{CarriesOut, Memory, Store, Transaction, standing, IsFound, Leads, TxnSteps, DiskState, Meanwhile, UnderWay}
use Rattle.clfs_cells.specs.declared.asked.TxnCall.TheVariants as asked
use Rattle.clfs_cells.specs.declared.told.TxnRefusal.TheVariants as refusals
use Rattle.clfs_cells.specs.declared.told.TxnReply.TheVariants as replies
use Rattle.clfs_txn.specs.Calls.{Carries, replied}
use Rattle.clfs_txn.proofs.Carried.{as_plan, met, passed, refused_at_once, step_is}
use Rattle.clfs_txn.proofs.Sets.{goes_on, over}
use Rattle.clfs_txn.proofs.Moments.{meanwhile_as, meanwhile_by, meanwhile_then}

-- more are to be kept than stand
pub too_many : (told : Bool) (s : Store) (number kept have : ℕ) (t : Transaction) → IsFound s number t → have ≡ length (standing t) → have < kept
    → TxnStep told s (asked.Back number kept) (replies.Refused (refusals.KeptTooMany have)) s
too_many told s number kept have t found is less =
    subst (λ (n : ℕ). TxnStep told s (asked.Back number kept) (replies.Refused (refusals.KeptTooMany n)) s) (sym is)
    (refused_at_once told s (asked.Back number kept) (refusals.KeptTooMany (length (standing t)))
    (goes_on s (asked.Back number kept) number t _ refl found ∙ met _ _ s.memory _ (lt-ltb (length (standing t)) kept (omega (arith, is, less)))))

-- sets are taken back
abbrev done_with : Memory → Plan Answered
done_with now = answers replies.Done now

back_goes : (s : Store) (number kept have : ℕ) (t : Transaction) → IsFound s number t → have ≡ length (standing t) → kept ≤ have
    → txn_plan s.log s.memory (asked.Back number kept) ≡ undo_sets (have - kept) s.memory t done_with
back_goes s number kept have t found is enough =
    goes_on s (asked.Back number kept) number t _ refl found ∙ passed _ _ s.memory _ (le-ltb (length (standing t)) kept (omega (arith, is, enough)))
    ∙ ap (λ (n : ℕ). undo_sets (n - kept) s.memory t done_with) (sym is)

pub backs_done : (told : Bool) (s u : Store) (number kept have : ℕ) (t : Transaction) → IsFound s number t → have ≡ length (standing t) → kept ≤ have
    → Leads told s.memory.client s.log (undo_sets (have - kept) s.memory t done_with) u.log (done_with u.memory)
    → TxnStep told s (asked.Back number kept) replies.Done u
backs_done told s u number kept have t found is enough leads =
    step_is told s (asked.Back number kept) replies.Done u (undo_sets (have - kept) s.memory t done_with) (back_goes s number kept have t found is enough)
    (leads.carried (record { reply = replies.Done; memory = u.memory }) u.log (refl, refl))

pub backs_refused : (told : Bool) (s u : Store) (number kept have : ℕ) (t : Transaction) (refusal : Refusal) → IsFound s number t → have ≡ length (standing t) → kept ≤ have
    → Leads told s.memory.client s.log (undo_sets (have - kept) s.memory t done_with) u.log (stops u.memory refusal)
    → TxnStep told s (asked.Back number kept) (replies.Refused (refusals.Log refusal)) u
backs_refused told s u number kept have t refusal found is enough leads =
    step_is told s (asked.Back number kept) (replies.Refused (refusals.Log refusal)) u (undo_sets (have - kept) s.memory t done_with)
    (back_goes s number kept have t found is enough)
    (leads.carried (record { reply = replies.Refused (refusals.Log refusal); memory = u.memory }) u.log (refl, refl))

-- ---- rolling back

-- what comes after the sets
abbrev ending : ℕ → Memory → Plan Answered
ending number now = over_transaction now number (λ (t : Transaction). end_plan now t RolledBack false)

roll_goes : (s : Store) (number have : ℕ) (t : Transaction) → IsFound s number t → have ≡ length (standing t)
    → txn_plan s.log s.memory (asked.Rollback number) ≡ undo_sets have s.memory t (ending number)
roll_goes s number have t found is =
    goes_on s (asked.Rollback number) number t _ refl found ∙ ap (λ (n : ℕ). undo_sets n s.memory t (ending number)) (sym is)

pub rolls_refused : (told : Bool) (s u : Store) (number have : ℕ) (t : Transaction) (refusal : Refusal) → IsFound s number t → have ≡ length (standing t)
    → Leads told s.memory.client s.log (undo_sets have s.memory t (ending number)) u.log (stops u.memory refusal)
    → TxnStep told s (asked.Rollback number) (replies.Refused (refusals.Log refusal)) u
rolls_refused told s u number have t refusal found is leads =
    step_is told s (asked.Rollback number) (replies.Refused (refusals.Log refusal)) u (undo_sets have s.memory t (ending number)) (roll_goes s number have t found is)
    (leads.carried (record { reply = replies.Refused (refusals.Log refusal); memory = u.memory }) u.log (refl, refl))

pub rolls_ended : {A : Type 0} (told : Bool) (s mid u : Store) (number have : ℕ) (t last : Transaction) (result : Result A TxnRefusal) → IsFound s number t
    → have ≡ length (standing t) → Leads told s.memory.client s.log (undo_sets have s.memory t (ending number)) mid.log (ending number mid.memory)
    → IsFound mid number last → mid.memory.client ≡ s.memory.client
    → Carries told mid (end_plan mid.memory last RolledBack false) (λ _. replies.Done) result u
    → TxnSteps told s (asked.Rollback number) (λ _. replies.Done) result u
rolls_ended told s mid u number have t last result found is leads still client ended =
    let answer : Answered = record { reply = replied (λ _. replies.Done) result; memory = u.memory } in
    let go : Transaction → Plan Answered = λ (x : Transaction). end_plan mid.memory x RolledBack false in
    let here : CarriesOut told s.memory.client mid.log (end_plan mid.memory last RolledBack false) answer u.log
    = subst (λ (c : ℕ). CarriesOut told c mid.log (end_plan mid.memory last RolledBack false) answer u.log) client ended in
    step_is told s (asked.Rollback number) (replied (λ _. replies.Done) result) u (undo_sets have s.memory t (ending number)) (roll_goes s number have t found is)
    (leads.carried answer u.log (as_plan told s.memory.client mid.log (ending number mid.memory) (end_plan mid.memory last RolledBack false) answer u.log
    (over mid.memory number go (Some last) still.there) here))

-- what a crash leaves while sets are taken back
pub back_meanwhile : (under : UnderWay) (told : Bool) (s : Store) (number kept have : ℕ) (t : Transaction) (old new : DiskState) → IsFound s number t → have ≡ length (standing t)
    → kept ≤ have → Meanwhile under told s.memory.client s.log (undo_sets (have - kept) s.memory t (λ now. answers replies.Done now)) old new
    → Meanwhile under told s.memory.client s.log (txn_plan s.log s.memory (asked.Back number kept)) old new
back_meanwhile under told s number kept have t old new found is enough meanwhile =
    meanwhile_as under told s.memory.client s.log (undo_sets (have - kept) s.memory t done_with) _ old new (back_goes s number kept have t found is enough) meanwhile

pub roll_meanwhile : (under : UnderWay) (told : Bool) (s : Store) (number have : ℕ) (t : Transaction) (old new : DiskState) → IsFound s number t → have ≡ length (standing t)
    → Meanwhile under told s.memory.client s.log (undo_sets have s.memory t (ending number)) old new
    → Meanwhile under told s.memory.client s.log (txn_plan s.log s.memory (asked.Rollback number)) old new
roll_meanwhile under told s number have t old new found is meanwhile =
    meanwhile_as under told s.memory.client s.log (undo_sets have s.memory t (ending number)) _ old new (roll_goes s number have t found is) meanwhile

-- and then the transaction ends
pub rolled_meanwhile : (under : UnderWay) (told : Bool) (s mid : Store) (number have : ℕ) (t last : Transaction) (old at new : DiskState) → IsFound s number t
    → have ≡ length (standing t) → Leads told s.memory.client s.log (undo_sets have s.memory t (ending number)) mid.log (ending number mid.memory)
    → IsFound mid number last → mid.memory.client ≡ s.memory.client → at.nature ≡ old.nature
    → Meanwhile under told s.memory.client s.log (undo_sets have s.memory t (ending number)) old at
    → Meanwhile under told mid.memory.client mid.log (end_plan mid.memory last RolledBack false) at new
    → Meanwhile under told s.memory.client s.log (txn_plan s.log s.memory (asked.Rollback number)) old new
rolled_meanwhile under told s mid number have t last old at new found is leads still client nature first next =
    let go : Transaction → Plan Answered = λ (x : Transaction). end_plan mid.memory x RolledBack false in
    roll_meanwhile under told s number have t old new found is
    (meanwhile_then under told s.memory.client s.log mid.log _ (ending number mid.memory) old at new nature leads first
    (meanwhile_as under told s.memory.client mid.log (end_plan mid.memory last RolledBack false) _ at new (over mid.memory number go (Some last) still.there)
    (meanwhile_by under told told mid.memory.client s.memory.client mid.log (end_plan mid.memory last RolledBack false) at new refl client next)))
