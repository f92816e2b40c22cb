-- The ways in which the end of a transaction goes.
use Rattle.clfs_txn.proofs.Words.{◌≡◌, ℕ, Bool, refl, null_lsn, Refusal, State, happened_of, happened_of_refusal, Step, Action, TxnReply, CarriesOut}
use Rattle.clfs_txn.proofs.Words.{Answered, append_call, end_plan, Store, Memory, Transaction, most_records, records_made, without_transaction}
use Rattle.std.specs.Prelude.{◌-◌}
use Rattle.clfs_model.specs.declared.call.Call.TheVariants as log_calls
use Rattle.clfs_model.specs.declared.reply.Reply.TheVariants as log_replies
use Rattle.clfs_cells.specs.declared.told.TxnRefusal.TheVariants as refusals
use Rattle.clfs_cells.specs.declared.told.TxnReply.TheVariants as replies
use Rattle.clfs_txn.proofs.Carried.{one_call}

result : TxnReply → Memory → Answered
result reply memory = record { reply = reply; memory = memory }

told_as : (reply : TxnReply) (m n : Memory) → m ≡ n → (let x : Answered = record { reply = reply; memory = m } in x) ≡ record { reply = reply; memory = n }
told_as reply m n same = λ i. record { reply = reply; memory = same i }

pub refused : (told : Bool) (s u : Store) (t : Transaction) (action : Action) (flush : Bool) (refusal : Refusal)
    → Step told s.log s.memory.client (append_call s.memory t action null_lsn flush) (happened_of_refusal refusal) (log_replies.Refused refusal) u.log
    → u.memory ≡ s.memory
    → CarriesOut told s.memory.client s.log (end_plan s.memory t action flush) (record { reply = replies.Refused (refusals.Log refusal); memory = u.memory }) u.log
refused told s u t action flush refusal step same =
    one_call told s.memory.client s.log _ _ (log_replies.Refused refusal) u.log (record { reply = replies.Refused (refusals.Log refusal); memory = u.memory }) u.log step
    (told_as (replies.Refused (refusals.Log refusal)) u.memory s.memory same, refl)

pub done : (told : Bool) (s u : Store) (mid : State) (t : Transaction) (action : Action) (flush : Bool) (lsn sectors : ℕ)
    → Step told s.log s.memory.client (append_call s.memory t action null_lsn flush) (happened_of (log_replies.Placed lsn)) (log_replies.Placed lsn) mid
    → Step told mid s.memory.client (log_calls.Release s.memory.area (most_records t.changes - records_made t - 1)) (happened_of (log_replies.Held sectors))
    (log_replies.Held sectors) u.log
    → u.memory ≡ without_transaction t.number s.memory
    → CarriesOut told s.memory.client s.log (end_plan s.memory t action flush) (record { reply = replies.Done; memory = u.memory }) u.log
done told s u mid t action flush lsn sectors step released same =
    one_call told s.memory.client s.log _ _ (log_replies.Placed lsn) mid (record { reply = replies.Done; memory = u.memory }) u.log step
    (one_call told s.memory.client mid _ _ (log_replies.Held sectors) u.log (record { reply = replies.Done; memory = u.memory }) u.log released
    (told_as replies.Done u.memory (without_transaction t.number s.memory) same, refl))

pub stopped : (told : Bool) (s u : Store) (mid : State) (t : Transaction) (action : Action) (flush : Bool) (lsn : ℕ) (refusal : Refusal)
    → Step told s.log s.memory.client (append_call s.memory t action null_lsn flush) (happened_of (log_replies.Placed lsn)) (log_replies.Placed lsn) mid
    → Step told mid s.memory.client (log_calls.Release s.memory.area (most_records t.changes - records_made t - 1)) (happened_of_refusal refusal)
    (log_replies.Refused refusal) u.log
    → u.memory ≡ without_transaction t.number s.memory
    → CarriesOut told s.memory.client s.log (end_plan s.memory t action flush) (record { reply = replies.Refused (refusals.Log refusal); memory = u.memory }) u.log
stopped told s u mid t action flush lsn refusal step released same =
    one_call told s.memory.client s.log _ _ (log_replies.Placed lsn) mid (record { reply = replies.Refused (refusals.Log refusal); memory = u.memory }) u.log step
    (one_call told s.memory.client mid _ _ (log_replies.Refused refusal) u.log (record { reply = replies.Refused (refusals.Log refusal); memory = u.memory }) u.log released
    (told_as (replies.Refused (refusals.Log refusal)) u.memory (without_transaction t.number s.memory) same, refl))
