-- What a store's calls leave of a log that isn't broken: it stays so unless the call tells a fault of the disk or damage, and is broken then.
use Rattle.clfs_cells_laws.proofs.Words.{◌≡◌, ◌⊎◌, ℕ, zero, suc, ◌+◌, Bool, true, false, refl, sym, ap, subst, ◌∙◌, inl, inr, Option, Some, None, length}
use Rattle.clfs_cells_laws.proofs.Words.{find, slice_index, option_map_or, LogEntry, Call, LogInfo, Refusal, Happened, Fine, Fault, Damage, Reply, State}
use Rattle.clfs_cells_laws.proofs.Words.{Step, IsBroken, reads_disk, is_reply_of, TxnCall, Made, Action, Commit, RolledBack, TxnRefusal, TxnReply, Answered}
use Rattle.clfs_cells_laws.proofs.Words.{TxnStep, append_call, answers, refuses, stops, unless, over_transaction, change_to, compensation, with_read_ended}
use Rattle.clfs_cells_laws.proofs.Words.{undo_set, undo_from, undo_sets, end_plan, begin_plan, set_plan, back_plan, rollback_plan, checkpoint_plan, txn_plan}
use Rattle.clfs_cells_laws.proofs.Words.{Plan, ends, calls, never, CarriesOut, on_placed, on_held, on_found, on_next, on_info, Memory, Store, Transaction}
use Rattle.clfs_cells_laws.proofs.Words.{is_at, holder, standing, transaction, with_begun, with_set, with_undone, without_transaction, breaks_log}
use Rattle.clfs_cells_laws.proofs.Words.{tells_break, tells_table_broken, tells_table_damage, reads_back}
use Rattle.std.proofs.Common.{◌≢◌}
use Rattle.clfs_model.specs.declared.call.Call.TheVariants as log_calls
use Rattle.clfs_model.specs.declared.refusal.Refusal.TheVariants as log_refusals
use Rattle.clfs_model.specs.declared.reply.Reply.TheVariants as log_replies
use Rattle.clfs_model.specs.Happened.{happened_of}
use Rattle.clfs_cells.specs.declared.asked.TxnCall.TheVariants as asked
use Rattle.clfs_cells.specs.declared.told.TxnRefusal.TheVariants as refusals
use Rattle.clfs_cells.specs.declared.told.TxnReply.TheVariants as replies

-- what is used of the log's laws
pub record LogLaws : Type 0 where
  pub stays : (told : Bool) (s : State) (client : ℕ) (call : Call) (happened : Happened) (reply : Reply) (t : State)
      → s.broken ≡ false → happened_of reply ≡ Fine → Step told s client call happened reply t → (t.broken ≡ false) × (reply ≢ log_replies.Refused log_refusals.Broken)
  pub fault : (told : Bool) (s : State) (client : ℕ) (call : Call) (happened : Happened) (reply : Reply) (t : State)
      → Step told s client call happened reply t → happened_of reply ≡ Fault → t.broken ≡ true
  pub damage : (told : Bool) (s : State) (client : ℕ) (call : Call) (happened : Happened) (reply : Reply) (t : State)
      → Step told s client call happened reply t → happened_of reply ≡ Damage → t.broken ≡ true
  pub broken : (told : Bool) (s : State) (client : ℕ) (call : Call) (happened : Happened) (reply : Reply) (t : State)
      → s.broken ≡ true → Step told s client call happened reply t → IsBroken s reply t
  pub kind : (told : Bool) (s : State) (client : ℕ) (call : Call) (happened : Happened) (reply : Reply) (t : State)
      → Step told s client call happened reply t → is_reply_of call reply ≡ true

-- what a plan leaves of a log that isn't broken
pub record Keeps (plan : Plan Answered) : Type 0 where
  pub whole : (told : Bool) (client : ℕ) (log : State) (result : Answered) (t : State) → log.broken ≡ false → CarriesOut told client log plan result t
      → tells_break result.reply ≡ false → (t.broken ≡ false) × (tells_table_broken result.reply ≡ false)
  pub breaks : (told : Bool) (client : ℕ) (log : State) (result : Answered) (t : State) → log.broken ≡ false → CarriesOut told client log plan result t
      → tells_break result.reply ≡ true → t.broken ≡ true

-- a plan that ends with a fault or damage on a broken log
pub record EndsBroken (plan : Plan Answered) : Type 0 where
  pub told_so : (told : Bool) (client : ℕ) (log : State) (result : Answered) (t : State) → log.broken ≡ true → CarriesOut told client log plan result t
      → (tells_break result.reply ≡ true) × (t.broken ≡ true)

-- a log's reply that is a fault or damage
pub record IsBreak (reply : Reply) : Type 0 where
  pub cause : Refusal
  pub is : reply ≡ log_replies.Refused cause
  pub breaks : breaks_log cause ≡ true

pub fine_or_break : (reply : Reply) → (happened_of reply ≡ Fine) ⊎ IsBreak reply
fine_or_break (log_replies.Refused log_refusals.DiskFault) = inr (record { cause = log_refusals.DiskFault; is = refl; breaks = refl })
fine_or_break (log_replies.Refused (log_refusals.Damaged container offset at)) =
    inr (record { cause = log_refusals.Damaged container offset at; is = refl; breaks = refl })
fine_or_break _ = inl refl

-- ---- how plans are made

ends_keep : (result : Answered) → tells_break result.reply ≡ false → tells_table_broken result.reply ≡ false → Keeps (ends result)
ends_keep answered calm silent = record {
  whole = λ told client log result t was did fine. (ap (λ (s : State). s.broken) did.1 ∙ was, ap (λ (a : Answered). tells_table_broken a.reply) did.0 ∙ silent);
  breaks = λ told client log result t was did some.
      let e : true ≡ false = sym some ∙ ap (λ (a : Answered). tells_break a.reply) did.0 ∙ calm in absurd (cc e);
}

never_keeps : Keeps never
never_keeps = record { whole = λ told client log result t was did fine. absurd did; breaks = λ told client log result t was did some. absurd did }

-- a refusal that isn't that the log is broken
not_broken : (refusal : Refusal) → refusal ≢ log_refusals.Broken → tells_table_broken (replies.Refused (refusals.Log refusal)) ≡ false
not_broken log_refusals.Broken other = absurd (other refl)
not_broken _ other = refl

-- after a refusal of the log that is neither a fault nor damage, nor that it is broken
stops_keep : (memory : Memory) (refusal : Refusal) → breaks_log refusal ≡ false → refusal ≢ log_refusals.Broken → Keeps (stops memory refusal)
stops_keep memory refusal calm silent = ends_keep (record { reply = replies.Refused (refusals.Log refusal); memory = memory }) calm (not_broken refusal silent)

stops_broken : (memory : Memory) (refusal : Refusal) → breaks_log refusal ≡ true → EndsBroken (stops memory refusal)
stops_broken memory refusal some = record {
  told_so = λ told client log result t was did. (ap (λ (a : Answered). tells_break a.reply) did.0 ∙ some, ap (λ (s : State). s.broken) did.1 ∙ was);
}

calls_keep : LogLaws → (call : Call) (rest : Reply → Plan Answered)
    → ((reply : Reply) → happened_of reply ≡ Fine → reply ≢ log_replies.Refused log_refusals.Broken → Keeps (rest reply))
    → ((reply : Reply) → is_reply_of call reply ≡ true → IsBreak reply → EndsBroken (rest reply)) → Keeps (calls call rest)
calls_keep laws call rest fine_ones others = record { whole = whole; breaks = breaks }
  where
    broken_then : (told : Bool) (client : ℕ) (log mid : State) (happened : Happened) (reply : Reply) → Step told log client call happened reply mid
        → IsBreak reply → mid.broken ≡ true
    broken_then told client log mid happened reply step some = by_kind some.cause some.is some.breaks
      where
        by_kind : (cause : Refusal) → reply ≡ log_replies.Refused cause → breaks_log cause ≡ true → mid.broken ≡ true
        by_kind log_refusals.DiskFault is e = laws.fault told log client call happened reply mid step (ap happened_of is)
        by_kind (log_refusals.Damaged container offset at) is e = laws.damage told log client call happened reply mid step (ap happened_of is)
        by_kind _ is e = absurd (cc e)

    whole : (told : Bool) (client : ℕ) (log : State) (result : Answered) (t : State) → log.broken ≡ false → CarriesOut told client log (calls call rest) result t
        → tells_break result.reply ≡ false → (t.broken ≡ false) × (tells_table_broken result.reply ≡ false)
    whole told client log result t was (happened, reply, mid, (step, behind)) calm = elim (fine_or_break reply) [
      | inl fine ↦
          let left = laws.stays told log client call happened reply mid was fine step in
          (fine_ones reply fine left.1).whole told client mid result t left.0 behind calm
      | inr some ↦
          let last = (others reply (laws.kind told log client call happened reply mid step) some).told_so told client mid result t
          (broken_then told client log mid happened reply step some) behind in
          let e : true ≡ false = sym last.0 ∙ calm in absurd (cc e)
    ]

    breaks : (told : Bool) (client : ℕ) (log : State) (result : Answered) (t : State) → log.broken ≡ false → CarriesOut told client log (calls call rest) result t
        → tells_break result.reply ≡ true → t.broken ≡ true
    breaks told client log result t was (happened, reply, mid, (step, behind)) is = elim (fine_or_break reply) [
      | inl fine ↦
          let left = laws.stays told log client call happened reply mid was fine step in
          (fine_ones reply fine left.1).breaks told client mid result t left.0 behind is
      | inr some ↦
          ((others reply (laws.kind told log client call happened reply mid step) some).told_so told client mid result t
          (broken_then told client log mid happened reply step some) behind).1
    ]

-- on a broken log a call goes on with that reply
calls_broken : LogLaws → (call : Call) (rest : Reply → Plan Answered) → EndsBroken (rest (log_replies.Refused log_refusals.Broken)) → EndsBroken (calls call rest)
calls_broken laws call rest last = record { told_so = told_so }
  where
    told_so : (told : Bool) (client : ℕ) (log : State) (result : Answered) (t : State) → log.broken ≡ true → CarriesOut told client log (calls call rest) result t
        → (tells_break result.reply ≡ true) × (t.broken ≡ true)
    told_so told client log result t was (happened, reply, mid, (step, behind)) =
        let is = laws.broken told log client call happened reply mid was step in
        last.told_so told client mid result t (ap (λ (s : State). s.broken) is.1 ∙ was)
        (subst (λ (r : Reply). CarriesOut told client mid (rest r) result t) is.0 behind)

-- ---- by a reply

-- a refusal that isn't one of these is handed on
pub record Stops (stop : Refusal → Plan Answered) : Type 0 where
  pub calm : (refusal : Refusal) → breaks_log refusal ≡ false → refusal ≢ log_refusals.Broken → Keeps (stop refusal)
  pub broken : (refusal : Refusal) → breaks_log refusal ≡ true → EndsBroken (stop refusal)

stops_so : (memory : Memory) → Stops (stops memory)
stops_so memory = record { calm = stops_keep memory; broken = stops_broken memory }

-- what a reply's being fine says of a refusal
pub fine_refusal : (refusal : Refusal) → happened_of (log_replies.Refused refusal) ≡ Fine → breaks_log refusal ≡ false
fine_refusal log_refusals.DiskFault fine = absurd (cc fine)
fine_refusal (log_refusals.Damaged container offset at) fine = absurd (cc fine)
fine_refusal _ fine = refl

placed_keeps : LogLaws → (call : Call) (stop : Refusal → Plan Answered) (go : ℕ → Plan Answered) → Stops stop → ((lsn : ℕ) → Keeps (go lsn))
    → Keeps (calls call (on_placed stop go))
placed_keeps laws call stop go stopping going = calls_keep laws call (on_placed stop go) by_reply by_break
  where
    by_reply : (reply : Reply) → happened_of reply ≡ Fine → reply ≢ log_replies.Refused log_refusals.Broken → Keeps (on_placed stop go reply)
    by_reply (log_replies.Placed lsn) fine silent = going lsn
    by_reply (log_replies.Refused refusal) fine silent = stopping.calm refusal (fine_refusal refusal fine) (λ is. silent (ap (λ (r : Refusal). log_replies.Refused r) is))
    by_reply _ fine silent = never_keeps

    by_break : (reply : Reply) → is_reply_of call reply ≡ true → IsBreak reply → EndsBroken (on_placed stop go reply)
    by_break reply kind some = rw some.is (stopping.broken some.cause some.breaks)

held_keeps : LogLaws → (call : Call) (stop : Refusal → Plan Answered) (go : Plan Answered) → Stops stop → Keeps go → Keeps (calls call (on_held stop go))
held_keeps laws call stop go stopping going = calls_keep laws call (on_held stop go) by_reply by_break
  where
    by_reply : (reply : Reply) → happened_of reply ≡ Fine → reply ≢ log_replies.Refused log_refusals.Broken → Keeps (on_held stop go reply)
    by_reply (log_replies.Held sectors) fine silent = going
    by_reply (log_replies.Refused refusal) fine silent = stopping.calm refusal (fine_refusal refusal fine) (λ is. silent (ap (λ (r : Refusal). log_replies.Refused r) is))
    by_reply _ fine silent = never_keeps

    by_break : (reply : Reply) → is_reply_of call reply ≡ true → IsBreak reply → EndsBroken (on_held stop go reply)
    by_break reply kind some = rw some.is (stopping.broken some.cause some.breaks)

found_keeps : LogLaws → (call : Call) (stop : Refusal → Plan Answered) (go : ℕ → LogEntry → Plan Answered) → Stops stop
    → ((cursor : ℕ) (entry : LogEntry) → Keeps (go cursor entry)) → Keeps (calls call (on_found stop go))
found_keeps laws call stop go stopping going = calls_keep laws call (on_found stop go) by_reply by_break
  where
    by_reply : (reply : Reply) → happened_of reply ≡ Fine → reply ≢ log_replies.Refused log_refusals.Broken → Keeps (on_found stop go reply)
    by_reply (log_replies.Found cursor entry) fine silent = going cursor entry
    by_reply (log_replies.Refused refusal) fine silent = stopping.calm refusal (fine_refusal refusal fine) (λ is. silent (ap (λ (r : Refusal). log_replies.Refused r) is))
    by_reply _ fine silent = never_keeps

    by_break : (reply : Reply) → is_reply_of call reply ≡ true → IsBreak reply → EndsBroken (on_found stop go reply)
    by_break reply kind some = rw some.is (stopping.broken some.cause some.breaks)

next_keeps : LogLaws → (call : Call) (stop : Refusal → Plan Answered) (go : LogEntry → Plan Answered) → Stops stop
    → ((entry : LogEntry) → Keeps (go entry)) → Keeps (calls call (on_next stop go))
next_keeps laws call stop go stopping going = calls_keep laws call (on_next stop go) by_reply by_break
  where
    by_reply : (reply : Reply) → happened_of reply ≡ Fine → reply ≢ log_replies.Refused log_refusals.Broken → Keeps (on_next stop go reply)
    by_reply (log_replies.Next entry) fine silent = going entry
    by_reply (log_replies.Refused refusal) fine silent = stopping.calm refusal (fine_refusal refusal fine) (λ is. silent (ap (λ (r : Refusal). log_replies.Refused r) is))
    by_reply _ fine silent = never_keeps

    by_break : (reply : Reply) → is_reply_of call reply ≡ true → IsBreak reply → EndsBroken (on_next stop go reply)
    by_break reply kind some = rw some.is (stopping.broken some.cause some.breaks)

info_keeps : LogLaws → (call : Call) (stop : Refusal → Plan Answered) (go : LogInfo → Plan Answered) → Stops stop
    → ((info : LogInfo) → Keeps (go info)) → Keeps (calls call (on_info stop go))
info_keeps laws call stop go stopping going = calls_keep laws call (on_info stop go) by_reply by_break
  where
    by_reply : (reply : Reply) → happened_of reply ≡ Fine → reply ≢ log_replies.Refused log_refusals.Broken → Keeps (on_info stop go reply)
    by_reply (log_replies.Info info) fine silent = going info
    by_reply (log_replies.Refused refusal) fine silent = stopping.calm refusal (fine_refusal refusal fine) (λ is. silent (ap (λ (r : Refusal). log_replies.Refused r) is))
    by_reply _ fine silent = never_keeps

    by_break : (reply : Reply) → is_reply_of call reply ≡ true → IsBreak reply → EndsBroken (on_info stop go reply)
    by_break reply kind some = rw some.is (stopping.broken some.cause some.breaks)

-- a cursor's end tells neither
pub no_break_of_end : (area cursor : ℕ) (refusal : Refusal) → is_reply_of (log_calls.EndRead area cursor) (log_replies.Refused refusal) ≡ true
    → breaks_log refusal ≡ true → ⊥
no_break_of_end area cursor log_refusals.DiskFault kind some = cc kind
no_break_of_end area cursor (log_refusals.Damaged container offset at) kind some = cc kind
no_break_of_end area cursor _ kind some = cc some

read_ended_keeps : LogLaws → (memory : Memory) (cursor : ℕ) (rest : Plan Answered) → Keeps rest → Keeps (with_read_ended memory cursor rest)
read_ended_keeps laws memory cursor rest going = calls_keep laws (log_calls.EndRead memory.area cursor) (λ reply. rest) (λ reply fine silent. going)
    (λ reply kind some. absurd (no_break_of_end memory.area cursor some.cause (rw some.is at kind) some.breaks))

-- the refusal that stopped it, after its cursor ended
stops_ended : LogLaws → (memory : Memory) (cursor : ℕ) → Stops (λ refusal. with_read_ended memory cursor (stops memory refusal))
stops_ended laws memory cursor = record {
  calm = λ refusal calm silent. read_ended_keeps laws memory cursor (stops memory refusal) (stops_keep memory refusal calm silent);
  broken = λ refusal some. calls_broken laws (log_calls.EndRead memory.area cursor) (λ reply. stops memory refusal) (stops_broken memory refusal some);
}

-- ---- by what is kept

unless_keeps : (test : Bool) (refusal : TxnRefusal) (memory : Memory) (others : Plan Answered) → tells_break (replies.Refused refusal) ≡ false
    → tells_table_broken (replies.Refused refusal) ≡ false → Keeps others → Keeps (unless test refusal memory others)
unless_keeps true refusal memory others calm silent going = ends_keep (record { reply = replies.Refused refusal; memory = memory }) calm silent
unless_keeps false refusal memory others calm silent going = going

option_keeps : {X : Type 0} (go : X → Plan Answered) (o : Option X) (other : Plan Answered) → ((x : X) → Keeps (go x)) → Keeps other → Keeps (option_map_or go o other)
option_keeps go None other going none = none
option_keeps go (Some x) other going none = going x

over_keeps : (memory : Memory) (number : ℕ) (go : Transaction → Plan Answered) → ((t : Transaction) → Keeps (go t)) → Keeps (over_transaction memory number go)
over_keeps memory number go going = option_keeps go (transaction memory number) (refuses memory refusals.NoSuchTxn) going
    (ends_keep (record { reply = replies.Refused refusals.NoSuchTxn; memory = memory }) refl refl)

-- ---- the calls

undo_set_keeps : LogLaws → (memory : Memory) (number cursor lsn : ℕ) (rest : Memory → Plan Answered) → ((now : Memory) → Keeps (rest now))
    → Keeps (undo_set memory number cursor lsn rest)
undo_set_keeps laws memory number cursor lsn rest going = option_keeps _ (transaction memory number) never by_transaction never_keeps
  where
    by_set : (t : Transaction) (made : Made) → Keeps (calls (append_call memory t (compensation made) made.undo_next false)
        (on_placed (λ refusal. with_read_ended memory cursor (stops memory refusal)) (λ at. rest (with_undone t made at memory))))
    by_set t made = placed_keeps laws _ _ _ (stops_ended laws memory cursor) (λ at. going (with_undone t made at memory))

    by_transaction : (t : Transaction) → Keeps (option_map_or (λ (made : Made). calls (append_call memory t (compensation made) made.undo_next false)
        (on_placed (λ refusal. with_read_ended memory cursor (stops memory refusal)) (λ at. rest (with_undone t made at memory)))) (find (is_at lsn) t.made) never)
    by_transaction t = option_keeps _ (find (is_at lsn) t.made) never (by_set t) never_keeps

undo_from_keeps : LogLaws → (more : ℕ) (memory : Memory) (number cursor lsn : ℕ) (rest : Memory → Plan Answered) → ((now : Memory) → Keeps (rest now))
    → Keeps (undo_from more memory number cursor lsn rest)
undo_from_keeps laws zero memory number cursor lsn rest going =
    undo_set_keeps laws memory number cursor lsn (λ now. with_read_ended now cursor (rest now)) (λ now. read_ended_keeps laws now cursor (rest now) (going now))
undo_from_keeps laws (suc more) memory number cursor lsn rest going =
    undo_set_keeps laws memory number cursor lsn _ (λ now. next_keeps laws (log_calls.ReadNext now.area cursor) _ _ (stops_ended laws now cursor)
    (λ (entry : LogEntry). undo_from_keeps laws more now number cursor entry.lsn rest going))

undo_sets_keeps : LogLaws → (count : ℕ) (memory : Memory) (t : Transaction) (rest : Memory → Plan Answered) → ((now : Memory) → Keeps (rest now))
    → Keeps (undo_sets count memory t rest)
undo_sets_keeps laws zero memory t rest going = going memory
undo_sets_keeps laws (suc more) memory t rest going = found_keeps laws _ _ _ (stops_so memory)
    (λ cursor (entry : LogEntry). undo_from_keeps laws more memory t.number cursor entry.lsn rest going)

done_keeps : (reply : TxnReply) (memory : Memory) → tells_break reply ≡ false → tells_table_broken reply ≡ false → Keeps (answers reply memory)
done_keeps reply memory calm silent = ends_keep (record { reply = reply; memory = memory }) calm silent

end_keeps : LogLaws → (memory : Memory) (t : Transaction) (action : Action) (flush : Bool) → Keeps (end_plan memory t action flush)
end_keeps laws memory t action flush = placed_keeps laws _ _ _ (stops_so memory) (λ lsn. held_keeps laws _ _ _ (stops_so (without_transaction t.number memory))
    (done_keeps replies.Done (without_transaction t.number memory) refl refl))

begin_keeps : LogLaws → (memory : Memory) (changes : ℕ) → Keeps (begin_plan memory changes)
begin_keeps laws memory changes = unless_keeps _ (refusals.TxnLimit (length memory.transactions)) memory _ refl refl (unless_keeps _ refusals.IdsSpent memory _ refl refl
    (held_keeps laws _ _ _ (stops_so memory) (done_keeps (replies.Begun (memory.last + 1)) (with_begun changes memory) refl refl)))

set_keeps : LogLaws → (memory : Memory) (number cell value : ℕ) → Keeps (set_plan memory number cell value)
set_keeps laws memory number cell value = over_keeps memory number _ (λ t. option_keeps _ (holder memory number cell) _
    (λ (other : Transaction). done_keeps (replies.Refused (refusals.CellHeld other.number)) memory refl refl)
    (unless_keeps _ (refusals.ChangesSpent t.changes) memory _ refl refl (placed_keeps laws _ _ _ (stops_so memory)
    (λ lsn. done_keeps replies.Done (with_set t (change_to memory cell value) lsn memory) refl refl))))

back_keeps : LogLaws → (memory : Memory) (number kept : ℕ) → Keeps (back_plan memory number kept)
back_keeps laws memory number kept = over_keeps memory number _ (λ t. unless_keeps _ (refusals.KeptTooMany (length (standing t))) memory _ refl refl
    (undo_sets_keeps laws _ memory t _ (λ now. done_keeps replies.Done now refl refl)))

rollback_keeps : LogLaws → (memory : Memory) (number : ℕ) → Keeps (rollback_plan memory number)
rollback_keeps laws memory number = over_keeps memory number _ (λ t. undo_sets_keeps laws _ memory t _
    (λ now. over_keeps now number _ (λ t. end_keeps laws now t RolledBack false)))

checkpoint_keeps : LogLaws → (memory : Memory) → Keeps (checkpoint_plan memory)
checkpoint_keeps laws memory = unless_keeps _ (refusals.TxnsOpen (length memory.transactions)) memory _ refl refl (info_keeps laws _ _ _ (stops_so memory)
    (λ (info : LogInfo). placed_keeps laws _ _ _ (stops_so memory) (λ lsn. done_keeps replies.Done memory refl refl)))

-- a plan that is made where the log isn't broken
unbroken_keeps : (log : State) (memory : Memory) (others : Plan Answered) → log.broken ≡ false → Keeps others
    → Keeps (unless log.broken (refusals.Log log_refusals.Broken) memory others)
unbroken_keeps log memory others was going = rw was going

pub call_keeps : LogLaws → (log : State) (memory : Memory) (call : TxnCall) → log.broken ≡ false → Keeps (txn_plan log memory call)
call_keeps laws log memory (asked.Begin changes) was = unbroken_keeps log memory _ was (begin_keeps laws memory changes)
call_keeps laws log memory (asked.Set number cell value) was = unbroken_keeps log memory _ was (set_keeps laws memory number cell value)
call_keeps laws log memory (asked.Back number kept) was = unbroken_keeps log memory _ was (back_keeps laws memory number kept)
call_keeps laws log memory (asked.Commit number) was = unbroken_keeps log memory _ was (over_keeps memory number _ (λ t. end_keeps laws memory t Commit true))
call_keeps laws log memory (asked.Rollback number) was = unbroken_keeps log memory _ was (rollback_keeps laws memory number)
call_keeps laws log memory (asked.Get cell) was = done_keeps (replies.Value (slice_index memory.cells cell)) memory refl refl
call_keeps laws log memory asked.Checkpoint was = unbroken_keeps log memory _ was (checkpoint_keeps laws memory)

-- ---- calls that don't read

-- a plan that tells no damage
record Quiet (plan : Plan Answered) : Type 0 where
  quiet : (told : Bool) (client : ℕ) (log : State) (result : Answered) (t : State) → CarriesOut told client log plan result t
      → tells_table_damage result.reply ≡ false

ends_quiet : (result : Answered) → tells_table_damage result.reply ≡ false → Quiet (ends result)
ends_quiet answered silent = record { quiet = λ told client log result t did. ap (λ (a : Answered). tells_table_damage a.reply) did.0 ∙ silent }

never_quiet : Quiet never
never_quiet = record { quiet = λ told client log result t did. absurd did }

calls_quiet : LogLaws → (call : Call) (rest : Reply → Plan Answered) → ((reply : Reply) → is_reply_of call reply ≡ true → Quiet (rest reply)) → Quiet (calls call rest)
calls_quiet laws call rest going = record { quiet = quiet }
  where
    quiet : (told : Bool) (client : ℕ) (log : State) (result : Answered) (t : State) → CarriesOut told client log (calls call rest) result t
        → tells_table_damage result.reply ≡ false
    quiet told client log result t (happened, reply, mid, (step, behind)) =
        (going reply (laws.kind told log client call happened reply mid step)).quiet told client mid result t behind

-- the refusal of a call that doesn't read is no damage
stops_quiet : (call : Call) (memory : Memory) (refusal : Refusal) → reads_disk call ≡ false → is_reply_of call (log_replies.Refused refusal) ≡ true
    → Quiet (stops memory refusal)
stops_quiet call memory (log_refusals.Damaged container offset at) unread kind = let e : true ≡ false = sym kind ∙ unread in absurd (cc e)
stops_quiet call memory refusal unread kind = ends_quiet (record { reply = replies.Refused (refusals.Log refusal); memory = memory }) refl

placed_quiet : LogLaws → (call : Call) (memory : Memory) (go : ℕ → Plan Answered) → reads_disk call ≡ false → ((lsn : ℕ) → Quiet (go lsn))
    → Quiet (calls call (on_placed (stops memory) go))
placed_quiet laws call memory go unread going = calls_quiet laws call (on_placed (stops memory) go) by_reply
  where
    by_reply : (reply : Reply) → is_reply_of call reply ≡ true → Quiet (on_placed (stops memory) go reply)
    by_reply (log_replies.Placed lsn) kind = going lsn
    by_reply (log_replies.Refused refusal) kind = stops_quiet call memory refusal unread kind
    by_reply _ kind = never_quiet

held_quiet : LogLaws → (call : Call) (memory : Memory) (go : Plan Answered) → reads_disk call ≡ false → Quiet go → Quiet (calls call (on_held (stops memory) go))
held_quiet laws call memory go unread going = calls_quiet laws call (on_held (stops memory) go) by_reply
  where
    by_reply : (reply : Reply) → is_reply_of call reply ≡ true → Quiet (on_held (stops memory) go reply)
    by_reply (log_replies.Held sectors) kind = going
    by_reply (log_replies.Refused refusal) kind = stops_quiet call memory refusal unread kind
    by_reply _ kind = never_quiet

info_quiet : LogLaws → (call : Call) (memory : Memory) (go : LogInfo → Plan Answered) → reads_disk call ≡ false → ((info : LogInfo) → Quiet (go info))
    → Quiet (calls call (on_info (stops memory) go))
info_quiet laws call memory go unread going = calls_quiet laws call (on_info (stops memory) go) by_reply
  where
    by_reply : (reply : Reply) → is_reply_of call reply ≡ true → Quiet (on_info (stops memory) go reply)
    by_reply (log_replies.Info info) kind = going info
    by_reply (log_replies.Refused refusal) kind = stops_quiet call memory refusal unread kind
    by_reply _ kind = never_quiet

unless_quiet : (test : Bool) (refusal : TxnRefusal) (memory : Memory) (others : Plan Answered) → tells_table_damage (replies.Refused refusal) ≡ false
    → Quiet others → Quiet (unless test refusal memory others)
unless_quiet true refusal memory others silent going = ends_quiet (record { reply = replies.Refused refusal; memory = memory }) silent
unless_quiet false refusal memory others silent going = going

option_quiet : {X : Type 0} (go : X → Plan Answered) (o : Option X) (other : Plan Answered) → ((x : X) → Quiet (go x)) → Quiet other → Quiet (option_map_or go o other)
option_quiet go None other going none = none
option_quiet go (Some x) other going none = going x

over_quiet : (memory : Memory) (number : ℕ) (go : Transaction → Plan Answered) → ((t : Transaction) → Quiet (go t)) → Quiet (over_transaction memory number go)
over_quiet memory number go going = option_quiet go (transaction memory number) (refuses memory refusals.NoSuchTxn) going
    (ends_quiet (record { reply = replies.Refused refusals.NoSuchTxn; memory = memory }) refl)

done_quiet : (reply : TxnReply) (memory : Memory) → tells_table_damage reply ≡ false → Quiet (answers reply memory)
done_quiet reply memory silent = ends_quiet (record { reply = reply; memory = memory }) silent

end_quiet : LogLaws → (memory : Memory) (t : Transaction) (action : Action) (flush : Bool) → Quiet (end_plan memory t action flush)
end_quiet laws memory t action flush = placed_quiet laws _ memory _ refl (λ lsn. held_quiet laws _ (without_transaction t.number memory) _ refl
    (done_quiet replies.Done (without_transaction t.number memory) refl))

begin_quiet : LogLaws → (memory : Memory) (changes : ℕ) → Quiet (begin_plan memory changes)
begin_quiet laws memory changes = unless_quiet _ (refusals.TxnLimit (length memory.transactions)) memory _ refl (unless_quiet _ refusals.IdsSpent memory _ refl
    (held_quiet laws _ memory _ refl (done_quiet (replies.Begun (memory.last + 1)) (with_begun changes memory) refl)))

set_quiet : LogLaws → (memory : Memory) (number cell value : ℕ) → Quiet (set_plan memory number cell value)
set_quiet laws memory number cell value = over_quiet memory number _ (λ t. option_quiet _ (holder memory number cell) _
    (λ (other : Transaction). done_quiet (replies.Refused (refusals.CellHeld other.number)) memory refl)
    (unless_quiet _ (refusals.ChangesSpent t.changes) memory _ refl (placed_quiet laws _ memory _ refl
    (λ lsn. done_quiet replies.Done (with_set t (change_to memory cell value) lsn memory) refl))))

checkpoint_quiet : LogLaws → (memory : Memory) → Quiet (checkpoint_plan memory)
checkpoint_quiet laws memory = unless_quiet _ (refusals.TxnsOpen (length memory.transactions)) memory _ refl (info_quiet laws _ memory _ refl
    (λ (info : LogInfo). placed_quiet laws _ memory _ refl (λ lsn. done_quiet replies.Done memory refl)))

call_quiet : LogLaws → (log : State) (memory : Memory) (call : TxnCall) → reads_back call ≡ false → Quiet (txn_plan log memory call)
call_quiet laws log memory (asked.Begin changes) unread = unless_quiet log.broken (refusals.Log log_refusals.Broken) memory _ refl (begin_quiet laws memory changes)
call_quiet laws log memory (asked.Set number cell value) unread = unless_quiet log.broken (refusals.Log log_refusals.Broken) memory _ refl (set_quiet laws memory number cell value)
call_quiet laws log memory (asked.Back number kept) unread = absurd (cc unread)
call_quiet laws log memory (asked.Commit number) unread = unless_quiet log.broken (refusals.Log log_refusals.Broken) memory _ refl (over_quiet memory number _ (λ t. end_quiet laws memory t Commit true))
call_quiet laws log memory (asked.Rollback number) unread = absurd (cc unread)
call_quiet laws log memory (asked.Get cell) unread = done_quiet (replies.Value (slice_index memory.cells cell)) memory refl
call_quiet laws log memory asked.Checkpoint unread = unless_quiet log.broken (refusals.Log log_refusals.Broken) memory _ refl (checkpoint_quiet laws memory)

-- ---- steps

pub stays_whole : LogLaws → (told : Bool) (s : Store) (call : TxnCall) (reply : TxnReply) (t : Store) → s.log.broken ≡ false → TxnStep told s call reply t
    → tells_break reply ≡ false → (t.log.broken ≡ false) × (tells_table_broken reply ≡ false)
unfolding TxnStep
stays_whole laws told s call reply t was step calm =
    (call_keeps laws s.log s.memory call was).whole told s.memory.client s.log (record { reply = reply; memory = t.memory }) t.log was step calm

pub is_broken : LogLaws → (told : Bool) (s : Store) (call : TxnCall) (reply : TxnReply) (t : Store) → s.log.broken ≡ false → TxnStep told s call reply t
    → tells_break reply ≡ true → t.log.broken ≡ true
unfolding TxnStep
is_broken laws told s call reply t was step some =
    (call_keeps laws s.log s.memory call was).breaks told s.memory.client s.log (record { reply = reply; memory = t.memory }) t.log was step some

pub tells_none : LogLaws → (told : Bool) (s : Store) (call : TxnCall) (reply : TxnReply) (t : Store) → reads_back call ≡ false → TxnStep told s call reply t
    → tells_table_damage reply ≡ false
unfolding TxnStep
tells_none laws told s call reply t unread step =
    (call_quiet laws s.log s.memory call unread).quiet told s.memory.client s.log (record { reply = reply; memory = t.memory }) t.log step
