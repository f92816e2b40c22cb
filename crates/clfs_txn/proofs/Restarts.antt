-- The ways in which a checkpoint goes.
use Rattle.clfs_txn.proofs.Words.{◌≡◌, ℕ, ◌+◌, ◌<◌, Bool, true, false, length, refl, sym, subst, ◌∙◌, arith, lt-ltb, le-ltb, LogInfo, Refusal, happened_of}
use Rattle.clfs_txn.proofs.Words.{happened_of_refusal, Step, checkpoint_bytes, Plan, calls, on_info, on_placed, Answered, TxnStep, txn_plan, stops, answers}
use Rattle.clfs_txn.proofs.Words.{Store, Memory, checkpoint_of, DiskState, CrashLeaves, LeavesCall, Meanwhile, UnderWay}
use Rattle.clfs_model.specs.declared.call.Call.TheVariants as log_calls
use Rattle.clfs_model.specs.declared.refusal.Refusal.TheVariants as log_refusals
use Rattle.clfs_model.specs.declared.reply.Reply.TheVariants as log_replies
use Rattle.clfs_cells.specs.declared.asked.TxnCall.TheVariants as asked
use Rattle.clfs_cells.specs.declared.told.TxnRefusal.TheVariants as refusals
use Rattle.clfs_cells.specs.declared.told.TxnReply.TheVariants as replies
use Rattle.clfs_txn.proofs.Carried.{passed, met, one_call, step_is, refused_at_once}
use Rattle.clfs_txn.proofs.Moments.{meanwhile_as}

pub broken : (told : Bool) (s : Store) → s.log.broken ≡ true → TxnStep told s asked.Checkpoint (replies.Refused (refusals.Log log_refusals.Broken)) s
broken told s e = refused_at_once told s asked.Checkpoint (refusals.Log log_refusals.Broken) (met s.log.broken _ s.memory _ e)

pub some_open : (told : Bool) (s : Store) (n : ℕ) → s.log.broken ≡ false → n ≡ length s.memory.transactions → 0 < n
    → TxnStep told s asked.Checkpoint (replies.Refused (refusals.TxnsOpen n)) s
some_open told s n e is some =
    subst (λ (k : ℕ). TxnStep told s asked.Checkpoint (replies.Refused (refusals.TxnsOpen k)) s) (sym is)
    (refused_at_once told s asked.Checkpoint (refusals.TxnsOpen (length s.memory.transactions))
    (passed s.log.broken _ s.memory _ e ∙ met _ _ s.memory _ (lt-ltb 0 (length s.memory.transactions) (omega (arith, is, some)))))

-- what is asked of the log
writing : Memory → Plan Answered
writing memory = calls (log_calls.Info memory.stream) (on_info (stops memory) (λ (info : LogInfo).
    calls (log_calls.WriteRestart memory.area (checkpoint_bytes (checkpoint_of memory)) (info.last + 1) false)
    (on_placed (stops memory) (λ _. answers replies.Done memory))))

writes : (s : Store) → s.log.broken ≡ false → length s.memory.transactions ≡ 0 → txn_plan s.log s.memory asked.Checkpoint ≡ writing s.memory
unfolding writing
writes s e none = passed s.log.broken _ s.memory _ e ∙ passed _ _ s.memory _ (le-ltb 0 (length s.memory.transactions) (omega (arith, none)))

pub unknown : (told : Bool) (s : Store) (refusal : Refusal) → s.log.broken ≡ false → length s.memory.transactions ≡ 0
    → Step told s.log s.memory.client (log_calls.Info s.memory.stream) (happened_of_refusal refusal) (log_replies.Refused refusal) s.log
    → TxnStep told s asked.Checkpoint (replies.Refused (refusals.Log refusal)) s
unfolding writing
unknown told s refusal e none step =
    step_is told s asked.Checkpoint (replies.Refused (refusals.Log refusal)) s (writing s.memory) (writes s e none)
    (one_call told s.memory.client s.log _ _ (log_replies.Refused refusal) s.log (record { reply = replies.Refused (refusals.Log refusal); memory = s.memory }) s.log step (refl, refl))

pub refused : (told : Bool) (s u : Store) (info : LogInfo) (refusal : Refusal) → s.log.broken ≡ false → length s.memory.transactions ≡ 0
    → Step told s.log s.memory.client (log_calls.Info s.memory.stream) (happened_of (log_replies.Info info)) (log_replies.Info info) s.log
    → Step told s.log s.memory.client (log_calls.WriteRestart s.memory.area (checkpoint_bytes (checkpoint_of s.memory)) (info.last + 1) false)
    (happened_of_refusal refusal) (log_replies.Refused refusal) u.log
    → u.memory ≡ s.memory → TxnStep told s asked.Checkpoint (replies.Refused (refusals.Log refusal)) u
unfolding writing
refused told s u info refusal e none asked_first step same =
    let result : Answered = record { reply = replies.Refused (refusals.Log refusal); memory = u.memory } in
    let told_is : result ≡ record { reply = replies.Refused (refusals.Log refusal); memory = s.memory } = λ i. record { reply = replies.Refused (refusals.Log refusal); memory = same i } in
    step_is told s asked.Checkpoint (replies.Refused (refusals.Log refusal)) u (writing s.memory) (writes s e none)
    (one_call told s.memory.client s.log _ _ (log_replies.Info info) s.log result u.log asked_first
    (one_call told s.memory.client s.log _ _ (log_replies.Refused refusal) u.log result u.log step (told_is, refl)))

pub done : (told : Bool) (s u : Store) (info : LogInfo) (lsn : ℕ) → s.log.broken ≡ false → length s.memory.transactions ≡ 0
    → Step told s.log s.memory.client (log_calls.Info s.memory.stream) (happened_of (log_replies.Info info)) (log_replies.Info info) s.log
    → Step told s.log s.memory.client (log_calls.WriteRestart s.memory.area (checkpoint_bytes (checkpoint_of s.memory)) (info.last + 1) false)
    (happened_of (log_replies.Placed lsn)) (log_replies.Placed lsn) u.log
    → u.memory ≡ s.memory → TxnStep told s asked.Checkpoint replies.Done u
unfolding writing
done told s u info lsn e none asked_first step same =
    let result : Answered = record { reply = replies.Done; memory = u.memory } in
    let told_is : result ≡ record { reply = replies.Done; memory = s.memory } = λ i. record { reply = replies.Done; memory = same i } in
    step_is told s asked.Checkpoint replies.Done u (writing s.memory) (writes s e none)
    (one_call told s.memory.client s.log _ _ (log_replies.Info info) s.log result u.log asked_first
    (one_call told s.memory.client s.log _ _ (log_replies.Placed lsn) u.log result u.log step (told_is, refl)))

-- what a crash leaves while the restart area is written
pub checkpoint_meanwhile : (under : UnderWay) (told : Bool) (s : Store) (info : LogInfo) (old new : DiskState) → s.log.broken ≡ false → length s.memory.transactions ≡ 0
    → Step told s.log s.memory.client (log_calls.Info s.memory.stream) (happened_of (log_replies.Info info)) (log_replies.Info info) s.log
    → (LeavesCall under s.memory.client (log_calls.WriteRestart s.memory.area (checkpoint_bytes (checkpoint_of s.memory)) (info.last + 1) false) s.log
    → CrashLeaves under old new)
    → Meanwhile under told s.memory.client s.log (txn_plan s.log s.memory asked.Checkpoint) old new
unfolding writing
checkpoint_meanwhile under told s info old new e none step leaves =
    meanwhile_as under told s.memory.client s.log (writing s.memory) _ old new (writes s e none)
    (λ along present. leaves ((along.1 (happened_of (log_replies.Info info)) (log_replies.Info info) s.log step).0 e))
