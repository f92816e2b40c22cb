-- What a crash leaves while a table is loaded.
use Rattle.clfs_txn.proofs.Words.{◌≡◌, ◌⊎◌, ℕ, Bool, true, false, List, length, sym, subst, ap, ◌∙◌, inl, inr, null_lsn, DiskState, LogInfo, Refusal, State}
use Rattle.clfs_txn.proofs.Words.{happened_of, bad_line, Step, Survives, CrashSurvives, checkpoint_bytes, Loaded, load_area, load_new, Plan, calls, on_info}
use Rattle.clfs_txn.proofs.Words.{Memory, table, LeavesTables, LeadsTo, checkpoint_of, CrashLeavesTable, HoldsTable, CrashLeaves, HoldsLeft, IsLeftMeanwhile}
use Rattle.clfs_txn.proofs.Words.{LeavesCall, LeavesCalls, Meanwhile, UnderWay, unread}
use Rattle.clfs_model.specs.declared.call.Call.TheVariants as log_calls
use Rattle.clfs_model.specs.declared.reply.Reply.TheVariants as log_replies
use Rattle.clfs_cells.specs.Loading.{load_plan}
use Rattle.clfs_txn.specs.UnderWay.{loading_of}
use Rattle.clfs_txn.proofs.LoadParts.{first_data}
use Rattle.clfs_txn.proofs.Left.{SameTable, along_left, left_has_table, table_held}
use Rattle.clfs_txn.proofs.Moments.{asked_leaves, by_call, first_call, honest_on, leaves_now, leaves_then, leaves_weaker}

-- the first restart area
pub first_meanwhile : (under : UnderWay) (told : Bool) (log : State) (m : Memory) (old new : DiskState) → m ≡ unread m.client m.area m.stream → log.broken ≡ false
    → (LeavesCall under m.client (log_calls.WriteRestart m.area (checkpoint_bytes (checkpoint_of m)) null_lsn false) log → CrashLeaves under old new)
    → Meanwhile under told m.client log (load_new m.client m.area m.stream) old new
first_meanwhile under told log m old new is whole leaves =
    first_call under told m.client log _ _ old new whole
    (by_call under m.client log _ _ old new (ap (λ (l : List ℕ). log_calls.WriteRestart m.area l null_lsn false) (first_data m is)) leaves)

-- a question what the stream is like, and what comes after it
pub info_meanwhile : (under : UnderWay) (told : Bool) (client : ℕ) (log : State) (stream : ℕ) (stop : Refusal → Plan Loaded) (go : LogInfo → Plan Loaded) (info : LogInfo)
    (old new : DiskState) → Step told log client (log_calls.Info stream) (happened_of (log_replies.Info info)) (log_replies.Info info) log
    → Meanwhile under told client log (go info) old new → Meanwhile under told client log (calls (log_calls.Info stream) (on_info stop go)) old new
info_meanwhile under told client log stream stop go info old new step next along present =
    next (along.1 (happened_of (log_replies.Info info)) (log_replies.Info info) log step) present

-- the area is there, and then the rest is loaded
pub load_meanwhile : (under : UnderWay) (told same : Bool) (client : ℕ) (log mid store : State) (m n : Memory) (old at new : DiskState) → same ≡ told → m.client ≡ client → n ≡ m
    → store ≡ mid → mid.records ≡ log.records → at.nature ≡ old.nature
    → LeadsTo Loaded told client log (load_plan (length log.records) client) mid (load_area (length log.records) client m.area m.stream)
    → CrashLeaves under old at → LeavesCalls under told client log (load_plan (length log.records) client)
    → Meanwhile under same n.client store (load_area (length store.records) n.client n.area n.stream) at new → CrashLeaves under old new
load_meanwhile under told same client log mid store m n old at new p q r e records nature leads first along second honest =
    let by_tell = subst (λ (b : Bool). Meanwhile under b n.client store (load_area (length store.records) n.client n.area n.stream) at new) p second in
    let by_memory = subst (λ (x : Memory). Meanwhile under told x.client store (load_area (length store.records) x.client x.area x.stream) at new) r by_tell in
    let by_log = subst (λ (x : State). Meanwhile under told m.client x (load_area (length x.records) m.client m.area m.stream) at new) e by_memory in
    let by_count = subst (λ l. Meanwhile under told m.client mid (load_area (length l) m.client m.area m.stream) at new) records by_log in
    let by_name = subst (λ (k : ℕ). Meanwhile under told k mid (load_area (length log.records) k m.area m.stream) at new) q by_count in
    let one = first honest in
    leaves_then (HoldsLeft under) old at new one
    (by_name (leads.goes under along) (λ _. leaves_now (HoldsLeft under) old at one) (honest_on old at nature honest))

-- the whole of it, by what the laws say
pub loads_meanwhile : (told : Bool) (client : ℕ) (log : State) (old new : DiskState) → SameTable → old.nature.tells_contents ≡ told → log.broken ≡ false
    → LeavesTables (table log) (table log) true client log (load_plan (length log.records) client)
    → ((x : State) → Survives (bad_line 0) log x → table x ≡ table log) → CrashSurvives (bad_line 0) log old old
    → (CrashLeaves (loading_of log client) old old → LeavesCalls (loading_of log client) told client log (load_plan (length log.records) client)
    → CrashLeaves (loading_of log client) old new)
    → CrashLeavesTable (table log) (table log) (loading_of log client) old new
loads_meanwhile told client log old new same is whole along rests survives goes honest =
    let tells : told ≡ true = sym is ∙ honest.0 in
    let plan = load_plan (length log.records) client in
    let under = loading_of log client in
    let along_plan = subst (λ (b : Bool). LeavesCalls under b client log plan) (sym tells) (along_left under client log plan (λ x left. inr left)) in
    leaves_weaker (HoldsLeft under) (HoldsTable (table log) (table log) under) old new (table_held (table log) (table log) under same tables (λ x left. left))
    (goes (asked_leaves under (bad_line 0) log old old (λ x left. inl left) whole survives) along_plan honest)
  where
    tables : (x : State) → IsLeftMeanwhile (loading_of log client) x → (table x ≡ table log) ⊎ (table x ≡ table log)
    tables x (inl left) = inl (rests x left)
    tables x (inr left) = left_has_table (table log) (table log) client log (load_plan (length log.records) client) along x left
