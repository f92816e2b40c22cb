-- How a plan of taking sets back is carried out, piece by piece.
use Rattle.clfs_txn.proofs.Words.{◌≡◌, ℕ, suc, Bool, false, refl, sym, subst, ap, ◌∙◌, Result, Ok, Err, Option, find, option_map_or, Mode, UndoNext, LogEntry}
use Rattle.clfs_txn.proofs.Words.{Call, Refusal, Happened, Reply, State, happened_of, happened_of_refusal, Step, Made, Plan, calls, never, on_placed}
use Rattle.clfs_txn.proofs.Words.{Answered, append_call, stops, undo_from, undo_sets, with_read_ended, Memory, Transaction, is_at, newest_standing}
use Rattle.clfs_txn.proofs.Words.{with_undone, HasSameArea, Leads, or_stopped, IsAt, DiskState, CrashLeaves, LeavesCall, Meanwhile, UnderWay}
use Rattle.clfs_model.specs.declared.call.Call.TheVariants as log_calls
use Rattle.clfs_model.specs.declared.reply.Reply.TheVariants as log_replies
use Rattle.clfs_cells.specs.Plans.{on_next}
use Rattle.clfs_cells.specs.Calls.{compensation, undo_set}
use Rattle.clfs_txn.specs.Calls.{or_ended}
use Rattle.clfs_txn.specs.Reading.{IsSetOf}
use Rattle.clfs_txn.proofs.Leads.{leads_call, leads_from, leads_nowhere, leads_on, leads_to}
use Rattle.clfs_txn.proofs.Moments.{first_call, meanwhile_as, meanwhile_then}

-- ---- the same step and the same place, by other names

pub step_by : (told same : Bool) (s : State) (client other : ℕ) (call : Call) (happened : Happened) (reply : Reply) (t : State) → told ≡ same → client ≡ other
    → Step told s client call happened reply t → Step same s other call happened reply t
step_by told same s client other call happened reply t p q step =
    subst (λ (b : Bool). Step b s other call happened reply t) p (subst (λ (c : ℕ). Step told s c call happened reply t) q step)

pub at_by : (log : State) (client other number same cursor : ℕ) (mode : Mode) (lsn : ℕ) → client ≡ other → number ≡ same → IsAt log client number cursor mode lsn
    → IsAt log other same cursor mode lsn
at_by log client other number same cursor mode lsn p q at =
    subst (λ (c : ℕ). IsAt log c same cursor mode lsn) p (subst (λ (n : ℕ). IsAt log client n cursor mode lsn) q at)

pub areas_then : (a b c : Memory) → HasSameArea a b → HasSameArea b c → HasSameArea a c
areas_then a b c first second = record { client = second.client ∙ first.client; area = second.area ∙ first.area }

pub same_area : (a b : Memory) → b ≡ a → HasSameArea a b
same_area a b same = record { client = ap (λ (m : Memory). m.client) same; area = ap (λ (m : Memory). m.area) same }

-- ---- one set

undoing : Memory → ℕ → Transaction → Made → (Memory → Plan Answered) → Plan Answered
undoing memory cursor t made rest = calls (append_call memory t (compensation made) made.undo_next false)
    (on_placed (λ refusal. with_read_ended memory cursor (stops memory refusal)) (λ at. rest (with_undone t made at memory)))

goes_to_set : (memory : Memory) (number cursor lsn : ℕ) (t : Transaction) (made : Made) (rest : Memory → Plan Answered) → IsSetOf memory number lsn t made
    → undo_set memory number cursor lsn rest ≡ undoing memory cursor t made rest
unfolding undoing
goes_to_set memory number cursor lsn t made rest is =
    let go : Transaction → Made → Plan Answered = λ x m. calls (append_call memory x (compensation m) m.undo_next false)
    (on_placed (λ refusal. with_read_ended memory cursor (stops memory refusal)) (λ at. rest (with_undone x m at memory))) in
    ap (λ (o : Option Transaction). option_map_or (λ (x : Transaction). option_map_or (go x) (find (is_at lsn) x.made) never) o never) is.open_one
    ∙ ap (λ (o : Option Made). option_map_or (go t) o never) is.there

pub set_undone : (told : Bool) (client : ℕ) (log mid : State) (memory now : Memory) (number cursor lsn at : ℕ) (t : Transaction) (made : Made) (rest : Memory → Plan Answered)
    → IsSetOf memory number lsn t made
    → Step told log client (append_call memory t (compensation made) made.undo_next false) (happened_of (log_replies.Placed at)) (log_replies.Placed at) mid
    → now ≡ with_undone t made at memory → Leads told client log (undo_set memory number cursor lsn rest) mid (rest now)
unfolding undoing
set_undone told client log mid memory now number cursor lsn at t made rest is step same =
    leads_from told client log mid (undoing memory cursor t made rest) _ (rest now) (goes_to_set memory number cursor lsn t made rest is)
    (leads_to told client log mid (undoing memory cursor t made rest) (rest (with_undone t made at memory)) (rest now) (ap rest (sym same))
    (leads_call told client log _ _ (log_replies.Placed at) mid step))

pub set_refused : (told : Bool) (client : ℕ) (log mid : State) (memory now : Memory) (number cursor lsn : ℕ) (t : Transaction) (made : Made) (rest : Memory → Plan Answered)
    (refusal : Refusal) → IsSetOf memory number lsn t made
    → Step told log client (append_call memory t (compensation made) made.undo_next false) (happened_of_refusal refusal) (log_replies.Refused refusal) mid
    → now ≡ memory → Leads told client log (undo_set memory number cursor lsn rest) mid (with_read_ended now cursor (stops now refusal))
unfolding undoing
set_refused told client log mid memory now number cursor lsn t made rest refusal is step same =
    leads_from told client log mid (undoing memory cursor t made rest) _ _ (goes_to_set memory number cursor lsn t made rest is)
    (leads_to told client log mid (undoing memory cursor t made rest) (with_read_ended memory cursor (stops memory refusal)) _
    (ap (λ (m : Memory). with_read_ended m cursor (stops m refusal)) (sym same))
    (leads_call told client log _ _ (log_replies.Refused refusal) mid step))

-- ---- one after the other

-- none is taken back yet
pub started : (told : Bool) (client : ℕ) (log : State) (memory : Memory) (number cursor lsn left more : ℕ) (rest : Memory → Plan Answered) → left ≡ more
    → Leads told client log (undo_from more memory number cursor lsn rest) log (undo_from left memory number cursor lsn rest)
started told client log memory number cursor lsn left more rest all =
    leads_from told client log log (undo_from left memory number cursor lsn rest) _ _ (ap (λ (n : ℕ). undo_from n memory number cursor lsn rest) (sym all))
    (leads_nowhere told client log (undo_from left memory number cursor lsn rest))

-- what comes after a set where so many more are taken back
abbrev pub behind_set : ℕ → ℕ → ℕ → (Memory → Plan Answered) → Memory → Plan Answered
behind_set more number cursor rest now = calls (log_calls.ReadNext now.area cursor)
    (on_next (λ refusal. with_read_ended now cursor (stops now refusal)) (λ (entry : LogEntry). undo_from more now number cursor entry.lsn rest))

-- a set was taken back, and the cursor has come to the next one
pub went_on : (told : Bool) (client : ℕ) (first log mid after : State) (plan : Plan Answered) (memory now then : Memory) (number cursor lsn left less : ℕ)
    (entry : LogEntry) (rest : Memory → Plan Answered) → suc less ≡ left
    → Leads told client first plan log (undo_from left memory number cursor lsn rest)
    → Leads told client log (undo_set memory number cursor lsn (behind_set less number cursor rest)) mid (behind_set less number cursor rest now)
    → Step told mid client (log_calls.ReadNext now.area cursor) (happened_of (log_replies.Next entry)) (log_replies.Next entry) after
    → then ≡ now → Leads told client first plan after (undo_from less then number cursor entry.lsn rest)
went_on told client first log mid after plan memory now then number cursor lsn left less entry rest size before set step same =
    let start : Leads told client first plan log (undo_set memory number cursor lsn (behind_set less number cursor rest))
    = leads_to told client first log plan (undo_from left memory number cursor lsn rest) (undo_from (suc less) memory number cursor lsn rest)
    (ap (λ (n : ℕ). undo_from n memory number cursor lsn rest) (sym size)) before in
    leads_to told client first after plan (undo_from less now number cursor entry.lsn rest) _ (ap (λ (m : Memory). undo_from less m number cursor entry.lsn rest) (sym same))
    (leads_on told client first mid after plan _ _ (leads_on told client first log mid plan _ _ start set)
    (leads_call told client mid _ _ (log_replies.Next entry) after step))

-- or it was refused to go on
pub went_nowhere : (told : Bool) (client : ℕ) (first log mid after : State) (plan : Plan Answered) (memory now then : Memory) (number cursor lsn left less : ℕ)
    (refusal : Refusal) (rest : Memory → Plan Answered) → suc less ≡ left
    → Leads told client first plan log (undo_from left memory number cursor lsn rest)
    → Leads told client log (undo_set memory number cursor lsn (behind_set less number cursor rest)) mid (behind_set less number cursor rest now)
    → Step told mid client (log_calls.ReadNext now.area cursor) (happened_of_refusal refusal) (log_replies.Refused refusal) after
    → then ≡ now → Leads told client first plan after (with_read_ended then cursor (stops then refusal))
went_nowhere told client first log mid after plan memory now then number cursor lsn left less refusal rest size before set step same =
    let start : Leads told client first plan log (undo_set memory number cursor lsn (behind_set less number cursor rest))
    = leads_to told client first log plan (undo_from left memory number cursor lsn rest) (undo_from (suc less) memory number cursor lsn rest)
    (ap (λ (n : ℕ). undo_from n memory number cursor lsn rest) (sym size)) before in
    leads_to told client first after plan (with_read_ended now cursor (stops now refusal)) _ (ap (λ (m : Memory). with_read_ended m cursor (stops m refusal)) (sym same))
    (leads_on told client first mid after plan _ _ (leads_on told client first log mid plan _ _ start set)
    (leads_call told client mid _ _ (log_replies.Refused refusal) after step))

-- or the set wasn't taken back
pub not_undone : (told : Bool) (client : ℕ) (first log mid : State) (plan : Plan Answered) (memory now : Memory) (number cursor lsn left less : ℕ)
    (refusal : Refusal) (rest : Memory → Plan Answered) → suc less ≡ left
    → Leads told client first plan log (undo_from left memory number cursor lsn rest)
    → Leads told client log (undo_set memory number cursor lsn (behind_set less number cursor rest)) mid (with_read_ended now cursor (stops now refusal))
    → Leads told client first plan mid (with_read_ended now cursor (stops now refusal))
not_undone told client first log mid plan memory now number cursor lsn left less refusal rest size before set =
    leads_on told client first log mid plan _ _
    (leads_to told client first log plan (undo_from left memory number cursor lsn rest) (undo_from (suc less) memory number cursor lsn rest)
    (ap (λ (n : ℕ). undo_from n memory number cursor lsn rest) (sym size)) before) set

ended_either_way : {A : Type 0} (cursor : ℕ) (rest : Memory → Plan Answered) (result : Result A Refusal) (now : Memory)
    → or_ended cursor (λ (m : Memory). with_read_ended m cursor (rest m)) result now ≡ with_read_ended now cursor (or_stopped rest result now)
ended_either_way cursor rest (Ok value) now = refl
ended_either_way cursor rest (Err refusal) now = refl

-- the last set
pub last_undone : {A : Type 0} (told : Bool) (client : ℕ) (first log mid : State) (plan : Plan Answered) (memory now : Memory) (number cursor lsn left : ℕ)
    (result : Result A Refusal) (rest : Memory → Plan Answered) → left ≡ 0
    → Leads told client first plan log (undo_from left memory number cursor lsn rest)
    → Leads told client log (undo_set memory number cursor lsn (λ (m : Memory). with_read_ended m cursor (rest m))) mid
    (or_ended cursor (λ (m : Memory). with_read_ended m cursor (rest m)) result now)
    → Leads told client first plan mid (with_read_ended now cursor (or_stopped rest result now))
last_undone told client first log mid plan memory now number cursor lsn left result rest none before set =
    leads_on told client first log mid plan _ _
    (leads_to told client first log plan (undo_from left memory number cursor lsn rest) (undo_from 0 memory number cursor lsn rest)
    (ap (λ (n : ℕ). undo_from n memory number cursor lsn rest) none) before)
    (leads_to told client log mid _ (or_ended cursor (λ (m : Memory). with_read_ended m cursor (rest m)) result now) _ (ended_either_way cursor rest result now) set)

-- ---- from the newest set that stands

pub none_undone : (told : Bool) (client : ℕ) (log : State) (memory : Memory) (t : Transaction) (count : ℕ) (rest : Memory → Plan Answered) → count ≡ 0
    → Leads told client log (undo_sets count memory t rest) log (rest memory)
none_undone told client log memory t count rest none =
    leads_from told client log log (rest memory) _ (rest memory) (ap (λ (n : ℕ). undo_sets n memory t rest) none) (leads_nowhere told client log (rest memory))

pub not_found : (told : Bool) (client : ℕ) (log mid : State) (memory now : Memory) (t : Transaction) (count less : ℕ) (refusal : Refusal) (rest : Memory → Plan Answered)
    → suc less ≡ count
    → Step told log client (log_calls.Read memory.area (newest_standing t) UndoNext) (happened_of_refusal refusal) (log_replies.Refused refusal) mid → now ≡ memory
    → Leads told client log (undo_sets count memory t rest) mid (stops now refusal)
not_found told client log mid memory now t count less refusal rest size step same =
    leads_from told client log mid (undo_sets (suc less) memory t rest) _ _ (ap (λ (n : ℕ). undo_sets n memory t rest) (sym size))
    (leads_to told client log mid _ (stops memory refusal) _ (ap (λ (m : Memory). stops m refusal) (sym same))
    (leads_call told client log _ _ (log_replies.Refused refusal) mid step))

pub some_undone : {A : Type 0} (told : Bool) (client : ℕ) (log mid after last : State) (memory now then kept : Memory) (t : Transaction) (count less cursor : ℕ) (entry : LogEntry)
    (result : Result A Refusal) (rest : Memory → Plan Answered) → suc less ≡ count
    → Step told log client (log_calls.Read memory.area (newest_standing t) UndoNext) (happened_of (log_replies.Found cursor entry)) (log_replies.Found cursor entry) mid
    → now ≡ memory
    → Leads told client mid (undo_from less now t.number cursor entry.lsn rest) after (with_read_ended then cursor (or_stopped rest result then))
    → Leads told client after (with_read_ended then cursor (or_stopped rest result then)) last (or_stopped rest result then)
    → kept ≡ then
    → Leads told client log (undo_sets count memory t rest) last (or_stopped rest result kept)
some_undone told client log mid after last memory now then kept t count less cursor entry result rest size step same undone ended still =
    leads_from told client log last (undo_sets (suc less) memory t rest) _ _ (ap (λ (n : ℕ). undo_sets n memory t rest) (sym size))
    (leads_to told client log last _ (or_stopped rest result then) _ (ap (λ (m : Memory). or_stopped rest result m) (sym still))
    (leads_on told client log after last _ _ _
    (leads_on told client log mid after _ _ _
    (leads_to told client log mid _ (undo_from less memory t.number cursor entry.lsn rest) _ (ap (λ (m : Memory). undo_from less m t.number cursor entry.lsn rest) (sym same))
    (leads_call told client log _ _ (log_replies.Found cursor entry) mid step)) undone) ended))

-- ---- what a crash leaves

pub undo_meanwhile : (under : UnderWay) (told : Bool) (client : ℕ) (log : State) (memory : Memory) (number cursor lsn : ℕ) (t : Transaction) (made : Made)
    (rest : Memory → Plan Answered) (old new : DiskState) → IsSetOf memory number lsn t made → log.broken ≡ false
    → (LeavesCall under client (append_call memory t (compensation made) made.undo_next false) log → CrashLeaves under old new)
    → Meanwhile under told client log (undo_set memory number cursor lsn rest) old new
unfolding undoing
undo_meanwhile under told client log memory number cursor lsn t made rest old new is whole leaves =
    meanwhile_as under told client log (undoing memory cursor t made rest) _ old new (goes_to_set memory number cursor lsn t made rest is)
    (first_call under told client log (append_call memory t (compensation made) made.undo_next false) _ old new whole leaves)

-- one more set, as far as its record
pub set_meanwhile : (under : UnderWay) (told : Bool) (client : ℕ) (first log : State) (plan : Plan Answered) (memory : Memory) (number cursor lsn left less : ℕ)
    (rest : Memory → Plan Answered) (old a b : DiskState) → suc less ≡ left → a.nature ≡ old.nature
    → Leads told client first plan log (undo_from left memory number cursor lsn rest) → Meanwhile under told client first plan old a
    → Meanwhile under told client log (undo_set memory number cursor lsn (behind_set less number cursor rest)) a b
    → Meanwhile under told client first plan old b
set_meanwhile under told client first log plan memory number cursor lsn left less rest old a b size nature leads so_far next =
    meanwhile_then under told client first log plan (undo_from left memory number cursor lsn rest) old a b nature leads so_far
    (meanwhile_as under told client log (undo_from (suc less) memory number cursor lsn rest) _ a b (ap (λ (n : ℕ). undo_from n memory number cursor lsn rest) (sym size)) next)

-- and then to the next one
pub next_meanwhile : (under : UnderWay) (told : Bool) (client : ℕ) (first log mid : State) (plan : Plan Answered) (memory now : Memory) (number cursor lsn left less : ℕ)
    (rest : Memory → Plan Answered) (old a b c : DiskState) → suc less ≡ left → a.nature ≡ old.nature → b.nature ≡ a.nature → mid.broken ≡ false
    → Leads told client first plan log (undo_from left memory number cursor lsn rest) → Meanwhile under told client first plan old a
    → Leads told client log (undo_set memory number cursor lsn (behind_set less number cursor rest)) mid (behind_set less number cursor rest now)
    → Meanwhile under told client log (undo_set memory number cursor lsn (behind_set less number cursor rest)) a b
    → (LeavesCall under client (log_calls.ReadNext now.area cursor) mid → CrashLeaves under b c)
    → Meanwhile under told client first plan old c
next_meanwhile under told client first log mid plan memory now number cursor lsn left less rest old a b c size nature_a nature_b whole leads so_far set_leads set leaves =
    set_meanwhile under told client first log plan memory number cursor lsn left less rest old a c size nature_a leads so_far
    (meanwhile_then under told client log mid _ (behind_set less number cursor rest now) a b c nature_b set_leads set
    (first_call under told client mid (log_calls.ReadNext now.area cursor) _ b c whole leaves))

pub last_meanwhile : (under : UnderWay) (told : Bool) (client : ℕ) (first log : State) (plan : Plan Answered) (memory : Memory) (number cursor lsn left : ℕ)
    (rest : Memory → Plan Answered) (old a b : DiskState) → left ≡ 0 → a.nature ≡ old.nature
    → Leads told client first plan log (undo_from left memory number cursor lsn rest) → Meanwhile under told client first plan old a
    → Meanwhile under told client log (undo_set memory number cursor lsn (λ (m : Memory). with_read_ended m cursor (rest m))) a b
    → Meanwhile under told client first plan old b
last_meanwhile under told client first log plan memory number cursor lsn left rest old a b none nature leads so_far next =
    meanwhile_then under told client first log plan (undo_from left memory number cursor lsn rest) old a b nature leads so_far
    (meanwhile_as under told client log (undo_from 0 memory number cursor lsn rest) _ a b (ap (λ (n : ℕ). undo_from n memory number cursor lsn rest) none) next)

-- from the newest set that stands
pub read_meanwhile : (under : UnderWay) (told : Bool) (client : ℕ) (log : State) (memory : Memory) (t : Transaction) (count less : ℕ) (rest : Memory → Plan Answered)
    (old new : DiskState) → suc less ≡ count → log.broken ≡ false
    → (LeavesCall under client (log_calls.Read memory.area (newest_standing t) UndoNext) log → CrashLeaves under old new)
    → Meanwhile under told client log (undo_sets count memory t rest) old new
read_meanwhile under told client log memory t count less rest old new size whole leaves =
    meanwhile_as under told client log (undo_sets (suc less) memory t rest) _ old new (ap (λ (n : ℕ). undo_sets n memory t rest) (sym size))
    (first_call under told client log (log_calls.Read memory.area (newest_standing t) UndoNext) _ old new whole leaves)

pub sets_meanwhile : (under : UnderWay) (told : Bool) (client : ℕ) (log mid : State) (memory now : Memory) (t : Transaction) (count less cursor : ℕ) (entry : LogEntry)
    (rest : Memory → Plan Answered) (old a b : DiskState) → suc less ≡ count → log.broken ≡ false → a.nature ≡ old.nature
    → Step told log client (log_calls.Read memory.area (newest_standing t) UndoNext) (happened_of (log_replies.Found cursor entry)) (log_replies.Found cursor entry) mid
    → now ≡ memory
    → (LeavesCall under client (log_calls.Read memory.area (newest_standing t) UndoNext) log → CrashLeaves under old a)
    → Meanwhile under told client mid (undo_from less now t.number cursor entry.lsn rest) a b
    → Meanwhile under told client log (undo_sets count memory t rest) old b
sets_meanwhile under told client log mid memory now t count less cursor entry rest old a b size whole nature step same leaves next =
    meanwhile_as under told client log (undo_sets (suc less) memory t rest) _ old b (ap (λ (n : ℕ). undo_sets n memory t rest) (sym size))
    (meanwhile_then under told client log mid (undo_sets (suc less) memory t rest) (undo_from less memory t.number cursor entry.lsn rest) old a b nature
    (leads_call told client log _ _ (log_replies.Found cursor entry) mid step)
    (first_call under told client log (log_calls.Read memory.area (newest_standing t) UndoNext) _ old a whole leaves)
    (meanwhile_as under told client mid (undo_from less now t.number cursor entry.lsn rest) _ a b
    (ap (λ (m : Memory). undo_from less m t.number cursor entry.lsn rest) (sym same)) next))
