-- A step without fault and damage leaves a log that isn't broken so, and its reply doesn't say that the log is broken.
use Rattle.clfs_laws.proofs.Words.{◌≡◌, ◌≢◌, ℕ, ◌+◌, Bool, true, false, refl, sym, ap, ◌∙◌, subst, inl, inr, ◌⊎◌, List, [], ◌∷◌, ◌++◌, length, Option, Some}
use Rattle.clfs_laws.proofs.Words.{None, All, MatchBool, MatchOption, nat_lt, if◌then◌else◌, AllByRecursion, All-from_recursion, recursion_from_All, LogEntry}
use Rattle.clfs_laws.proofs.Words.{Policy, PolicyKind, joins, begins_here, Call, Draft, Entry, Refusal, Happened, Fine, Fault, Damage, Reply, State, Area}
use Rattle.clfs_laws.proofs.Words.{Cursor, happened_of, seal, flush, flushed, GoesOn, live_at, with_policy, without_policy, appended, made_ready, put}
use Rattle.clfs_laws.proofs.Words.{spend_if, hold_sizes, seal_if, flush_if, need_of, plain_record, newest_restart, record_cursor, restart_cursor, refusal}
use Rattle.clfs_laws.proofs.Words.{stream_number, grown, grown_if, reserved, own_sum, Outcome, answer, over_area, moved_on, archiving, restart_record}
use Rattle.clfs_laws.proofs.Words.{rebased, restarted, Step, ReopenStep, Reopens, Goes, Comes, IsDamaged, IsOutOfMemory, is_of_call}
use Rattle.clfs_lsn.specs.declared.policy.Policy.TheVariants as policies
use Rattle.clfs_lsn.specs.declared.policy.PolicyKind.TheVariants as kinds
use Rattle.clfs_model.specs.declared.call.Call.TheVariants as calls
use Rattle.clfs_model.specs.declared.refusal.Refusal.TheVariants as refusals
use Rattle.clfs_model.specs.declared.reply.Reply.TheVariants as replies
use Rattle.clfs_laws.proofs.Faults.{fine_told}
use Rattle.clfs_laws.proofs.OutcomeCases.{of_option, of_area, of_cursor}
use Rattle.clfs_laws.proofs.CallRefusals.{refusal_told}
use Rattle.clfs_laws.proofs.Replies.{answers_it, own_refusal, no_refusal_read}
use Rattle.clfs_laws.proofs.StepCases.{broken_step, whole_step}

-- ---- what an answer leaves

-- an outcome that leaves the log broken just where it was
abbrev Leaves : Bool → Outcome → Type 0
Leaves broken o = o.state.broken ≡ broken

picked : (b : Bool) (x y : State) (v : Bool) → x.broken ≡ v → y.broken ≡ v → (if b then x else y).broken ≡ v
picked true x y v of_x of_y = of_x
picked false x y v of_x of_y = of_y

over : (s : State) (client number : ℕ) (rest : Area → Outcome) → ((area : Area) → Leaves s.broken (rest area)) → Leaves s.broken (over_area s client number rest)
over s client number rest all = of_area (Leaves s.broken) s client number rest all refl

sealed_keeps : (s : State) → (seal s).broken ≡ s.broken
sealed_keeps s = picked (nat_lt 0 s.place.records) _ s s.broken refl refl

ready_keeps : (s : State) (n : ℕ) → (made_ready s n).broken ≡ s.broken
ready_keeps s n = picked (joins s.shape s.place n) s _ s.broken refl (picked (begins_here s.shape s.place n) (seal s) (flush s) s.broken (sealed_keeps s) (sealed_keeps s))

grown_keeps : (s : State) (need : ℕ) → (grown s need).broken ≡ s.broken
unfolding grown
grown_keeps s need = by_growth _ (reserved s + need)
  where
    by_growth : (grows : Bool) (wanted : ℕ) → (grown_if grows s wanted).broken ≡ s.broken
    by_growth true wanted = refl
    by_growth false wanted = refl

spent_keeps : (spends : Bool) (area : Area) (n : ℕ) (s : State) → (spend_if spends area n s).broken ≡ s.broken
spent_keeps true area n s = refl
spent_keeps false area n s = refl

held_keeps : (area : Area) (sizes : List ℕ) (s : State) → (hold_sizes area sizes s).broken ≡ s.broken
held_keeps area [] s = refl
held_keeps area (n ∷ sizes) s = refl

sealed_if_keeps : (b : Bool) (s : State) → (seal_if b s).broken ≡ s.broken
sealed_if_keeps b s = picked b (seal s) s s.broken (sealed_keeps s) refl

flushed_if_keeps : (b : Bool) (s : State) → (flush_if b s).broken ≡ s.broken
flushed_if_keeps b s = picked b (flush s) s s.broken (sealed_keeps s) refl

rebased_keeps : (stream base : ℕ) (s : State) → (rebased stream base s).broken ≡ s.broken
rebased_keeps stream base s = picked _ s _ s.broken refl refl

policy_keeps : (s : State) (policy : Policy) → (with_policy s policy).broken ≡ s.broken
policy_keeps s (policies.Maximum value) = refl
policy_keeps s (policies.Minimum value) = refl
policy_keeps s (policies.Growth value) = refl
policy_keeps s policies.Automatic = refl

kind_keeps : (s : State) (kind : PolicyKind) → (without_policy s kind).broken ≡ s.broken
kind_keeps s kinds.Maximum = refl
kind_keeps s kinds.Minimum = refl
kind_keeps s kinds.Growth = refl
kind_keeps s kinds.Automatic = refl

archive_keeps : (s : State) (on : Bool) → (archiving s on).broken ≡ s.broken
archive_keeps s true = refl
archive_keeps s false = refl

appended_keeps : (s : State) (area : Area) (draft : Draft) (spends : Bool) (sizes : List ℕ) → (appended s area draft spends sizes).broken ≡ s.broken
appended_keeps s area draft spends sizes =
    let n = length draft.bytes in
    let larger = grown s (need_of spends n sizes) in
    let joined = put larger (plain_record area draft) in
    let spent = spend_if spends area n joined in
    let held = hold_sizes area sizes spent in
    flushed_if_keeps draft.flush (seal_if draft.seal held) ∙ sealed_if_keeps draft.seal held ∙ held_keeps area sizes spent ∙ spent_keeps spends area n joined
    ∙ ready_keeps larger n ∙ grown_keeps s (need_of spends n sizes)

restarted_keeps : (s : State) (area : Area) (bytes : List ℕ) (base : ℕ) (spends : Bool) → (restarted s area bytes base spends).broken ≡ s.broken
restarted_keeps s area bytes base spends =
    let n = length bytes in
    let larger = grown s (need_of spends n []) in
    let joined = put larger (restart_record s area bytes base) in
    let spent = spend_if spends area n joined in
    rebased_keeps area.stream base (flush spent) ∙ sealed_keeps spent ∙ spent_keeps spends area n joined ∙ ready_keeps larger n ∙ grown_keeps s (need_of spends n [])

read_keeps : (s : State) (area : Area) (number : ℕ) (at : Option Cursor) → Leaves s.broken (moved_on s area number at)
read_keeps s area number at = of_cursor (Leaves s.broken) s area number at (λ (entry : LogEntry). refl) refl

answer_keeps : (s : State) (client : ℕ) (call : Call) → Leaves s.broken (answer s client call)
answer_keeps s client (calls.OpenStream name) = of_option (Leaves s.broken) (stream_number s name) _ _ (λ (number : ℕ). refl) refl
answer_keeps s client (calls.CreateArea stream largest reads) = refl
answer_keeps s client (calls.DeleteArea number) = refl
answer_keeps s client (calls.Reserve number sizes) =
    over s client number _ (λ area. held_keeps area sizes (grown s (own_sum sizes)) ∙ grown_keeps s (own_sum sizes))
answer_keeps s client (calls.Release number sectors) = over s client number _ (λ area. refl)
answer_keeps s client (calls.Align number sizes) = refl
answer_keeps s client (calls.Append number draft spends sizes) = over s client number _ (λ area. appended_keeps s area draft spends sizes)
answer_keeps s client (calls.Flush number) = sealed_keeps s
answer_keeps s client (calls.FlushTo number lsn) = picked (nat_lt lsn (flushed s)) s (flush s) s.broken refl (sealed_keeps s)
answer_keeps s client (calls.Read number lsn mode) =
    over s client number _ (λ area. of_option (Leaves s.broken) (live_at s area.stream lsn) _ _ (λ (entry : LogEntry). refl) refl)
answer_keeps s client (calls.ReadNext number cursor) = over s client number _ (λ area. read_keeps s area cursor (record_cursor area cursor))
answer_keeps s client (calls.EndRead number cursor) = refl
answer_keeps s client (calls.WriteRestart number bytes base spends) = over s client number _ (λ area. restarted_keeps s area bytes base spends)
answer_keeps s client (calls.ReadRestart number) =
    over s client number _ (λ area. of_option (Leaves s.broken) (newest_restart s area.stream) _ _ (λ (entry : LogEntry). refl) refl)
answer_keeps s client (calls.PreviousRestart number cursor) = over s client number _ (λ area. read_keeps s area cursor (restart_cursor area cursor))
answer_keeps s client (calls.Advance number lsn) = over s client number _ (λ area. sealed_keeps s)
answer_keeps s client (calls.SetArchive on) = archive_keeps s on
answer_keeps s client (calls.SetArchiveTail lsn) = refl
answer_keeps s client calls.ListExtents = refl
answer_keeps s client (calls.InstallPolicy policy) = policy_keeps s policy
answer_keeps s client (calls.RemovePolicy kind) = kind_keeps s kind
answer_keeps s client (calls.SetSize containers) = refl
answer_keeps s client (calls.Info stream) = refl

-- ---- what a step leaves

-- a log that isn't broken, and a reply that doesn't say that it is
pub record LeavesWhole (reply : Reply) (t : State) : Type 0 where
  pub whole : t.broken ≡ false
  pub silent : reply ≢ replies.Refused refusals.Broken

-- another refusal
other_refusal : (given : Refusal) → given ≢ refusals.Broken → replies.Refused given ≢ replies.Refused refusals.Broken
other_refusal given differ same = differ (cc same)

own_silent : (given : Refusal) → is_of_call given ≡ true → given ≢ refusals.Broken
own_silent given own same = let wrong : is_of_call given ≡ false = ap is_of_call same in cc (own, wrong)

named : (s t : State) (reply : Reply) (given : Refusal) → s.broken ≡ false → reply ≡ replies.Refused given → t ≡ s → given ≢ refusals.Broken → LeavesWhole reply t
named s t reply given whole is same differ = record { whole = ap (λ (x : State). x.broken) same ∙ whole; silent = λ e. other_refusal given differ (sym is ∙ e) }

fine_by : (told : Bool) (s : State) (client : ℕ) (call : Call) (reply : Reply) (t : State) (first : Option Refusal) → s.broken ≡ false
    → refusal s client call ≡ first → MatchOption first (Comes told (flushed s) (answer s client call) reply t) (λ given. (reply ≡ replies.Refused given) × (t ≡ s))
    → LeavesWhole reply t
fine_by told s client call reply t None whole is comes = record {
  whole = ap (λ (x : State). x.broken) comes.1 ∙ answer_keeps s client call ∙ whole;
  silent = λ says. let F : Reply → Type 0 = λ r. Comes told (flushed s) (answer s client call) r t in
      no_refusal_read told (flushed s) (answer s client call).reply refusals.Broken (answers_it s client call is) (subst F says comes).0;
}
fine_by told s client call reply t (Some given) whole is comes =
    named s t reply given whole comes.0 comes.1 (own_silent given (own_refusal s client call given is))

damage_clash : (reply : Reply) → IsDamaged reply → happened_of reply ≡ Fine → ⊥
damage_clash (replies.Refused (refusals.Damaged container offset at)) is fine = cc fine
damage_clash _ is fine = is

fault_clash : (reply : Reply) → reply ≡ replies.Refused refusals.DiskFault → happened_of reply ≡ Fine → ⊥
fault_clash reply is fine = let told : happened_of reply ≡ Fault = ap happened_of is in cc (told, fine)

goes_by : (told : Bool) (s : State) (client : ℕ) (call : Call) (happened : Happened) (reply : Reply) (t : State) → s.broken ≡ false → happened_of reply ≡ Fine
    → Goes told s client call happened reply t → LeavesWhole reply t
goes_by told s client call Fine reply t whole fine goes = fine_by told s client call reply t (refusal s client call) whole refl goes
goes_by told s client call Fault reply t whole fine goes = absurd (fault_clash reply goes.1.1.0 fine)
goes_by told s client call Damage reply t whole fine goes = absurd (damage_clash reply goes.1.1.0 fine)

wanting : (s t : State) (reply : Reply) → s.broken ≡ false → IsOutOfMemory s reply t → LeavesWhole reply t
wanting s t reply whole want = named s t reply refusals.NoMemory whole want.0 want.1 (λ e. cc e)

pub call_whole : (told : Bool) (s : State) (client : ℕ) (call : Call) (happened : Happened) (reply : Reply) (t : State) → s.broken ≡ false → happened_of reply ≡ Fine
    → Step told s client call happened reply t → LeavesWhole reply t
call_whole told s client call happened reply t whole fine step = elim (whole_step told s client call happened reply t whole step) [
  | inl want ↦ wanting s t reply whole want.1
  | inr goes ↦ goes_by told s client call happened reply t whole fine goes
]

-- the case of a log that isn't broken
unbroken_case : (broken : Bool) (P Q : Type 0) → broken ≡ false → MatchBool broken P Q → Q
unbroken_case true P Q e is = absurd (cc e)
unbroken_case false P Q e is = is

reopens_whole : (told : Bool) (s : State) (happened : Happened) (reply : Reply) (t : State) → happened_of reply ≡ Fine → Reopens told s happened reply t → LeavesWhole reply t
reopens_whole true s Fine reply t fine is =
    record { whole = ap (λ (x : State). x.broken) is.read.1.others; silent = λ e. let wrong : replies.Refused refusals.Broken ≡ replies.Flushed (flushed t) = sym e ∙ is.flushed_part in cc wrong }
reopens_whole false s Fine reply t fine is =
    record { whole = is.read.1.1.1; silent = λ e. let wrong : replies.Refused refusals.Broken ≡ replies.Flushed (flushed t) = sym e ∙ is.flushed_part in cc wrong }
reopens_whole told s Fault reply t fine is = absurd (fault_clash reply is.0 fine)
reopens_whole told s Damage reply t fine is = absurd (damage_clash reply is.0 fine)

pub reopening_whole : (told : Bool) (s : State) (happened : Happened) (reply : Reply) (t : State) → s.broken ≡ false → happened_of reply ≡ Fine
    → ReopenStep told s happened reply t → LeavesWhole reply t
unfolding ReopenStep
reopening_whole told s happened reply t whole fine step = by_ways (unbroken_case s.broken _ _ whole step)
  where
    by_ways : (IsOutOfMemory s reply t ⊎ Reopens told s happened reply t) → LeavesWhole reply t
    by_ways (inl want) = wanting s t reply whole want
    by_ways (inr reopens) = reopens_whole told s happened reply t fine reopens

-- ---- where nothing happened, the reply tells so

fine_goes : (told : Bool) (s : State) (client : ℕ) (call : Call) (reply : Reply) (t : State) (broken : Bool) → s.broken ≡ broken → Step told s client call Fine reply t
    → happened_of reply ≡ Fine
fine_goes told s client call reply t true is step = ap happened_of (broken_step told s client call Fine reply t is step).0
fine_goes told s client call reply t false is step = elim (whole_step told s client call Fine reply t is step) [
  | inl want ↦ ap happened_of want.1.0
  | inr goes ↦ fine_told told s client call reply t (refusal s client call) (refusal_told s client call) goes
]

pub fine_reply_told : (told : Bool) (s : State) (client : ℕ) (call : Call) (reply : Reply) (t : State) → Step told s client call Fine reply t → happened_of reply ≡ Fine
fine_reply_told told s client call reply t step = fine_goes told s client call reply t s.broken refl step

-- ---- along a journal

-- each entry met nothing, and none says that the log is broken
abbrev AllFine : List Entry → Type 0
AllFine entries = AllByRecursion (λ (entry : Entry). entry.happened ≡ Fine) entries

abbrev AllSilent : List Entry → Type 0
AllSilent entries = AllByRecursion (λ (entry : Entry). entry.reply ≢ replies.Refused refusals.Broken) entries

entry_whole : (told : Bool) (s : State) (client : ℕ) (call : Call) (happened : Happened) (reply : Reply) (t : State) → s.broken ≡ false → happened ≡ Fine
    → Step told s client call happened reply t → LeavesWhole reply t
entry_whole told s client call happened reply t whole fine step =
    let F : Happened → Type 0 = λ h. Step told s client call h reply t in
    let at = subst F fine step in
    call_whole told s client call Fine reply t whole (fine_reply_told told s client call reply t at) at

goes_whole : (told : Bool) (before : List Entry) (s t : State) (entries : List Entry) → GoesOn told before s entries t → s.broken ≡ false → AllFine entries
    → (t.broken ≡ false) × AllSilent entries
goes_whole told before s t [] goes whole fine = (ap (λ (x : State). x.broken) goes ∙ whole, tt)
goes_whole told before s t (entry ∷ entries) goes whole fine =
    let first = entry_whole told s entry.client entry.call entry.happened entry.reply goes.0 whole fine.0 goes.1.0.step in
    let rest = goes_whole told (before ++ entry ∷ []) goes.0 t entries goes.1.1 first.whole fine.1 in
    (rest.0, (first.silent, rest.1))

pub journal_whole : (told : Bool) (before : List Entry) (s t : State) (entries : List Entry) → GoesOn told before s entries t → s.broken ≡ false
    → All (λ (entry : Entry). entry.happened ≡ Fine) entries
    → (t.broken ≡ false) × All (λ (entry : Entry). entry.reply ≢ replies.Refused refusals.Broken) entries
journal_whole told before s t entries goes whole fine =
    let is = goes_whole told before s t entries goes whole (recursion_from_All (λ (entry : Entry). entry.happened ≡ Fine) entries fine) in
    (is.0, All-from_recursion (λ (entry : Entry). entry.reply ≢ replies.Refused refusals.Broken) entries is.1)
