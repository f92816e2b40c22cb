-- The hold never falls: no step needs again what the log didn't need before it.
use Rattle.clfs_laws.proofs.Words.{◌≡◌, ℕ, ◌-◌, ◌≤◌, Bool, true, false, refl, sym, ap, ◌∙◌, subst, inl, inr, arith, List, [], ◌∷◌, ◌++◌, length, Option, Some}
use Rattle.clfs_laws.proofs.Words.{None, IsSome, nat_lt, not, ◌||◌, ◌==◌, AllByRecursion, option_map_or, option_to_list, cases_Bool, ltb-false, All-weaker}
use Rattle.clfs_laws.proofs.Words.{recursion_from_All, null_lsn, frontier, joins, begins_here, LogEntry, Policy, PolicyKind, Call, Draft, Refusal, Happened}
use Rattle.clfs_laws.proofs.Words.{Reply, State, Area, Stream, Cursor, stream_at, base_of, area_of, set_base, is_live, hold, last_live, live_at, grown, seal}
use Rattle.clfs_laws.proofs.Words.{flush, flushed, cut, next_lsn, put, need_of, spend_if, hold_sizes, seal_if, flush_if, plain_record, appended, with_policy}
use Rattle.clfs_laws.proofs.Words.{without_policy, newest_restart, record_cursor, restart_cursor, refusal, in_area, refused_if, restart_refusal, is_base}
use Rattle.clfs_laws.proofs.Words.{invalid_base, stream_number, Outcome, outcome, answer, over_area, moved_on, restart_record, restarted, rebased, archiving}
use Rattle.clfs_laws.proofs.Words.{advanced, flushed_to, Step, with_broken, IsValid, IsRecord, HasSpaceLaws}
use Rattle.clfs_lsn.specs.declared.policy.Policy.TheVariants as policies
use Rattle.clfs_lsn.specs.declared.policy.PolicyKind.TheVariants as kinds
use Rattle.clfs_model.specs.declared.call.Call.TheVariants as calls
use Rattle.clfs_model.specs.declared.refusal.Refusal.TheVariants as refusals
use Rattle.clfs_model.specs.declared.reply.Reply.TheVariants as replies
use Rattle.clfs_laws.proofs.HoldOrder.{hold_later, hold_below_archive, hold_below_live, hold_below_frontier}
use Rattle.clfs_laws.proofs.Links.{next_above}
use Rattle.clfs_laws.proofs.NotRefused.{passed}
use Rattle.clfs_laws.proofs.OutcomeCases.{of_option, of_area, of_cursor}
use Rattle.clfs_laws.proofs.RecordsOfCalls.{Adds, step_adds}
use Rattle.clfs_laws.proofs.StepLeads.{step_leads}
use Rattle.clfs_laws.proofs.FlushedRises.{flushed_rises}
use Rattle.clfs_laws.proofs.ValidAreaCalls.{its_area}
use Rattle.clfs_laws.proofs.ValidAppends.{true_of_not}
use Rattle.clfs_laws.proofs.ValidBases.{live_still, set_higher, higher_of, based_at, base_between}
use Rattle.clfs_laws.proofs.ValidCuts.{flushed_block, kept_live}
use Rattle.clfs_laws.proofs.ValidPlaces.{sound_of, flushed_below}
use Rattle.clfs_laws.proofs.ValidPuts.{put_by}
use Rattle.clfs_laws.proofs.ValidRestarts.{allowed}
use Rattle.clfs_laws.proofs.ValidSettings.{grown_is}
use Rattle.clfs_laws.proofs.ValidSteps.{two_of, valid_step}
use Rattle.clfs_laws.proofs.ValidStreams.{hold_flushed, stream_more}

-- t's bases are at or above those of s, and its archive tail at or above the hold of s
pub record KeepsNeeds (s t : State) : Type 0 where
  pub bases : (number : ℕ) → IsSome (stream_at s number) → base_of s number ≤ base_of t number
  pub tail : AllByRecursion (λ lsn. hold s ≤ lsn) (option_to_list t.archive)

-- what holds of the elements of two lists holds of those of both joined
all_joined : {A : Type 0} (P : A → Type 0) (xs ys : List A) → AllByRecursion P xs → AllByRecursion P ys → AllByRecursion P (xs ++ ys)
all_joined P [] ys first second = second
all_joined P (x ∷ xs) ys first second = (first.0, all_joined P xs ys first.1 second)

-- new records lie at or above the hold
new_above : (s t : State) (more : List LogEntry) → IsValid s → AllByRecursion (λ (entry : LogEntry). (n : ℕ) × (entry.lsn ≡ next_lsn s n)) more
    → AllByRecursion (λ (entry : LogEntry). is_live t entry ≡ true → hold s ≤ entry.lsn) more
new_above s t [] valid all = tt
new_above s t (entry ∷ more) valid all = (
  λ _.
      let at = all.0 in
      let sound = sound_of s valid in
      let above = next_above s at.0 sound in
      let below = hold_below_frontier s sound in
      omega (arith, above, below, at.1),
  new_above s t more valid all.1,
)

-- so the hold doesn't fall where records are only added and needs are kept
hold_kept : (s t : State) → IsValid s → IsValid t → flushed s ≤ flushed t → Adds s t → KeepsNeeds s t → hold s ≤ hold t
hold_kept s t valid valid_t rises adds keeps =
    let P : LogEntry → Type 0 = λ entry. is_live t entry ≡ true → hold s ≤ entry.lsn in
    let there = recursion_from_All (λ (entry : LogEntry). IsSome (stream_at s entry.stream)) s.records
    (All-weaker (IsRecord s) (λ (entry : LogEntry). IsSome (stream_at s entry.stream)) (λ entry is. is.stream) s.records valid.records.records) in
    let old = live_still s t s.records keeps.bases there (hold_below_live s) in
    let all = all_joined P s.records adds.more old (new_above s t adds.more valid adds.placed) in
    let held = hold_flushed s valid in
    let below = flushed_below t valid_t.waiting in
    hold_later (hold s) t (omega (arith, held, rises, below)) keeps.tail (subst (AllByRecursion P) (sym adds.joined) all)

-- what a log needs by its streams and its archive tail
abbrev needs_of : State → List Stream × Option ℕ
needs_of s = (s.streams, s.archive)

-- needs that stay as they are
still : (s t : State) → needs_of t ≡ needs_of s → KeepsNeeds s t
still s t same =
    let F : List Stream × Option ℕ → Type 0 = λ needs. AllByRecursion (λ lsn. hold s ≤ lsn) (option_to_list needs.1) in
    let G : List Stream × Option ℕ → Type 0 = λ needs. (number : ℕ) → IsSome (stream_at s number)
    → base_of s number ≤ base_of (record s { streams = needs.0 }) number in
    let kept : (number : ℕ) → IsSome (stream_at s number) → base_of s number ≤ base_of s number = λ number some. omega arith in
    record { bases = subst G (sym same) kept; tail = subst F (sym same) (hold_below_archive s) }

-- sealing, flushing, growing, putting a record and changes of areas leave the needs as they are
seal_needs : (s : State) → needs_of (seal s) ≡ needs_of s
seal_needs s = elim (cases_Bool (nat_lt 0 s.place.records)) [ inl some ↦ rw some refl | inr none ↦ rw none refl ]

seal_if_needs : (asked : Bool) (s : State) → needs_of (seal_if asked s) ≡ needs_of s
seal_if_needs true s = seal_needs s
seal_if_needs false s = refl

flush_if_needs : (asked : Bool) (s : State) → needs_of (flush_if asked s) ≡ needs_of s
flush_if_needs true s = seal_needs s
flush_if_needs false s = refl

flushed_to_needs : (s : State) (lsn : ℕ) → needs_of (flushed_to s lsn) ≡ needs_of s
flushed_to_needs s lsn = elim (cases_Bool (nat_lt lsn (flushed s))) [ inl below ↦ rw below refl | inr above ↦ rw above (seal_needs s) ]

grown_needs : (s : State) (need : ℕ) → needs_of (grown s need) ≡ needs_of s
grown_needs s need = ap needs_of (grown_is s need)

spend_needs : (area : Area) (is_reserved : Bool) (n : ℕ) (sizes : List ℕ) (s : State)
    → needs_of (hold_sizes area sizes (spend_if is_reserved area n s)) ≡ needs_of s
spend_needs area false n [] s = refl
spend_needs area true n [] s = refl
spend_needs area false n (size ∷ sizes) s = refl
spend_needs area true n (size ∷ sizes) s = refl

put_by_needs : (joining beginning : Bool) (s : State) (entry : LogEntry) → needs_of (put_by joining beginning s entry) ≡ needs_of s
put_by_needs true beginning s entry = refl
put_by_needs false true s entry = seal_needs s
put_by_needs false false s entry = seal_needs s

put_needs : (s : State) (entry : LogEntry) → needs_of (put s entry) ≡ needs_of s
put_needs s entry = put_by_needs (joins s.shape s.place (length entry.bytes)) (begins_here s.shape s.place (length entry.bytes)) s entry

-- so an append does
appended_needs : (s : State) (area : Area) (draft : Draft) (is_reserved : Bool) (sizes : List ℕ)
    → needs_of (appended s area draft is_reserved sizes) ≡ needs_of s
appended_needs s area draft is_reserved sizes =
    let n = length draft.bytes in
    let need = need_of is_reserved n sizes in
    let joined = put (grown s need) (plain_record area draft) in
    let held = hold_sizes area sizes (spend_if is_reserved area n joined) in
    flush_if_needs draft.flush (seal_if draft.seal held) ∙ seal_if_needs draft.seal held ∙ spend_needs area is_reserved n sizes joined
    ∙ put_needs (grown s need) (plain_record area draft) ∙ grown_needs s need

-- and so do policies
policy_needs : (s : State) (policy : Policy) → needs_of (with_policy s policy) ≡ needs_of s
policy_needs s (policies.Maximum value) = refl
policy_needs s (policies.Minimum value) = refl
policy_needs s (policies.Growth value) = refl
policy_needs s policies.Automatic = refl

no_policy_needs : (s : State) (kind : PolicyKind) → needs_of (without_policy s kind) ≡ needs_of s
no_policy_needs s kinds.Maximum = refl
no_policy_needs s kinds.Minimum = refl
no_policy_needs s kinds.Growth = refl
no_policy_needs s kinds.Automatic = refl

-- a base that moves forward
moved_base : (s t : State) (stream lsn : ℕ) → IsSome (stream_at s stream) → base_of s stream ≤ lsn
    → needs_of t ≡ (set_base stream lsn s.streams, s.archive) → KeepsNeeds s t
moved_base s t stream lsn some rises same =
    let v : State = record s { streams = set_base stream lsn s.streams } in
    let at = based_at s stream some in
    let F : List Stream × Option ℕ → Type 0 = λ needs. AllByRecursion (λ m. hold s ≤ m) (option_to_list needs.1) in
    let G : List Stream × Option ℕ → Type 0 = λ needs. (number : ℕ) → IsSome (stream_at s number)
    → base_of s number ≤ base_of (record s { streams = needs.0 }) number in
    let kept : (number : ℕ) → IsSome (stream_at s number) → base_of s number ≤ base_of v number =
    λ number _. higher_of s v number (set_higher stream lsn s.streams (number - 1) at.0 (omega (arith, rises, at.1))) in
    record { bases = subst G (sym same) kept; tail = subst F (sym same) (hold_below_archive s) }

-- a base that a call gives
given_base : (s t : State) (client number lsn : ℕ) (area : Area) → IsValid s → area_of s client number ≡ Some area → is_base s area.stream lsn ≡ true
    → needs_of t ≡ (set_base area.stream lsn s.streams, s.archive) → KeepsNeeds s t
given_base s t client number lsn area valid there allowed_base same =
    let between = base_between s area.stream lsn (sound_of s valid) allowed_base in
    moved_base s t area.stream lsn (its_area s client number area there valid).stream between.above same

-- a base that a restart area carries, where it carries one
rebased_keeps : (s t : State) (client number base : ℕ) (area : Area) (none : Bool) → (base == null_lsn) ≡ none → IsValid s
    → area_of s client number ≡ Some area
    → ((base == null_lsn) ≡ false → is_base s area.stream base ≡ true) → needs_of t ≡ needs_of s → KeepsNeeds s (rebased area.stream base t)
rebased_keeps s t client number base area true is valid there based same = rw is (still s t same)
rebased_keeps s t client number base area false is valid there based same =
    rw is (given_base s (record t { streams = set_base area.stream base t.streams }) client number base area valid there (based is)
    (ap (λ (needs : List Stream × Option ℕ). (set_base area.stream base needs.0, needs.1)) same))

restarted_keeps : (s : State) (client number : ℕ) (area : Area) (bytes : List ℕ) (base : ℕ) (is_reserved : Bool) → IsValid s
    → area_of s client number ≡ Some area
    → restart_refusal s area bytes base is_reserved ≡ None → KeepsNeeds s (restarted s area bytes base is_reserved)
restarted_keeps s client number area bytes base is_reserved valid there none =
    let n = length bytes in
    let need = need_of is_reserved n [] in
    let joined = put (grown s need) (restart_record s area bytes base) in
    let spent = spend_if is_reserved area n joined in
    let same : needs_of (flush spent) ≡ needs_of s =
    seal_needs spent ∙ spend_needs area is_reserved n [] joined ∙ put_needs (grown s need) (restart_record s area bytes base) ∙ grown_needs s need in
    rebased_keeps s (flush spent) client number base area (base == null_lsn) refl valid there (allowed s area bytes base is_reserved none).based same

advanced_keeps : (s : State) (client number lsn : ℕ) (area : Area) → IsValid s → area_of s client number ≡ Some area
    → invalid_base s area.stream lsn None ≡ None
    → KeepsNeeds s (advanced s area.stream lsn)
advanced_keeps s client number lsn area valid there none =
    let test = not (is_base s area.stream lsn) in
    let based = true_of_not _ (passed test (refusals.TailInvalid lsn (base_of s area.stream) (last_live s area.stream)) None none).0 in
    given_base s (advanced s area.stream lsn) client number lsn area valid there based
    (ap (λ (needs : List Stream × Option ℕ). (set_base area.stream lsn needs.0, needs.1)) (seal_needs s))

-- archiving begins at the hold, or stays where it is
archiving_by : (s : State) (archive : Option ℕ) → s.archive ≡ archive
    → KeepsNeeds s (record s { archive = Some (option_map_or (λ tail. tail) archive (hold s)) })
archiving_by s None is = record { bases = λ number some. omega arith; tail = (omega arith, tt) }
archiving_by s (Some tail) is =
    let F : Option ℕ → Type 0 = λ found. AllByRecursion (λ lsn. hold s ≤ lsn) (option_to_list found) in
    record { bases = λ number some. omega arith; tail = subst F is (hold_below_archive s) }

-- archiving that is turned on or off
archiving_keeps : (s : State) (on : Bool) → KeepsNeeds s (archiving s on)
archiving_keeps s true = archiving_by s s.archive refl
archiving_keeps s false = record { bases = λ number some. omega arith; tail = tt }

neither : (a b : Bool) → (a || b) ≡ false → (a ≡ false) × (b ≡ false)
neither true b fails = absurd (cc)
neither false b fails = (refl, fails)

-- a tail isn't moved down
tail_by : (s : State) (lsn : ℕ) (archive : Option ℕ) → s.archive ≡ archive
    → option_map_or (λ tail. refused_if (nat_lt lsn tail || nat_lt (flushed s) lsn) (refusals.ArchiveTailInvalid lsn tail (flushed s)) None)
    archive (Some refusals.Ephemeral) ≡ None
    → KeepsNeeds s (record s { archive = Some lsn })
tail_by s lsn None is none = absurd (cc)
tail_by s lsn (Some tail) is none =
    let fits = neither _ _ (passed (nat_lt lsn tail || nat_lt (flushed s) lsn) (refusals.ArchiveTailInvalid lsn tail (flushed s)) None none).0 in
    let from : tail ≤ lsn = ltb-false lsn tail fits.0 in
    let F : Option ℕ → Type 0 = λ found. AllByRecursion (λ m. hold s ≤ m) (option_to_list found) in
    let below = (subst F is (hold_below_archive s)).0 in
    record { bases = λ number some. omega arith; tail = (omega (arith, below, from), tt) }

-- a stream that is opened
opened_keeps : (s : State) (new : Stream) → KeepsNeeds s (record s { streams = s.streams ++ new ∷ [] })
opened_keeps s new = record {
  bases = λ number some.
      let same : base_of (record s { streams = s.streams ++ new ∷ [] }) number ≡ base_of s number =
      ap (λ (found : Option Stream). option_map_or (λ (stream : Stream). stream.base) found null_lsn) (stream_more s new number some) in
      omega (arith, same);
  tail = hold_below_archive s;
}

-- an outcome that keeps the needs of a state
abbrev Keeps : State → Outcome → Type 0
Keeps s o = KeepsNeeds s o.state

over : (s : State) (client number : ℕ) (f : Area → Outcome) → ((area : Area) → Keeps s (f area)) → Keeps s (over_area s client number f)
over s client number f each = of_area (Keeps s) s client number f each (still s s refl)

moved : (s : State) (area : Area) (number : ℕ) (found : Option Cursor) → Keeps s (moved_on s area number found)
moved s area number found = of_cursor (Keeps s) s area number found (λ (entry : LogEntry). still s _ refl) (still s s refl)

-- a call in an area that isn't refused
keeps_in : (s : State) (client number : ℕ) (refuses : Area → Option Refusal) (answers : Area → Outcome) (found : Option Area)
    → area_of s client number ≡ found
    → option_map_or refuses found (Some refusals.NoSuchArea) ≡ None
    → ((area : Area) → area_of s client number ≡ Some area → refuses area ≡ None → Keeps s (answers area))
    → Keeps s (option_map_or answers found (outcome (replies.Refused refusals.NoSuchArea) s))
keeps_in s client number refuses answers None is none each = absurd (cc)
keeps_in s client number refuses answers (Some area) is none each = each area is none

-- whatever the call
answer_keeps_needs : (s : State) (client : ℕ) (call : Call) → refusal s client call ≡ None → IsValid s → KeepsNeeds s (answer s client call).state
answer_keeps_needs s client (calls.OpenStream name) none valid = of_option (Keeps s) (stream_number s name) _ _ (λ (number : ℕ). still s s refl)
    (opened_keeps s (record { name = name; base = null_lsn }))
answer_keeps_needs s client (calls.CreateArea stream largest reads) none valid = still s _ refl
answer_keeps_needs s client (calls.DeleteArea number) none valid = still s _ refl
answer_keeps_needs s client (calls.Reserve number sizes) none valid = over s client number _ (λ (area : Area).
    still s _ (spend_needs area false 0 sizes (grown s _) ∙ grown_needs s _))
answer_keeps_needs s client (calls.Release number sectors) none valid = over s client number _ (λ (area : Area). still s _ refl)
answer_keeps_needs s client (calls.Align number sizes) none valid = still s s refl
answer_keeps_needs s client (calls.Append number draft is_reserved sizes) none valid = over s client number _ (λ (area : Area).
    still s _ (appended_needs s area draft is_reserved sizes))
answer_keeps_needs s client (calls.Flush number) none valid = still s _ (seal_needs s)
answer_keeps_needs s client (calls.FlushTo number lsn) none valid = still s _ (flushed_to_needs s lsn)
answer_keeps_needs s client (calls.Read number lsn mode) none valid = over s client number _ (λ (area : Area).
    of_option (Keeps s) (live_at s area.stream lsn) _ _ (λ (entry : LogEntry). still s _ refl) (still s s refl))
answer_keeps_needs s client (calls.ReadNext number cursor) none valid =
    over s client number _ (λ (area : Area). moved s area cursor (record_cursor area cursor))
answer_keeps_needs s client (calls.EndRead number cursor) none valid = still s _ refl
answer_keeps_needs s client (calls.WriteRestart number bytes base is_reserved) none valid =
    let two = two_of s (in_area s client number (λ (area : Area). restart_refusal s area bytes base is_reserved)) none in
    keeps_in s client number (λ area. restart_refusal s area bytes base is_reserved)
    (λ area. outcome (replies.Placed (next_lsn s (length bytes))) (restarted s area bytes base is_reserved)) (area_of s client number) refl two.1
    (λ area there passes. restarted_keeps s client number area bytes base is_reserved valid there passes)
answer_keeps_needs s client (calls.ReadRestart number) none valid = over s client number _ (λ (area : Area).
    of_option (Keeps s) (newest_restart s area.stream) _ _ (λ (entry : LogEntry). still s _ refl) (still s s refl))
answer_keeps_needs s client (calls.PreviousRestart number cursor) none valid =
    over s client number _ (λ (area : Area). moved s area cursor (restart_cursor area cursor))
answer_keeps_needs s client (calls.Advance number lsn) none valid =
    keeps_in s client number (λ area. invalid_base s area.stream lsn None) (λ area. outcome (replies.Base lsn) (advanced s area.stream lsn))
    (area_of s client number) refl none (λ area there passes. advanced_keeps s client number lsn area valid there passes)
answer_keeps_needs s client (calls.SetArchive on) none valid = archiving_keeps s on
answer_keeps_needs s client (calls.SetArchiveTail lsn) none valid = tail_by s lsn s.archive refl none
answer_keeps_needs s client calls.ListExtents none valid = still s s refl
answer_keeps_needs s client (calls.InstallPolicy policy) none valid = still s _ (policy_needs s policy)
answer_keeps_needs s client (calls.RemovePolicy kind) none valid = still s _ (no_policy_needs s kind)
answer_keeps_needs s client (calls.SetSize containers) none valid = still s _ refl
answer_keeps_needs s client (calls.Info stream) none valid = still s s refl

-- in every step
pub hold_rises : HasSpaceLaws → (told : Bool) (s : State) (client : ℕ) (call : Call) (happened : Happened) (reply : Reply) (t : State)
    → IsValid s → Step told s client call happened reply t → hold s ≤ hold t
hold_rises space told s client call happened reply t valid step =
    let keeps = step_leads (KeepsNeeds s) told s client call happened reply t step (record {
      same = still s s refl;
      broken = still s (with_broken s) refl;
      answered = λ none. answer_keeps_needs s client call none valid;
    }) in
    hold_kept s t valid (valid_step space told s client call happened reply t valid step) (flushed_rises space told s client call happened reply t valid step)
    (step_adds told s client call happened reply t step) keeps

-- the flushed part of a log needs nothing that the log didn't
pub hold_cut : (s : State) → IsValid s → hold s ≤ hold (cut s)
hold_cut s valid =
    let f : ℕ = flushed s in
    let at : frontier (cut s).place ≡ f = omega (arith, (flushed_block s valid).sequence) in
    let held = hold_flushed s valid in
    hold_later (hold s) (cut s) (omega (arith, held, at)) (hold_below_archive s)
    (kept_live s (λ (entry : LogEntry). nat_lt entry.lsn f) s.records (hold_below_live s))
