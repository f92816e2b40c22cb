-- What is on the disk stays there, in every step.
use Rattle.clfs_laws.proofs.Words.{◌≡◌, ℕ, ◌+◌, ◌≤◌, Bool, true, false, refl, ap, inl, inr, arith, List, [], ◌∷◌, ◌++◌, length, Option, Some, None, nat_lt}
use Rattle.clfs_laws.proofs.Words.{is_none, ◌==◌, option_map_or, option_and_then, cases_Bool, null_lsn, LogEntry, Policy, PolicyKind, Call, Draft, Entry}
use Rattle.clfs_laws.proofs.Words.{Refusal, Happened, Reply, State, Area, CursorKind, Records, RestartAreas, area_of, change_area, live_at, own_sum, grown}
use Rattle.clfs_laws.proofs.Words.{flushed, flush, GoesOn, IsLegal, with_policy, without_policy, next_lsn, put, need_of, spend_if, hold_sizes, seal_if}
use Rattle.clfs_laws.proofs.Words.{flush_if, plain_record, appended, newest_restart, record_cursor, restart_cursor, next_of_cursor, with_cursor_at, refusal}
use Rattle.clfs_laws.proofs.Words.{in_area, append_refusal, restart_refusal, invalid_base, read_refusal, next_refusal, too_many_cursors, refused_if, too_long}
use Rattle.clfs_laws.proofs.Words.{full, short, stream_number, Outcome, outcome, answer, found_with_cursor, read_at, read_newest_restart, moved_on}
use Rattle.clfs_laws.proofs.Words.{reserved_for, released, restart_record, rebased, restarted, advanced, archiving, flushed_to, Step, IsValid, HasSpaceLaws}
use Rattle.clfs_lsn.specs.declared.policy.Policy.TheVariants as policies
use Rattle.clfs_lsn.specs.declared.policy.PolicyKind.TheVariants as kinds
use Rattle.clfs_model.specs.declared.call.Call.TheVariants as calls
use Rattle.clfs_model.specs.declared.refusal.Refusal.TheVariants as refusals
use Rattle.clfs_model.specs.declared.reply.Reply.TheVariants as replies
use Rattle.clfs_laws.proofs.StepLeads.{step_leads}
use Rattle.clfs_laws.proofs.ValidSettings.{valid_grown, grown_is, grown_no_fewer}
use Rattle.clfs_laws.proofs.ValidPlaces.{sound_of, flushed_seal, flushed_flush}
use Rattle.clfs_laws.proofs.ValidPuts.{TakesRecord, sound_put}
use Rattle.clfs_laws.proofs.ValidAppends.{MayJoin, spent, spend_first, allowed, may_append, valid_joined, valid_seal_if}
use Rattle.clfs_laws.proofs.ValidRestarts.{may_restart, restart_joined}
use Rattle.clfs_laws.proofs.ValidRestarts.{allowed as restart_allowed}
use Rattle.clfs_laws.proofs.ValidSteps.{two_of, valid_step}

-- growth, and what areas hold, leave what is on the disk as it is
pub flushed_grown : (s : State) (need : ℕ) → flushed (grown s need) ≡ flushed s
flushed_grown s need = ap flushed (grown_is s need)

pub flushed_spend : (is_reserved : Bool) (area : Area) (n : ℕ) (s : State) → flushed (spend_if is_reserved area n s) ≡ flushed s
flushed_spend false area n s = refl
flushed_spend true area n s = refl

pub flushed_hold : (area : Area) (sizes : List ℕ) (s : State) → flushed (hold_sizes area sizes s) ≡ flushed s
flushed_hold area [] s = refl
flushed_hold area (size ∷ sizes) s = refl

-- a record that is put leaves there what was there
flushed_joined : HasSpaceLaws → (s : State) (client number : ℕ) (area : Area) (entry : LogEntry) (is_reserved : Bool) (more : ℕ) → IsValid s
    → MayJoin s client number area entry is_reserved more → flushed s ≤ flushed (spend_if is_reserved area (length entry.bytes) (put s entry))
flushed_joined space s client number area entry is_reserved more valid may =
    let n = length entry.bytes in
    let some = spent s client number area entry is_reserved more valid may in
    let v : State = spend_if is_reserved area n s in
    let has = some.1.0 in
    let takes : TakesRecord v n = record { short = has.short; room = omega (arith, has.room) } in
    let is = sound_put space v entry (sound_of v has.valid) takes has.joining in
    let after : flushed (put v entry) ≡ flushed (spend_if is_reserved area n (put s entry)) = ap flushed (spend_first is_reserved area n s entry) in
    omega (arith, flushed_spend is_reserved area n s, is.more, after)

pub rises_seal_if : (asked : Bool) (s : State) → IsValid s → flushed s ≤ flushed (seal_if asked s)
rises_seal_if true s valid = flushed_seal s (sound_of s valid)
rises_seal_if false s valid = omega arith

pub rises_flush_if : (asked : Bool) (s : State) → IsValid s → flushed s ≤ flushed (flush_if asked s)
rises_flush_if true s valid = flushed_flush s (sound_of s valid)
rises_flush_if false s valid = omega arith

rises_appended : HasSpaceLaws → (s : State) (client number : ℕ) (area : Area) (draft : Draft) (is_reserved : Bool) (sizes : List ℕ) → IsValid s → 2 ≤ s.containers
    → area_of s client number ≡ Some area → append_refusal s area draft is_reserved sizes ≡ None → flushed s ≤ flushed (appended s area draft is_reserved sizes)
rises_appended space s client number area draft is_reserved sizes valid two there none =
    let n = length draft.bytes in
    let need = need_of is_reserved n sizes in
    let u : State = grown s need in
    let valid_u : IsValid u = valid_grown space s need valid in
    let entry = plain_record area draft in
    let may = may_append s client number area draft is_reserved sizes u refl (grown_is s need) valid valid_u there (allowed s area draft is_reserved sizes none) in
    let joined = valid_joined space u client number area entry is_reserved sizes valid_u (omega (arith, two, grown_no_fewer space s need)) may refl in
    let put_rises = flushed_joined space u client number area entry is_reserved (own_sum sizes) valid_u may in
    let j : State = hold_sizes area sizes (spend_if is_reserved area n (put u entry)) in
    let held = flushed_hold area sizes (spend_if is_reserved area n (put u entry)) in
    let k : State = seal_if draft.seal j in
    let sealed_rises = rises_seal_if draft.seal j joined in
    let flush_rises = rises_flush_if draft.flush k (valid_seal_if draft.seal j joined) in
    omega (arith, flushed_grown s need, put_rises, held, sealed_rises, flush_rises)

pub flushed_rebased : (stream base : ℕ) (s : State) → flushed (rebased stream base s) ≡ flushed s
flushed_rebased stream base s = elim (cases_Bool (base == null_lsn)) [ inl none ↦ rw none refl | inr some ↦ rw some refl ]

rises_restarted : HasSpaceLaws → (s : State) (client number : ℕ) (area : Area) (bytes : List ℕ) (base : ℕ) (is_reserved : Bool) → IsValid s
    → area_of s client number ≡ Some area → restart_refusal s area bytes base is_reserved ≡ None → flushed s ≤ flushed (restarted s area bytes base is_reserved)
rises_restarted space s client number area bytes base is_reserved valid there none =
    let n = length bytes in
    let need = need_of is_reserved n [] in
    let u : State = grown s need in
    let valid_u : IsValid u = valid_grown space s need valid in
    let entry = restart_record s area bytes base in
    let may = may_restart s client number area bytes base is_reserved u refl (grown_is s need) valid valid_u there (restart_allowed s area bytes base is_reserved none) in
    let j : State = spend_if is_reserved area n (put u entry) in
    let joined = restart_joined space u client number area entry is_reserved valid_u may in
    let put_rises = flushed_joined space u client number area entry is_reserved (own_sum []) valid_u may in
    omega (arith, flushed_grown s need, put_rises, flushed_flush j joined.sound, flushed_rebased area.stream base (flush j))

-- a call in an area
rises_in : (s : State) (client number : ℕ) (refuses : Area → Option Refusal) (answers : Area → Outcome) (found : Option Area) → area_of s client number ≡ found
    → option_map_or refuses found (Some refusals.NoSuchArea) ≡ None
    → ((area : Area) → area_of s client number ≡ Some area → refuses area ≡ None → flushed s ≤ flushed (answers area).state)
    → flushed s ≤ flushed (option_map_or answers found (outcome (replies.Refused refusals.NoSuchArea) s)).state
rises_in s client number refuses answers None is none each = absurd (cc)
rises_in s client number refuses answers (Some area) is none each = each area is none

same_found : (s : State) (area : Area) (kind : CursorKind) (found : Option LogEntry) (otherwise : Refusal)
    → flushed (option_map_or (found_with_cursor s area kind) found (outcome (replies.Refused otherwise) s)).state ≡ flushed s
same_found s area kind None otherwise = refl
same_found s area kind (Some entry) otherwise = refl

same_moved_on : (s : State) (area : Area) (cursor : ℕ) (found : Option LogEntry)
    → flushed (option_map_or (λ (entry : LogEntry). outcome (replies.Next entry) (change_area (with_cursor_at cursor entry.lsn) area.client area.number s)) found
    (outcome (replies.Refused refusals.NoSuchCursor) s)).state ≡ flushed s
same_moved_on s area cursor None = refl
same_moved_on s area cursor (Some entry) = refl

same_opened : (s : State) (name : List ℕ) (found : Option ℕ)
    → flushed (option_map_or (λ number. outcome (replies.Stream number) s) found
    (outcome (replies.Stream (length s.streams + 1)) (record s { streams = s.streams ++ record { name = name; base = null_lsn } ∷ [] }))).state ≡ flushed s
same_opened s name None = refl
same_opened s name (Some number) = refl

same_archiving : (s : State) (on : Bool) → flushed (archiving s on) ≡ flushed s
same_archiving s true = refl
same_archiving s false = refl

same_installed : (s : State) (policy : Policy) → flushed (with_policy s policy) ≡ flushed s
same_installed s (policies.Maximum value) = refl
same_installed s (policies.Minimum value) = refl
same_installed s (policies.Growth value) = refl
same_installed s policies.Automatic = refl

same_removed : (s : State) (kind : PolicyKind) → flushed (without_policy s kind) ≡ flushed s
same_removed s kinds.Maximum = refl
same_removed s kinds.Minimum = refl
same_removed s kinds.Growth = refl
same_removed s kinds.Automatic = refl

rises_flushed_to : (s : State) (lsn : ℕ) → IsValid s → flushed s ≤ flushed (flushed_to s lsn)
rises_flushed_to s lsn valid = elim (cases_Bool (nat_lt lsn (flushed s))) [
  | inl there ↦ rw there (omega arith)
  | inr missing ↦ rw missing (flushed_flush s (sound_of s valid))
]

same_rises : (a b : ℕ) → b ≡ a → a ≤ b
same_rises a b same = omega (arith, same)

rises_answer : HasSpaceLaws → (s : State) (client : ℕ) (call : Call) → refusal s client call ≡ None → IsValid s → flushed s ≤ flushed (answer s client call).state
rises_answer space s client (calls.OpenStream name) none valid = same_rises (flushed s) _ (same_opened s name (stream_number s name))
rises_answer space s client (calls.CreateArea stream largest reads) none valid = omega arith
rises_answer space s client (calls.DeleteArea number) none valid = omega arith
rises_answer space s client (calls.Reserve number sizes) none valid =
    let two = two_of s (in_area s client number (λ (area : Area). too_long area.largest sizes (full s (own_sum sizes)))) none in
    rises_in s client number (λ area. too_long area.largest sizes (full s (own_sum sizes))) (λ area. reserved_for s area sizes) (area_of s client number) refl two.1
    (λ area there passes. omega (arith, flushed_grown s (own_sum sizes), flushed_hold area sizes (grown s (own_sum sizes))))
rises_answer space s client (calls.Release number sectors) none valid =
    rises_in s client number (λ area. short area sectors None) (λ area. released s area sectors) (area_of s client number) refl none (λ area there passes. omega arith)
rises_answer space s client (calls.Align number sizes) none valid = omega arith
rises_answer space s client (calls.Append number draft is_reserved sizes) none valid =
    let two = two_of s (in_area s client number (λ (area : Area). append_refusal s area draft is_reserved sizes)) none in
    rises_in s client number (λ area. append_refusal s area draft is_reserved sizes)
    (λ area. outcome (replies.Placed (next_lsn s (length draft.bytes))) (appended s area draft is_reserved sizes)) (area_of s client number) refl two.1
    (λ area there passes. rises_appended space s client number area draft is_reserved sizes valid two.0 there passes)
rises_answer space s client (calls.Flush number) none valid = flushed_flush s (sound_of s valid)
rises_answer space s client (calls.FlushTo number lsn) none valid = rises_flushed_to s lsn valid
rises_answer space s client (calls.Read number lsn mode) none valid =
    rises_in s client number (λ area. read_refusal s area lsn) (λ area. read_at s area lsn mode) (area_of s client number) refl none
    (λ area there passes. same_rises (flushed s) _ (same_found s area (Records mode) (live_at s area.stream lsn) (refusals.RecordNonexistent lsn)))
rises_answer space s client (calls.ReadNext number cursor) none valid =
    rises_in s client number (λ area. next_refusal s area (record_cursor area cursor)) (λ area. moved_on s area cursor (record_cursor area cursor)) (area_of s client number) refl none
    (λ area there passes. same_rises (flushed s) _ (same_moved_on s area cursor (option_and_then (next_of_cursor s area) (record_cursor area cursor))))
rises_answer space s client (calls.EndRead number cursor) none valid = omega arith
rises_answer space s client (calls.WriteRestart number bytes base is_reserved) none valid =
    let two = two_of s (in_area s client number (λ (area : Area). restart_refusal s area bytes base is_reserved)) none in
    rises_in s client number (λ area. restart_refusal s area bytes base is_reserved)
    (λ area. outcome (replies.Placed (next_lsn s (length bytes))) (restarted s area bytes base is_reserved)) (area_of s client number) refl two.1
    (λ area there passes. rises_restarted space s client number area bytes base is_reserved valid there passes)
rises_answer space s client (calls.ReadRestart number) none valid =
    rises_in s client number (λ area. refused_if (is_none (newest_restart s area.stream)) refusals.NoRestart (too_many_cursors area)) (λ area. read_newest_restart s area)
    (area_of s client number) refl none
    (λ area there passes. same_rises (flushed s) _ (same_found s area RestartAreas (newest_restart s area.stream) refusals.NoRestart))
rises_answer space s client (calls.PreviousRestart number cursor) none valid =
    rises_in s client number (λ area. next_refusal s area (restart_cursor area cursor)) (λ area. moved_on s area cursor (restart_cursor area cursor)) (area_of s client number) refl none
    (λ area there passes. same_rises (flushed s) _ (same_moved_on s area cursor (option_and_then (next_of_cursor s area) (restart_cursor area cursor))))
rises_answer space s client (calls.Advance number lsn) none valid =
    rises_in s client number (λ area. invalid_base s area.stream lsn None) (λ area. outcome (replies.Base lsn) (advanced s area.stream lsn)) (area_of s client number) refl none
    (λ area there passes. flushed_flush s (sound_of s valid))
rises_answer space s client (calls.SetArchive on) none valid = same_rises (flushed s) _ (same_archiving s on)
rises_answer space s client (calls.SetArchiveTail lsn) none valid = omega arith
rises_answer space s client calls.ListExtents none valid = omega arith
rises_answer space s client (calls.InstallPolicy policy) none valid = same_rises (flushed s) _ (same_installed s policy)
rises_answer space s client (calls.RemovePolicy kind) none valid = same_rises (flushed s) _ (same_removed s kind)
rises_answer space s client (calls.SetSize containers) none valid = omega arith
rises_answer space s client (calls.Info stream) none valid = omega arith

-- in every step
pub flushed_rises : HasSpaceLaws → (told : Bool) (s : State) (client : ℕ) (call : Call) (happened : Happened) (reply : Reply) (t : State)
    → IsValid s → Step told s client call happened reply t → flushed s ≤ flushed t
flushed_rises space told s client call happened reply t valid step =
    let P : State → Type 0 = λ x. flushed s ≤ flushed x in
    step_leads P told s client call happened reply t step
    (record { same = omega arith; broken = omega arith; answered = λ none. rises_answer space s client call none valid })

pub rises_through : HasSpaceLaws → (told : Bool) (before : List Entry) (s t : State) (entries : List Entry) → GoesOn told before s entries t → IsValid s → flushed s ≤ flushed t
rises_through space told before s t [] goes valid = same_rises (flushed s) (flushed t) (ap flushed goes)
rises_through space told before s t (entry ∷ entries) goes valid =
    let step = goes.1.0.step in
    let mid : State = goes.0 in
    let valid_mid = valid_step space told s entry.client entry.call entry.happened entry.reply mid valid step in
    let first = flushed_rises space told s entry.client entry.call entry.happened entry.reply mid valid step in
    let rest = rises_through space told (before ++ entry ∷ []) mid t entries goes.1.1 valid_mid in
    omega (arith, first, rest)

-- along a legal journal
pub journal_rises : HasSpaceLaws → (told : Bool) (s t : State) (journal : List Entry) → IsLegal told journal s t → IsValid s → flushed s ≤ flushed t
journal_rises space told s t journal legal valid = rises_through space told [] s t journal legal valid
