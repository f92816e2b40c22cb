-- Every step keeps a state valid.
use Rattle.clfs_laws.proofs.Words.{◌≡◌, ℕ, ◌≤◌, Bool, true, refl, subst, inl, inr, List, length, Option, Some, None, nat_lt, not, is_none, option_map_or}
use Rattle.clfs_laws.proofs.Words.{option_and_then, cases_Bool, ltb-false, LogEntry, Call, Refusal, Happened, Reply, State, Area, CursorKind, Records}
use Rattle.clfs_laws.proofs.Words.{RestartAreas, area_of, is_area, change_area, live_at, own_sum, free, reserved, grown, has_room, flushed, next_lsn}
use Rattle.clfs_laws.proofs.Words.{appended, newest_restart, record_cursor, restart_cursor, next_of_cursor, with_cursor, with_cursor_at, without_cursor}
use Rattle.clfs_laws.proofs.Words.{cursor_of, unused_cursor, refusal, in_area, unless_two_containers, too_long, full, short, append_refusal, restart_refusal}
use Rattle.clfs_laws.proofs.Words.{invalid_base, read_refusal, next_refusal, too_many_cursors, refused_if, Outcome, outcome, answer, found_with_cursor}
use Rattle.clfs_laws.proofs.Words.{read_at, read_newest_restart, moved_on, reserved_for, released, advanced, restarted, flushed_to, Step, IsValid, HasSpaceLaws}
use Rattle.clfs_model.specs.declared.call.Call.TheVariants as calls
use Rattle.clfs_model.specs.declared.refusal.Refusal.TheVariants as refusals
use Rattle.clfs_model.specs.declared.reply.Reply.TheVariants as replies
use Rattle.clfs_laws.proofs.NotRefused.{passed, passed_long}
use Rattle.clfs_laws.proofs.RowChanges.{area_named}
use Rattle.clfs_laws.proofs.StepLeads.{step_leads}
use Rattle.clfs_laws.proofs.ValidAreas.{valid_broken}
use Rattle.clfs_laws.proofs.ValidSettings.{valid_installed, valid_removed, valid_sized}
use Rattle.clfs_laws.proofs.ValidAreaCalls.{area_with_cursor, area_with_cursor_at, area_without_cursor, its_area, keeps_name, valid_created, valid_deleted}
use Rattle.clfs_laws.proofs.ValidAreaCalls.{valid_released, valid_reserved, valid_cursor}
use Rattle.clfs_laws.proofs.ValidPlaces.{sound_of, valid_flush}
use Rattle.clfs_laws.proofs.ValidAppends.{true_of_not, valid_appended}
use Rattle.clfs_laws.proofs.ValidStreams.{valid_opened, valid_archiving, valid_tail, valid_advanced}
use Rattle.clfs_laws.proofs.ValidRestarts.{valid_restarted}

-- a call in an area that isn't refused leaves a valid state where it does so in each area that is there
valid_in : (s : State) (client number : ℕ) (refuses : Area → Option Refusal) (answers : Area → Outcome) (found : Option Area) → area_of s client number ≡ found
    → option_map_or refuses found (Some refusals.NoSuchArea) ≡ None
    → ((area : Area) → area_of s client number ≡ Some area → refuses area ≡ None → IsValid (answers area).state)
    → IsValid (option_map_or answers found (outcome (replies.Refused refusals.NoSuchArea) s)).state
valid_in s client number refuses answers None is none each = absurd (cc)
valid_in s client number refuses answers (Some area) is none each = each area is none

-- a call that needs two containers
pub two_of : (s : State) (others : Option Refusal) → unless_two_containers s others ≡ None → (2 ≤ s.containers) × (others ≡ None)
two_of s others none =
    let both = passed (nat_lt s.containers 2) (refusals.NotEnoughContainers s.containers) others none in
    (ltb-false s.containers 2 both.0, both.1)

-- reading leaves a valid state
valid_found : (s : State) (client number : ℕ) (area : Area) (kind : CursorKind) (found : Option LogEntry) (otherwise : Refusal) → area_of s client number ≡ Some area → IsValid s
    → IsValid (option_map_or (found_with_cursor s area kind) found (outcome (replies.Refused otherwise) s)).state
valid_found s client number area kind None otherwise there valid = valid
valid_found s client number area kind (Some entry) otherwise there valid =
    let change : Area → Area = with_cursor (record { number = unused_cursor area.cursors; kind = kind; last = entry.lsn }) in
    valid_cursor s client number area change there (keeps_name change (λ a. refl) (λ a. refl)) (area_with_cursor s kind entry.lsn area) refl valid

valid_moved_on : (s : State) (client number cursor : ℕ) (area : Area) (found : Option LogEntry) → area_of s client number ≡ Some area → IsValid s
    → IsValid (option_map_or (λ (entry : LogEntry). outcome (replies.Next entry) (change_area (with_cursor_at cursor entry.lsn) area.client area.number s)) found
    (outcome (replies.Refused refusals.NoSuchCursor) s)).state
valid_moved_on s client number cursor area None there valid = valid
valid_moved_on s client number cursor area (Some entry) there valid =
    let change : Area → Area = with_cursor_at cursor entry.lsn in
    valid_cursor s client number area change there (keeps_name change (λ a. refl) (λ a. refl)) (area_with_cursor_at s cursor entry.lsn area) refl valid

-- a cursor that ends
valid_ended : (s : State) (client number cursor : ℕ) (refuses : Area → Option Refusal) (found : Option Area) → area_of s client number ≡ found
    → option_map_or refuses found (Some refusals.NoSuchArea) ≡ None → IsValid s → IsValid (change_area (without_cursor cursor) client number s)
valid_ended s client number cursor refuses None is none valid = absurd (cc)
valid_ended s client number cursor refuses (Some area) is none valid =
    let change : Area → Area = without_cursor cursor in
    let name = area_named client number s.areas area is in
    let named : IsValid (change_area change area.client area.number s) =
    valid_cursor s client number area change is (keeps_name change (λ a. refl) (λ a. refl)) (area_without_cursor s cursor area) refl valid in
    let F : ℕ → Type 0 = λ c. IsValid (change_area change c area.number s) in
    let G : ℕ → Type 0 = λ n. IsValid (change_area change client n s) in
    subst G name.1 (subst F name.0 named)

valid_flushed_to : (s : State) (lsn : ℕ) → IsValid s → IsValid (flushed_to s lsn)
valid_flushed_to s lsn valid = elim (cases_Bool (nat_lt lsn (flushed s))) [
  | inl there ↦ rw there valid
  | inr missing ↦ rw missing (valid_flush s (sound_of s valid))
]

-- sectors that are reserved, where that isn't refused
valid_reserving : HasSpaceLaws → (s : State) (client number : ℕ) (sizes : List ℕ) (area : Area) → 2 ≤ s.containers → area_of s client number ≡ Some area
    → too_long area.largest sizes (full s (own_sum sizes)) ≡ None → IsValid s → IsValid (reserved_for s area sizes).state
valid_reserving space s client number sizes area two there none valid =
    let need = own_sum sizes in
    let room = passed (not (has_room s need)) (refusals.Full (free (grown s need)) (reserved (grown s need)) need) None (passed_long area.largest sizes (full s need) none) in
    valid_reserved space s client number sizes area there (true_of_not _ room.0) two valid

-- what a call that isn't refused leaves
pub valid_answer : HasSpaceLaws → (s : State) (client : ℕ) (call : Call) → refusal s client call ≡ None → IsValid s → IsValid (answer s client call).state
valid_answer space s client (calls.OpenStream name) none valid = valid_opened s name none valid
valid_answer space s client (calls.CreateArea stream largest reads) none valid = valid_created s client stream largest reads none valid
valid_answer space s client (calls.DeleteArea number) none valid = valid_deleted s (is_area client number) valid
valid_answer space s client (calls.Reserve number sizes) none valid =
    let two = two_of s (in_area s client number (λ (area : Area). too_long area.largest sizes (full s (own_sum sizes)))) none in
    valid_in s client number (λ area. too_long area.largest sizes (full s (own_sum sizes))) (λ area. reserved_for s area sizes) (area_of s client number) refl two.1
    (λ area there passes. valid_reserving space s client number sizes area two.0 there passes valid)
valid_answer space s client (calls.Release number sectors) none valid =
    valid_in s client number (λ area. short area sectors None) (λ area. released s area sectors) (area_of s client number) refl none
    (λ area there passes. valid_released s client number sectors area there valid)
valid_answer space s client (calls.Align number sizes) none valid = valid
valid_answer space s client (calls.Append number draft is_reserved sizes) none valid =
    let two = two_of s (in_area s client number (λ (area : Area). append_refusal s area draft is_reserved sizes)) none in
    valid_in s client number (λ area. append_refusal s area draft is_reserved sizes)
    (λ area. outcome (replies.Placed (next_lsn s (length draft.bytes))) (appended s area draft is_reserved sizes)) (area_of s client number) refl two.1
    (λ area there passes. valid_appended space s client number area draft is_reserved sizes valid two.0 there passes)
valid_answer space s client (calls.Flush number) none valid = valid_flush s (sound_of s valid)
valid_answer space s client (calls.FlushTo number lsn) none valid = valid_flushed_to s lsn valid
valid_answer space s client (calls.Read number lsn mode) none valid =
    valid_in s client number (λ area. read_refusal s area lsn) (λ area. read_at s area lsn mode) (area_of s client number) refl none
    (λ area there passes. valid_found s client number area (Records mode) (live_at s area.stream lsn) (refusals.RecordNonexistent lsn) there valid)
valid_answer space s client (calls.ReadNext number cursor) none valid =
    valid_in s client number (λ area. next_refusal s area (record_cursor area cursor)) (λ area. moved_on s area cursor (record_cursor area cursor)) (area_of s client number) refl none
    (λ area there passes. valid_moved_on s client number cursor area (option_and_then (next_of_cursor s area) (record_cursor area cursor)) there valid)
valid_answer space s client (calls.EndRead number cursor) none valid =
    valid_ended s client number cursor (λ area. refused_if (is_none (cursor_of area cursor)) refusals.NoSuchCursor None) (area_of s client number) refl none valid
valid_answer space s client (calls.WriteRestart number bytes base is_reserved) none valid =
    let two = two_of s (in_area s client number (λ (area : Area). restart_refusal s area bytes base is_reserved)) none in
    valid_in s client number (λ area. restart_refusal s area bytes base is_reserved)
    (λ area. outcome (replies.Placed (next_lsn s (length bytes))) (restarted s area bytes base is_reserved)) (area_of s client number) refl two.1
    (λ area there passes. valid_restarted space s client number area bytes base is_reserved valid there passes)
valid_answer space s client (calls.ReadRestart number) none valid =
    valid_in s client number (λ area. refused_if (is_none (newest_restart s area.stream)) refusals.NoRestart (too_many_cursors area)) (λ area. read_newest_restart s area)
    (area_of s client number) refl none
    (λ area there passes. valid_found s client number area RestartAreas (newest_restart s area.stream) refusals.NoRestart there valid)
valid_answer space s client (calls.PreviousRestart number cursor) none valid =
    valid_in s client number (λ area. next_refusal s area (restart_cursor area cursor)) (λ area. moved_on s area cursor (restart_cursor area cursor)) (area_of s client number) refl none
    (λ area there passes. valid_moved_on s client number cursor area (option_and_then (next_of_cursor s area) (restart_cursor area cursor)) there valid)
valid_answer space s client (calls.Advance number lsn) none valid =
    valid_in s client number (λ area. invalid_base s area.stream lsn None) (λ area. outcome (replies.Base lsn) (advanced s area.stream lsn)) (area_of s client number) refl none
    (λ area there passes. valid_advanced s area.stream lsn passes (its_area s client number area there valid).stream valid)
valid_answer space s client (calls.SetArchive on) none valid = valid_archiving s on valid
valid_answer space s client (calls.SetArchiveTail lsn) none valid = valid_tail s lsn none valid
valid_answer space s client calls.ListExtents none valid = valid
valid_answer space s client (calls.InstallPolicy policy) none valid = valid_installed s policy valid none
valid_answer space s client (calls.RemovePolicy kind) none valid = valid_removed s kind valid
valid_answer space s client (calls.SetSize containers) none valid = valid_sized space s containers valid none
valid_answer space s client (calls.Info stream) none valid = valid

-- what every step leaves
pub valid_step : HasSpaceLaws → (told : Bool) (s : State) (client : ℕ) (call : Call) (happened : Happened) (reply : Reply) (t : State)
    → IsValid s → Step told s client call happened reply t → IsValid t
valid_step space told s client call happened reply t valid step =
    step_leads IsValid told s client call happened reply t step
    (record { same = valid; broken = valid_broken s true valid; answered = λ none. valid_answer space s client call none valid })
