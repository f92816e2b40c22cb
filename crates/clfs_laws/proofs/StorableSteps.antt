-- Every step keeps a state such that files can hold it.
use Rattle.clfs_laws.proofs.Words.{◌≡◌, ℕ, ◌+◌, Bool, true, false, refl, sym, subst, inl, inr, List, [], ◌∷◌, ◌++◌, length, Option, Some, None, not, is_none}
use Rattle.clfs_laws.proofs.Words.{nat_lt, option_map_or, cases_Bool, null_lsn, LogEntry, Policy, PolicyKind, Call, Refusal, Happened, Reply, State, Area}
use Rattle.clfs_laws.proofs.Words.{CursorKind, Records, RestartAreas, Stream, MeetsCondition, area_of, is_area, change_area, live_at, own_sum, grown}
use Rattle.clfs_laws.proofs.Words.{with_containers, flushed, flush, next_lsn, appended, hold_sizes, with_policy, without_policy, newest_restart}
use Rattle.clfs_laws.proofs.Words.{record_cursor, restart_cursor, with_cursor_at, refusal, in_area, too_long, full, short, stream_number, append_refusal}
use Rattle.clfs_laws.proofs.Words.{restart_refusal, invalid_base, read_refusal, next_refusal, too_many_cursors, refused_if, Outcome, outcome, answer}
use Rattle.clfs_laws.proofs.Words.{archiving, found_with_cursor, read_at, read_newest_restart, moved_on, reserved_for, released, advanced, restarted}
use Rattle.clfs_laws.proofs.Words.{flushed_to, Step, with_broken, IsWithinLimits, IsStorable, IsValid, HasSpaceLaws}
use Rattle.clfs_lsn.specs.declared.policy.Policy.TheVariants as policies
use Rattle.clfs_lsn.specs.declared.policy.PolicyKind.TheVariants as kinds
use Rattle.clfs_model.specs.declared.call.Call.TheVariants as calls
use Rattle.clfs_model.specs.declared.refusal.Refusal.TheVariants as refusals
use Rattle.clfs_model.specs.declared.reply.Reply.TheVariants as replies
use Rattle.clfs_laws.proofs.NotRefused.{passed}
use Rattle.clfs_laws.proofs.RecordsOfCalls.{seal_records, flushed_to_records}
use Rattle.clfs_laws.proofs.StepLeads.{step_leads}
use Rattle.clfs_laws.proofs.StorableCursors.{IsRead, read_live, read_newest}
use Rattle.clfs_laws.proofs.StorableAreas.{limits_opened, limits_created, limits_deleted, limits_found_with, limits_moved, limits_moved_back, limits_ended}
use Rattle.clfs_laws.proofs.StorableBases.{BasesRise, bases_as, same_bases, bases_of_more, bases_appended, bases_restarted, bases_advanced}
use Rattle.clfs_laws.proofs.StorableBlocks.{blocks_as, blocks_flush, blocks_flushed_to, blocks_appended, blocks_restarted}
use Rattle.clfs_laws.proofs.StorableLimits.{limits_same, limits_released, limits_hold, limits_flush, limits_flushed_to, limits_appended, limits_restarted}
use Rattle.clfs_laws.proofs.StorableLimits.{limits_advanced}
use Rattle.clfs_laws.proofs.ValidAreaCalls.{its_area}
use Rattle.clfs_laws.proofs.ValidBases.{flush_streams}
use Rattle.clfs_laws.proofs.ValidSettings.{grown_is}
use Rattle.clfs_laws.proofs.ValidSteps.{two_of}

-- a state of the same shape, records and place whose bases don't fall and whose areas are within their limits
storable_with : (s t : State) → t.shape ≡ s.shape → t.records ≡ s.records → t.place ≡ s.place → BasesRise s t → IsWithinLimits t → IsStorable s
    → IsStorable t
storable_with s t shape records place rise limits storable = record {
  bases = bases_as s t records rise storable.bases;
  blocks = blocks_as s t shape records place storable.blocks;
  limits = limits;
}

-- the same streams and areas too
pub storable_same : (s t : State) → t.shape ≡ s.shape → t.records ≡ s.records → t.place ≡ s.place → t.streams ≡ s.streams → t.areas ≡ s.areas
    → IsStorable s → IsStorable t
storable_same s t shape records place streams areas storable =
    storable_with s t shape records place (same_bases s t streams) (limits_same s t streams areas records storable.limits) storable

-- other areas
storable_areas : (s : State) (areas : List Area) → IsWithinLimits (record s { areas = areas }) → IsStorable s
    → IsStorable (record s { areas = areas })
storable_areas s areas limits storable =
    storable_with s (record s { areas = areas }) refl refl refl (same_bases s (record s { areas = areas }) refl) limits storable

-- what holds in each area that is there, where the call isn't refused
pub in_each : (P : State → Type 0) (s : State) (client number : ℕ) (refuses : Area → Option Refusal) (answers : Area → Outcome) (found : Option Area)
    → area_of s client number ≡ found
    → option_map_or refuses found (Some refusals.NoSuchArea) ≡ None
    → ((area : Area) → area_of s client number ≡ Some area → refuses area ≡ None → P (answers area).state)
    → P (option_map_or answers found (outcome (replies.Refused refusals.NoSuchArea) s)).state
in_each P s client number refuses answers None is none each = absurd (cc)
in_each P s client number refuses answers (Some area) is none each = each area is none

-- a stream that is opened
opened_by : (s : State) (name : List ℕ) (found : Option ℕ) → IsWithinLimits (option_map_or (λ number. outcome (replies.Stream number) s) found
    (outcome (replies.Stream (length s.streams + 1)) (record s { streams = s.streams ++ record { name = name; base = null_lsn } ∷ [] }))).state
    → IsStorable s → IsStorable (option_map_or (λ number. outcome (replies.Stream number) s) found
    (outcome (replies.Stream (length s.streams + 1)) (record s { streams = s.streams ++ record { name = name; base = null_lsn } ∷ [] }))).state
opened_by s name (Some number) limits storable = storable
opened_by s name None limits storable =
    let new : Stream = record { name = name; base = null_lsn } in
    storable_with s (record s { streams = s.streams ++ new ∷ [] }) refl refl refl (bases_of_more s new) limits storable

-- sectors that are reserved
pub hold_keeps : (area : Area) (sizes : List ℕ) (s : State) → IsStorable s → IsStorable (hold_sizes area sizes s)
hold_keeps area [] s storable = storable
hold_keeps area (size ∷ sizes) s storable =
    storable_areas s (hold_sizes area (size ∷ sizes) s).areas (limits_hold area (size ∷ sizes) s storable.limits) storable

storable_reserved : (s : State) (area : Area) (sizes : List ℕ) → IsStorable s → IsStorable (reserved_for s area sizes).state
storable_reserved s area sizes storable =
    let need = own_sum sizes in
    let g : IsStorable (grown s need) =
    subst IsStorable (sym (grown_is s need)) (storable_same s (with_containers (grown s need).containers s) refl refl refl refl refl storable) in
    hold_keeps area sizes (grown s need) g

-- a flush
storable_flush : (s : State) → IsStorable s → IsStorable (flush s)
storable_flush s storable = record {
  bases = bases_as s (flush s) (seal_records s) (same_bases s (flush s) (flush_streams s)) storable.bases;
  blocks = blocks_flush s storable.blocks;
  limits = limits_flush s storable.limits;
}

storable_flushed_to : (s : State) (lsn : ℕ) → IsStorable s → IsStorable (flushed_to s lsn)
storable_flushed_to s lsn storable = record {
  bases = bases_as s (flushed_to s lsn) (flushed_to_records s lsn) (same_bases s (flushed_to s lsn) (flushed_to_streams s lsn)) storable.bases;
  blocks = blocks_flushed_to s lsn storable.blocks;
  limits = limits_flushed_to s lsn storable.limits;
}
  where
    flushed_to_streams : (s : State) (lsn : ℕ) → (flushed_to s lsn).streams ≡ s.streams
    flushed_to_streams s lsn = elim (cases_Bool (nat_lt lsn (flushed s))) [ inl below ↦ rw below refl | inr above ↦ rw above (flush_streams s) ]

-- reading
storable_found : (s : State) (client number : ℕ) (area : Area) (kind : CursorKind) (found : Option LogEntry) (otherwise : Refusal) → IsValid s
    → area_of s client number ≡ Some area → too_many_cursors area ≡ None
    → ((entry : LogEntry) → found ≡ Some entry → IsRead s area.stream kind entry) → IsStorable s
    → IsStorable (option_map_or (found_with_cursor s area kind) found (outcome (replies.Refused otherwise) s)).state
storable_found s client number area kind None otherwise valid there few read storable = storable
storable_found s client number area kind (Some entry) otherwise valid there few read storable =
    storable_areas s (found_with_cursor s area kind entry).state.areas
    (limits_found_with s client number area kind entry valid there few (read entry refl) storable.limits) storable

-- a cursor that moves, or is at its end
moved_areas : (s : State) (area : Area) (cursor : ℕ) (found : Option LogEntry)
    → IsWithinLimits (option_map_or (λ (e : LogEntry). outcome (replies.Next e) (change_area (with_cursor_at cursor e.lsn) area.client area.number s)) found
    (outcome (replies.Refused refusals.NoSuchCursor) s)).state → IsStorable s
    → IsStorable (option_map_or (λ (e : LogEntry). outcome (replies.Next e) (change_area (with_cursor_at cursor e.lsn) area.client area.number s)) found
    (outcome (replies.Refused refusals.NoSuchCursor) s)).state
moved_areas s area cursor None limits storable = storable
moved_areas s area cursor (Some entry) limits storable =
    storable_areas s (change_area (with_cursor_at cursor entry.lsn) area.client area.number s).areas limits storable

-- archiving and policies
storable_archiving : (s : State) (on : Bool) → IsStorable s → IsStorable (archiving s on)
storable_archiving s true storable = storable_same s (archiving s true) refl refl refl refl refl storable
storable_archiving s false storable = storable_same s (archiving s false) refl refl refl refl refl storable

storable_installed : (s : State) (policy : Policy) → IsStorable s → IsStorable (with_policy s policy)
storable_installed s (policies.Maximum value) storable = storable_same s (record s { maximum = Some value }) refl refl refl refl refl storable
storable_installed s (policies.Minimum value) storable = storable_same s (record s { minimum = Some value }) refl refl refl refl refl storable
storable_installed s (policies.Growth value) storable = storable_same s (record s { growth = Some value }) refl refl refl refl refl storable
storable_installed s policies.Automatic storable = storable_same s (record s { automatic = true }) refl refl refl refl refl storable

storable_removed : (s : State) (kind : PolicyKind) → IsStorable s → IsStorable (without_policy s kind)
storable_removed s kinds.Maximum storable = storable_same s (record s { maximum = None }) refl refl refl refl refl storable
storable_removed s kinds.Minimum storable = storable_same s (record s { minimum = None }) refl refl refl refl refl storable
storable_removed s kinds.Growth storable = storable_same s (record s { growth = None }) refl refl refl refl refl storable
storable_removed s kinds.Automatic storable = storable_same s (record s { automatic = false }) refl refl refl refl refl storable

-- what a call that isn't refused leaves
pub storable_answer : HasSpaceLaws → (s : State) (client : ℕ) (call : Call) → refusal s client call ≡ None → MeetsCondition client call → IsValid s → IsStorable s
    → IsStorable (answer s client call).state
storable_answer space s client (calls.OpenStream name) none meets valid storable =
    opened_by s name (stream_number s name) (limits_opened s name none storable.limits) storable
storable_answer space s client (calls.CreateArea stream largest reads) none meets valid storable =
    storable_areas s _ (limits_created s client stream largest reads none meets.is_client meets.arguments.0 meets.arguments.1 storable.limits) storable
storable_answer space s client (calls.DeleteArea number) none meets valid storable =
    storable_areas s _ (limits_deleted s (λ (area : Area). not (is_area client number area)) storable.limits) storable
storable_answer space s client (calls.Reserve number sizes) none meets valid storable =
    let two = two_of s (in_area s client number (λ (area : Area). too_long area.largest sizes (full s (own_sum sizes)))) none in
    in_each IsStorable s client number (λ area. too_long area.largest sizes (full s (own_sum sizes))) (λ area. reserved_for s area sizes)
    (area_of s client number) refl two.1
    (λ area there passes. storable_reserved s area sizes storable)
storable_answer space s client (calls.Release number sectors) none meets valid storable =
    in_each IsStorable s client number (λ area. short area sectors None) (λ area. released s area sectors) (area_of s client number) refl none
    (λ area there passes. storable_areas s _ (limits_released s area sectors storable.limits) storable)
storable_answer space s client (calls.Align number sizes) none meets valid storable = storable
storable_answer space s client (calls.Append number draft is_reserved sizes) none meets valid storable =
    let two = two_of s (in_area s client number (λ (area : Area). append_refusal s area draft is_reserved sizes)) none in
    in_each IsStorable s client number (λ area. append_refusal s area draft is_reserved sizes)
    (λ area. outcome (replies.Placed (next_lsn s (length draft.bytes))) (appended s area draft is_reserved sizes)) (area_of s client number) refl two.1
    (λ area there passes. record {
      bases = bases_appended s area draft is_reserved sizes storable.bases;
      blocks = blocks_appended space s client number area draft is_reserved sizes valid there passes storable.blocks;
      limits = limits_appended s area draft is_reserved sizes storable.limits;
    })
storable_answer space s client (calls.Flush number) none meets valid storable = storable_flush s storable
storable_answer space s client (calls.FlushTo number lsn) none meets valid storable = storable_flushed_to s lsn storable
storable_answer space s client (calls.Read number lsn mode) none meets valid storable =
    in_each IsStorable s client number (λ area. read_refusal s area lsn) (λ area. read_at s area lsn mode) (area_of s client number) refl none
    (λ area there passes. storable_found s client number area (Records mode) (live_at s area.stream lsn) (refusals.RecordNonexistent lsn) valid there
    (passed (is_none (live_at s area.stream lsn)) (refusals.RecordNonexistent lsn) (too_many_cursors area) passes).1
    (λ entry is. read_live s area.stream lsn mode entry is) storable)
storable_answer space s client (calls.ReadNext number cursor) none meets valid storable =
    in_each IsStorable s client number (λ area. next_refusal s area (record_cursor area cursor))
    (λ area. moved_on s area cursor (record_cursor area cursor)) (area_of s client number) refl none
    (λ area there passes. moved_areas s area cursor _ (limits_moved s client number cursor area valid there storable.limits) storable)
storable_answer space s client (calls.EndRead number cursor) none meets valid storable =
    storable_areas s _ (limits_ended s client number cursor storable.limits) storable
storable_answer space s client (calls.WriteRestart number bytes base is_reserved) none meets valid storable =
    let two = two_of s (in_area s client number (λ (area : Area). restart_refusal s area bytes base is_reserved)) none in
    in_each IsStorable s client number (λ area. restart_refusal s area bytes base is_reserved)
    (λ area. outcome (replies.Placed (next_lsn s (length bytes))) (restarted s area bytes base is_reserved)) (area_of s client number) refl two.1
    (λ area there passes. record {
      bases = bases_restarted s client number area bytes base is_reserved valid there passes storable.bases;
      blocks = blocks_restarted space s client number area bytes base is_reserved valid there passes storable.blocks;
      limits = limits_restarted s area bytes base is_reserved storable.limits;
    })
storable_answer space s client (calls.ReadRestart number) none meets valid storable =
    in_each IsStorable s client number (λ area. refused_if (is_none (newest_restart s area.stream)) refusals.NoRestart (too_many_cursors area))
    (λ area. read_newest_restart s area)
    (area_of s client number) refl none
    (λ area there passes. storable_found s client number area RestartAreas (newest_restart s area.stream) refusals.NoRestart valid there
    (passed (is_none (newest_restart s area.stream)) refusals.NoRestart (too_many_cursors area) passes).1
    (λ entry is. read_newest s area.stream entry is) storable)
storable_answer space s client (calls.PreviousRestart number cursor) none meets valid storable =
    in_each IsStorable s client number (λ area. next_refusal s area (restart_cursor area cursor))
    (λ area. moved_on s area cursor (restart_cursor area cursor)) (area_of s client number) refl none
    (λ area there passes. moved_areas s area cursor _ (limits_moved_back s client number cursor area valid there storable.limits) storable)
storable_answer space s client (calls.Advance number lsn) none meets valid storable =
    in_each IsStorable s client number (λ area. invalid_base s area.stream lsn None)
    (λ area. outcome (replies.Base lsn) (advanced s area.stream lsn)) (area_of s client number) refl none
    (λ area there passes. record {
      bases = bases_advanced s area.stream lsn valid passes (its_area s client number area there valid).stream storable.bases;
      blocks = blocks_as (flush s) (advanced s area.stream lsn) refl refl refl (blocks_flush s storable.blocks);
      limits = limits_advanced s area.stream lsn storable.limits;
    })
storable_answer space s client (calls.SetArchive on) none meets valid storable = storable_archiving s on storable
storable_answer space s client (calls.SetArchiveTail lsn) none meets valid storable =
    storable_same s (record s { archive = Some lsn }) refl refl refl refl refl storable
storable_answer space s client calls.ListExtents none meets valid storable = storable
storable_answer space s client (calls.InstallPolicy policy) none meets valid storable = storable_installed s policy storable
storable_answer space s client (calls.RemovePolicy kind) none meets valid storable = storable_removed s kind storable
storable_answer space s client (calls.SetSize containers) none meets valid storable = storable_same s (with_containers containers s) refl refl refl refl refl storable
storable_answer space s client (calls.Info stream) none meets valid storable = storable

-- what every step leaves
pub storable_step : HasSpaceLaws → (told : Bool) (s : State) (client : ℕ) (call : Call) (happened : Happened) (reply : Reply) (t : State)
    → IsValid s → IsStorable s → MeetsCondition client call → Step told s client call happened reply t → IsStorable t
storable_step space told s client call happened reply t valid storable meets step =
    step_leads IsStorable told s client call happened reply t step (record {
      same = storable;
      broken = storable_same s (with_broken s) refl refl refl refl refl storable;
      answered = λ none. storable_answer space s client call none meets valid storable;
    })
