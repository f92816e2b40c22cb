-- States that look alike, though they differ in records, answer each call alike, and leave states that differ in the same records.
use Rattle.clfs_laws.proofs.Words.{◌≡◌, ℕ, ◌+◌, ◌-◌, Bool, true, false, refl, sym, ap, ◌∙◌, subst, inl, inr, List, [], ◌∷◌, ◌++◌, length, Option, Some, None}
use Rattle.clfs_laws.proofs.Words.{nat_lt, ◌==◌, option_map_or, option_and_then, cases_Bool, append-nil, null_lsn, place_after, LogEntry, Policy, PolicyKind}
use Rattle.clfs_laws.proofs.Words.{Call, Draft, Refusal, State, Area, Cursor, CursorKind, Records, RestartAreas, base_of, area_of, change_area, set_base}
use Rattle.clfs_laws.proofs.Words.{active, live_at, last_live, lsn_or_null, free, reserved, own_sum, grown, flushed, flush, next_lsn, put, need_of, spend_if}
use Rattle.clfs_laws.proofs.Words.{hold_sizes, seal_if, flush_if, plain_record, appended, newest_restart, next_of_cursor, record_cursor, restart_cursor}
use Rattle.clfs_laws.proofs.Words.{with_cursor_at, with_policy, without_policy, stream_number, Outcome, outcome, answer, over_area, reserved_for, released}
use Rattle.clfs_laws.proofs.Words.{found_with_cursor, moved_on, restart_record, restarted, rebased, advanced, archiving, flushed_to}
use Rattle.clfs_lsn.specs.declared.policy.Policy.TheVariants as policies
use Rattle.clfs_lsn.specs.declared.policy.PolicyKind.TheVariants as kinds
use Rattle.clfs_model.specs.declared.call.Call.TheVariants as calls
use Rattle.clfs_model.specs.declared.info.LogInfo.{LogInfo}
use Rattle.clfs_model.specs.declared.refusal.Refusal.TheVariants as refusals
use Rattle.clfs_model.specs.declared.reply.Reply.TheVariants as replies
use Rattle.clfs_model.specs.Answers.{info_of}
use Rattle.clfs_laws.proofs.AlikeRefusals.{LooksAlike, live_at_alike, last_live_alike, newest_alike, next_alike, active_alike, free_alike, grown_alike}
use Rattle.clfs_laws.proofs.AlikeRefusals.{seal_with, flush_with, ready_with}
use Rattle.clfs_laws.proofs.RecordsOfCalls.{seal_records, flushed_to_records, spend_records, placed_record, appended_records, restarted_records}
use Rattle.clfs_laws.proofs.RecordsOfCalls.{policy_records, no_policy_records, archiving_records}
use Rattle.clfs_laws.proofs.SameRecords.{with_records}
use Rattle.clfs_laws.proofs.ValidSettings.{grown_is}

-- Two outcomes with one reply: the same records join those of s and these other ones, and all else that they leave is the same.
pub record AnswersAlike (s : State) (records : List LogEntry) (o p : Outcome) : Type 0 where
  pub same_reply : p.reply ≡ o.reply
  pub more : List LogEntry
  pub joined : o.state.records ≡ s.records ++ more
  pub others : p.state ≡ with_records (records ++ more) o.state

-- where none joins
leaves : (s : State) (records : List LogEntry) (o p : Outcome) → p.reply ≡ o.reply → o.state.records ≡ s.records
    → p.state ≡ with_records records o.state
    → AnswersAlike s records o p
leaves s records o p same kept others = record {
  same_reply = same;
  more = [];
  joined = kept ∙ sym (append-nil s.records);
  others = others ∙ ap (λ (l : List LogEntry). with_records l o.state) (sym (append-nil records));
}

-- and where one does
joins_one : (s : State) (records : List LogEntry) (entry : LogEntry) (o p : Outcome) → p.reply ≡ o.reply → o.state.records ≡ s.records ++ entry ∷ []
    → p.state ≡ with_records (records ++ entry ∷ []) o.state → AnswersAlike s records o p
joins_one s records entry o p same kept others = record { same_reply = same; more = entry ∷ []; joined = kept; others = others }

-- outcomes of an option
both_of_option : {A : Type 0} (s : State) (records : List LogEntry) (found : Option A) (f g : A → Outcome) (o p : Outcome)
    → ((x : A) → AnswersAlike s records (f x) (g x)) → AnswersAlike s records o p
    → AnswersAlike s records (option_map_or f found o) (option_map_or g found p)
both_of_option s records None f g o p each none = none
both_of_option s records (Some x) f g o p each none = each x

-- outcomes over an area, which may be missing
both_over : (s : State) (records : List LogEntry) (client number : ℕ) (f g : Area → Outcome)
    → ((area : Area) → AnswersAlike s records (f area) (g area))
    → AnswersAlike s records (over_area s client number f) (over_area (with_records records s) client number g)
both_over s records client number f g each =
    both_of_option s records (area_of s client number) f g (outcome (replies.Refused refusals.NoSuchArea) s)
    (outcome (replies.Refused refusals.NoSuchArea) (with_records records s)) each (leaves s records _ _ refl refl refl)

-- another name for the second outcome
alike_as : (s : State) (records : List LogEntry) (o p q : Outcome) → q ≡ p → AnswersAlike s records o p → AnswersAlike s records o q
alike_as s records o p q same alike = let F : Outcome → Type 0 = λ x. AnswersAlike s records o x in subst F (sym same) alike

-- what areas hold, sealing and flushing leave records alone
spend_with : (area : Area) (is_reserved : Bool) (n : ℕ) (sizes : List ℕ) (s : State) (records : List LogEntry)
    → hold_sizes area sizes (spend_if is_reserved area n (with_records records s))
    ≡ with_records records (hold_sizes area sizes (spend_if is_reserved area n s))
spend_with area false n [] s records = refl
spend_with area true n [] s records = refl
spend_with area false n (size ∷ sizes) s records = refl
spend_with area true n (size ∷ sizes) s records = refl

seal_if_with : (asked : Bool) (s : State) (records : List LogEntry) → seal_if asked (with_records records s) ≡ with_records records (seal_if asked s)
seal_if_with true s records = seal_with s records
seal_if_with false s records = refl

flush_if_with : (asked : Bool) (s : State) (records : List LogEntry) → flush_if asked (with_records records s) ≡ with_records records (flush_if asked s)
flush_if_with true s records = flush_with s records
flush_if_with false s records = refl

flushed_to_with : (s : State) (records : List LogEntry) (lsn : ℕ) → flushed_to (with_records records s) lsn ≡ with_records records (flushed_to s lsn)
flushed_to_with s records lsn = elim (cases_Bool (nat_lt lsn (flushed s))) [ inl below ↦ rw below refl | inr above ↦ rw above (flush_with s records) ]

-- a record that is put joins any records alike
put_with : (s : State) (records : List LogEntry) (entry : LogEntry)
    → put (with_records records s) entry ≡ with_records (records ++ placed_record s entry ∷ []) (put s entry)
put_with s records entry =
    let n = length entry.bytes in
    ap (λ (m : State). record m { records = records ++ placed_record s entry ∷ []; place = (place_after s.shape s.place n).1 }) (ready_with s records n)

-- a record that is put after growth
joined_with : (s : State) (records : List LogEntry) (need : ℕ) (entry : LogEntry) → LooksAlike s (with_records records s)
    → put (grown (with_records records s) need) entry ≡ with_records (records ++ placed_record s entry ∷ []) (put (grown s need) entry)
joined_with s records need entry alike =
    let g : State = grown s need in
    let placed : placed_record g entry ≡ placed_record s entry = ap (λ (x : State). placed_record x entry) (grown_is s need) in
    ap (λ (x : State). put x entry) (grown_alike s records need alike) ∙ put_with g records entry
    ∙ ap (λ (e : LogEntry). with_records (records ++ e ∷ []) (put g entry)) placed

-- an append and a restart area put the same record
appended_with : (s : State) (records : List LogEntry) (area : Area) (draft : Draft) (is_reserved : Bool) (sizes : List ℕ)
    → LooksAlike s (with_records records s)
    → appended (with_records records s) area draft is_reserved sizes
    ≡ with_records (records ++ placed_record s (plain_record area draft) ∷ []) (appended s area draft is_reserved sizes)
appended_with s records area draft is_reserved sizes alike =
    let n = length draft.bytes in
    let need = need_of is_reserved n sizes in
    let entry = plain_record area draft in
    let all = records ++ placed_record s entry ∷ [] in
    let joined = put (grown s need) entry in
    let held = hold_sizes area sizes (spend_if is_reserved area n joined) in
    ap (λ (x : State). flush_if draft.flush (seal_if draft.seal (hold_sizes area sizes (spend_if is_reserved area n x))))
    (joined_with s records need entry alike)
    ∙ ap (λ (x : State). flush_if draft.flush (seal_if draft.seal x)) (spend_with area is_reserved n sizes joined all)
    ∙ ap (flush_if draft.flush) (seal_if_with draft.seal held all) ∙ flush_if_with draft.flush (seal_if draft.seal held) all

rebased_by : (none : Bool) (stream base : ℕ) (s : State) (records : List LogEntry) → (base == null_lsn) ≡ none
    → rebased stream base (with_records records s) ≡ with_records records (rebased stream base s)
rebased_by true stream base s records is = rw is refl
rebased_by false stream base s records is = rw is refl

restarted_with : (s : State) (records : List LogEntry) (area : Area) (bytes : List ℕ) (base : ℕ) (is_reserved : Bool)
    → LooksAlike s (with_records records s)
    → restarted (with_records records s) area bytes base is_reserved
    ≡ with_records (records ++ placed_record s (restart_record s area bytes base) ∷ []) (restarted s area bytes base is_reserved)
restarted_with s records area bytes base is_reserved alike =
    let w : State = with_records records s in
    let n = length bytes in
    let need = need_of is_reserved n [] in
    let entry = restart_record s area bytes base in
    let same_entry : restart_record w area bytes base ≡ entry =
    ap (λ (found : Option LogEntry). let e : LogEntry = record entry { previous = lsn_or_null found } in e) (newest_alike s w area.stream alike) in
    let all = records ++ placed_record s entry ∷ [] in
    let joined = put (grown s need) entry in
    let spent = spend_if is_reserved area n joined in
    ap (λ (e : LogEntry). rebased area.stream base (flush (spend_if is_reserved area n (put (grown w need) e)))) same_entry
    ∙ ap (λ (x : State). rebased area.stream base (flush (spend_if is_reserved area n x))) (joined_with s records need entry alike)
    ∙ ap (λ (x : State). rebased area.stream base (flush x)) (spend_with area is_reserved n [] joined all)
    ∙ ap (rebased area.stream base) (flush_with spent all) ∙ rebased_by (base == null_lsn) area.stream base (flush spent) all refl

-- reading
found_alike : (s : State) (records : List LogEntry) (area : Area) (kind : CursorKind) (found other : Option LogEntry) (given : Refusal) → other ≡ found
    → AnswersAlike s records (option_map_or (found_with_cursor s area kind) found (outcome (replies.Refused given) s))
    (option_map_or (found_with_cursor (with_records records s) area kind) other (outcome (replies.Refused given) (with_records records s)))
found_alike s records area kind found other given same =
    let w : State = with_records records s in
    alike_as s records (option_map_or (found_with_cursor s area kind) found (outcome (replies.Refused given) s))
    (option_map_or (found_with_cursor w area kind) found (outcome (replies.Refused given) w))
    (option_map_or (found_with_cursor w area kind) other (outcome (replies.Refused given) w))
    (ap (λ (x : Option LogEntry). option_map_or (found_with_cursor w area kind) x (outcome (replies.Refused given) w)) same)
    (both_of_option s records found (found_with_cursor s area kind) (found_with_cursor w area kind) (outcome (replies.Refused given) s)
    (outcome (replies.Refused given) w) (λ (entry : LogEntry). leaves s records _ _ refl refl refl) (leaves s records _ _ refl refl refl))

-- a cursor that moves on
abbrev moved_to : State → Area → ℕ → Option LogEntry → Outcome
moved_to s area number found = option_map_or
    (λ (entry : LogEntry). outcome (replies.Next entry) (change_area (with_cursor_at number entry.lsn) area.client area.number s))
    found (outcome (replies.Refused refusals.NoSuchCursor) s)

-- a cursor comes to the same record next
next_found : (s u : State) (area : Area) (found : Option Cursor) → LooksAlike s u
    → option_and_then (next_of_cursor u area) found ≡ option_and_then (next_of_cursor s area) found
next_found s u area None alike = refl
next_found s u area (Some cursor) alike = next_alike s u area cursor alike

moved_alike : (s : State) (records : List LogEntry) (area : Area) (number : ℕ) (found : Option Cursor) → LooksAlike s (with_records records s)
    → AnswersAlike s records (moved_on s area number found) (moved_on (with_records records s) area number found)
moved_alike s records area number found alike =
    let w : State = with_records records s in
    let next = option_and_then (next_of_cursor s area) found in
    alike_as s records (moved_to s area number next) (moved_to w area number next) (moved_on w area number found)
    (ap (moved_to w area number) (next_found s w area found alike))
    (both_of_option s records next
    (λ (entry : LogEntry). outcome (replies.Next entry) (change_area (with_cursor_at number entry.lsn) area.client area.number s))
    (λ (entry : LogEntry). outcome (replies.Next entry) (change_area (with_cursor_at number entry.lsn) area.client area.number w))
    (outcome (replies.Refused refusals.NoSuchCursor) s) (outcome (replies.Refused refusals.NoSuchCursor) w)
    (λ (entry : LogEntry). leaves s records _ _ refl refl refl) (leaves s records _ _ refl refl refl))

-- policies and archiving leave records alone
policy_with : (s : State) (records : List LogEntry) (policy : Policy)
    → with_policy (with_records records s) policy ≡ with_records records (with_policy s policy)
policy_with s records (policies.Maximum value) = refl
policy_with s records (policies.Minimum value) = refl
policy_with s records (policies.Growth value) = refl
policy_with s records policies.Automatic = refl

no_policy_with : (s : State) (records : List LogEntry) (kind : PolicyKind)
    → without_policy (with_records records s) kind ≡ with_records records (without_policy s kind)
no_policy_with s records kinds.Maximum = refl
no_policy_with s records kinds.Minimum = refl
no_policy_with s records kinds.Growth = refl
no_policy_with s records kinds.Automatic = refl

archiving_with : (s : State) (records : List LogEntry) (on : Bool) → LooksAlike s (with_records records s)
    → archiving (with_records records s) on ≡ with_records records (archiving s on)
archiving_with s records true alike =
    ap (λ (h : ℕ). let t : State = record s { records = records; archive = Some (option_map_or (λ tail. tail) s.archive h) } in t) alike.same_hold
archiving_with s records false alike = refl

-- what a log tells of itself, by what its records say
abbrev info_by : State → ℕ → ℕ → ℕ → ℕ → ℕ → LogInfo
info_by s stream used unused last restart = record {
  containers = s.containers;
  free_containers = s.containers - used;
  container_sectors = s.shape.container_sectors;
  free_sectors = unused;
  reserved = reserved s;
  base = base_of s stream;
  last = last;
  flushed = flushed s;
  restart = restart;
  archive = s.archive;
}

info_alike : (s : State) (records : List LogEntry) (stream : ℕ) → LooksAlike s (with_records records s)
    → info_of (with_records records s) stream ≡ info_of s stream
info_alike s records stream alike =
    let w : State = with_records records s in
    ap (λ (used : ℕ). info_by s stream used (free w) (last_live w stream) (lsn_or_null (newest_restart w stream))) (active_alike s records alike)
    ∙ ap (λ (unused : ℕ). info_by s stream (active s) unused (last_live w stream) (lsn_or_null (newest_restart w stream))) (free_alike s records alike)
    ∙ ap (λ (last : ℕ). info_by s stream (active s) (free s) last (lsn_or_null (newest_restart w stream))) (last_live_alike s w stream alike)
    ∙ ap (λ (found : Option LogEntry). info_by s stream (active s) (free s) (last_live s stream) (lsn_or_null found)) (newest_alike s w stream alike)

-- whatever the call
pub answers_alike : (s : State) (records : List LogEntry) (client : ℕ) (call : Call) → LooksAlike s (with_records records s)
    → AnswersAlike s records (answer s client call) (answer (with_records records s) client call)
answers_alike s records client (calls.OpenStream name) alike =
    both_of_option s records (stream_number s name) (λ number. outcome (replies.Stream number) s)
    (λ number. outcome (replies.Stream number) (with_records records s))
    (outcome (replies.Stream (length s.streams + 1)) (record s { streams = s.streams ++ record { name = name; base = null_lsn } ∷ [] }))
    (outcome (replies.Stream (length s.streams + 1)) (record s { records = records; streams = s.streams ++ record { name = name; base = null_lsn } ∷ [] }))
    (λ number. leaves s records _ _ refl refl refl) (leaves s records _ _ refl refl refl)
answers_alike s records client (calls.CreateArea stream largest reads) alike = leaves s records _ _ refl refl refl
answers_alike s records client (calls.DeleteArea number) alike = leaves s records _ _ refl refl refl
answers_alike s records client (calls.Reserve number sizes) alike =
    both_over s records client number (λ area. reserved_for s area sizes) (λ area. reserved_for (with_records records s) area sizes) (λ area.
    leaves s records (reserved_for s area sizes) (reserved_for (with_records records s) area sizes) refl
    (spend_records area false 0 sizes (grown s (own_sum sizes)) ∙ ap (λ (g : State). g.records) (grown_is s (own_sum sizes)))
    (ap (hold_sizes area sizes) (grown_alike s records (own_sum sizes) alike) ∙ spend_with area false 0 sizes (grown s (own_sum sizes)) records))
answers_alike s records client (calls.Release number sectors) alike =
    both_over s records client number (λ area. released s area sectors) (λ area. released (with_records records s) area sectors)
    (λ area. leaves s records _ _ refl refl refl)
answers_alike s records client (calls.Align number sizes) alike = leaves s records _ _ refl refl refl
answers_alike s records client (calls.Append number draft is_reserved sizes) alike =
    let n = length draft.bytes in
    let w : State = with_records records s in
    both_over s records client number (λ area. outcome (replies.Placed (next_lsn s n)) (appended s area draft is_reserved sizes))
    (λ area. outcome (replies.Placed (next_lsn w n)) (appended w area draft is_reserved sizes)) (λ area.
    joins_one s records (placed_record s (plain_record area draft)) _ _ refl (appended_records s area draft is_reserved sizes)
    (appended_with s records area draft is_reserved sizes alike))
answers_alike s records client (calls.Flush number) alike =
    leaves s records _ _ (ap (λ (x : State). replies.Flushed (flushed x)) (flush_with s records)) (seal_records s) (flush_with s records)
answers_alike s records client (calls.FlushTo number lsn) alike =
    leaves s records _ _ (ap (λ (x : State). replies.Flushed (flushed x)) (flushed_to_with s records lsn))
    (flushed_to_records s lsn) (flushed_to_with s records lsn)
answers_alike s records client (calls.Read number lsn mode) alike =
    both_over s records client number _ _ (λ area.
    found_alike s records area (Records mode) (live_at s area.stream lsn) (live_at (with_records records s) area.stream lsn) (refusals.RecordNonexistent lsn)
    (live_at_alike s (with_records records s) area.stream lsn alike))
answers_alike s records client (calls.ReadNext number cursor) alike =
    both_over s records client number _ _ (λ area. moved_alike s records area cursor (record_cursor area cursor) alike)
answers_alike s records client (calls.EndRead number cursor) alike = leaves s records _ _ refl refl refl
answers_alike s records client (calls.WriteRestart number bytes base is_reserved) alike =
    let n = length bytes in
    let w : State = with_records records s in
    both_over s records client number (λ area. outcome (replies.Placed (next_lsn s n)) (restarted s area bytes base is_reserved))
    (λ area. outcome (replies.Placed (next_lsn w n)) (restarted w area bytes base is_reserved)) (λ area.
    joins_one s records (placed_record s (restart_record s area bytes base)) _ _ refl (restarted_records s area bytes base is_reserved)
    (restarted_with s records area bytes base is_reserved alike))
answers_alike s records client (calls.ReadRestart number) alike =
    both_over s records client number _ _ (λ area.
    found_alike s records area RestartAreas (newest_restart s area.stream) (newest_restart (with_records records s) area.stream) refusals.NoRestart
    (newest_alike s (with_records records s) area.stream alike))
answers_alike s records client (calls.PreviousRestart number cursor) alike =
    both_over s records client number _ _ (λ area. moved_alike s records area cursor (restart_cursor area cursor) alike)
answers_alike s records client (calls.Advance number lsn) alike =
    let w : State = with_records records s in
    both_over s records client number (λ area. outcome (replies.Base lsn) (advanced s area.stream lsn))
    (λ area. outcome (replies.Base lsn) (advanced w area.stream lsn))
    (λ area. leaves s records _ _ refl (seal_records s)
    (ap (λ (x : State). record x { streams = set_base area.stream lsn x.streams }) (flush_with s records)))
answers_alike s records client (calls.SetArchive on) alike = leaves s records _ _ refl (archiving_records s on) (archiving_with s records on alike)
answers_alike s records client (calls.SetArchiveTail lsn) alike = leaves s records _ _ refl refl refl
answers_alike s records client calls.ListExtents alike = leaves s records _ _ (ap replies.Extents alike.same_extents) refl refl
answers_alike s records client (calls.InstallPolicy policy) alike = leaves s records _ _ refl (policy_records s policy) (policy_with s records policy)
answers_alike s records client (calls.RemovePolicy kind) alike = leaves s records _ _ refl (no_policy_records s kind) (no_policy_with s records kind)
answers_alike s records client (calls.SetSize containers) alike = leaves s records _ _ refl refl refl
answers_alike s records client (calls.Info stream) alike = leaves s records _ _ (ap replies.Info (info_alike s records stream alike)) refl refl
