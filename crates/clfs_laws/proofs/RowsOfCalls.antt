-- Every call changes the rows of areas by its reply alone.
use Rattle.clfs_laws.proofs.Words.{◌≡◌, ℕ, ◌+◌, ◌-◌, Bool, true, false, refl, sym, ap, ◌∙◌, subst, inl, inr, arith, List, [], ◌∷◌, ◌++◌, length, Option, Some}
use Rattle.clfs_laws.proofs.Words.{None, find, filter, not, ◌==◌, nat_lt, if◌then◌else◌, option_map, option_map_or, option_and_then, cases_Bool, eqb-true}
use Rattle.clfs_laws.proofs.Words.{eqb-false, ne_eqb, eq-eqb, LogEntry, Policy, PolicyKind, Call, Draft, Refusal, State, Area, Cursor, CursorKind, Records}
use Rattle.clfs_laws.proofs.Words.{RestartAreas, area_of, areas_of, is_area, change_area, change_first, live_at, own_sum, grown, flush, flushed, put}
use Rattle.clfs_laws.proofs.Words.{spent_of, with_less_held, plain_record, need_of, seal_if, hold_sizes, spend_if, appended, next_of_cursor, record_cursor}
use Rattle.clfs_laws.proofs.Words.{restart_cursor, newest_restart, with_cursor, with_cursor_at, without_cursor, unused_cursor, with_policy, without_policy}
use Rattle.clfs_laws.proofs.Words.{stream_number, refusal, Outcome, outcome, answer, found_with_cursor, restarted, restart_record, rebased, archiving}
use Rattle.clfs_laws.proofs.Words.{flushed_to, new_area, AreaRow, row_of, row_after, changed_where, with_held, with_changed_held}
use Rattle.clfs_lsn.specs.declared.policy.Policy.TheVariants as policies
use Rattle.clfs_lsn.specs.declared.policy.PolicyKind.TheVariants as kinds
use Rattle.clfs_model.specs.declared.call.Call.TheVariants as calls
use Rattle.clfs_model.specs.declared.refusal.Refusal.TheVariants as refusals
use Rattle.clfs_model.specs.declared.reply.Reply.TheVariants as replies
use Rattle.clfs_laws.proofs.Finding.{find_behind, find_not_behind, find_gone, find_not_gone}
use Rattle.clfs_laws.proofs.RowChanges.{row_among, Changes, other_number, other_client}
use Rattle.clfs_laws.proofs.RowSteps.{ChangesRows, rows_kept, row_changed, cursor_changed, seal_areas, seal_if_areas, flush_if_areas, grown_areas}
use Rattle.clfs_laws.proofs.RowSteps.{joined_areas, with_spent, spent_changes, spent_areas, in_the_area, named_change, cursors_change}
use Rattle.clfs_laws.proofs.Unused.{unused_is_new, not_there, area_number_of}

policy_areas : (s : State) (policy : Policy) → (with_policy s policy).areas ≡ s.areas
policy_areas s (policies.Maximum value) = refl
policy_areas s (policies.Minimum value) = refl
policy_areas s (policies.Growth value) = refl
policy_areas s policies.Automatic = refl

no_policy_areas : (s : State) (kind : PolicyKind) → (without_policy s kind).areas ≡ s.areas
no_policy_areas s kinds.Maximum = refl
no_policy_areas s kinds.Minimum = refl
no_policy_areas s kinds.Growth = refl
no_policy_areas s kinds.Automatic = refl

archiving_areas : (s : State) (on : Bool) → (archiving s on).areas ≡ s.areas
archiving_areas s true = refl
archiving_areas s false = refl

flushed_to_areas : (s : State) (lsn : ℕ) → (flushed_to s lsn).areas ≡ s.areas
flushed_to_areas s lsn = elim (cases_Bool (nat_lt lsn (flushed s))) [ inl below ↦ rw below refl | inr above ↦ rw above (seal_areas s) ]

opened_rows : (s : State) (client : ℕ) (name : List ℕ) (found : Option ℕ) → ChangesRows s client (calls.OpenStream name)
    (option_map_or (λ number. outcome (replies.Stream number) s) found (outcome (replies.Stream (length s.streams + 1)) (record s { streams = s.streams ++ record { name = name; base = 0 } ∷ [] })))
opened_rows s client name None = rows_kept s client (calls.OpenStream name) _ refl (λ number row. refl)
opened_rows s client name (Some found) = rows_kept s client (calls.OpenStream name) _ refl (λ number row. refl)

-- a new area isn't of another client
not_of_other : (area : Area) (client other number : ℕ) → area.client ≡ client → (other == client) ≡ false → is_area other number area ≡ false
not_of_other area client other number of_client differ =
    let differs : other ≡ client → ⊥ = eqb-false other client differ in
    let fails : (area.client == other) ≡ false = ne_eqb area.client other (λ e. differs (sym e ∙ of_client)) in
    rw fails refl

-- the rows of the client with a new area after the others
row_behind : (areas : List Area) (area : Area) (client number : ℕ) → area.client ≡ client → find (is_area client area.number) areas ≡ None
    → row_among (areas ++ area ∷ []) client number ≡ (if area.number == number then Some (row_of area) else row_among areas client number)
row_behind areas area client number of_client unused =
    let mine : (area.client == client) ≡ true = eq-eqb area.client client of_client in
    elim (cases_Bool (area.number == number)) [
      | inl same ↦
          let is : area.number ≡ number = eqb-true area.number number same in
          let F : ℕ → Type 0 = λ n. find (is_area client n) areas ≡ None in
          let none : find (is_area client number) areas ≡ None = subst F is unused in
          let passes : is_area client number area ≡ true = rw (mine, same) refl in
          let found : find (is_area client number) (areas ++ area ∷ []) ≡ Some area = find_behind (is_area client number) areas area none ∙ rw passes refl in
          rw same (ap (λ (f : Option Area). option_map row_of f) found)
      | inr differ ↦
          let fails : is_area client number area ≡ false = rw (mine, differ) refl in
          rw differ (ap (λ (f : Option Area). option_map row_of f) (find_not_behind (is_area client number) areas area fails))
    ]

-- a new area of a number that no area of the client has
created_rows : (s : State) (client : ℕ) (call : Call) (area : Area) (o : Outcome) → area.client ≡ client → find (is_area client area.number) s.areas ≡ None
    → o.state.areas ≡ s.areas ++ area ∷ [] → ((number : ℕ) (row : Option AreaRow) → row_after number row call o.reply ≡ (if area.number == number then Some (row_of area) else row))
    → ChangesRows s client call o
created_rows s client call area o of_client unused areas after = record {
  own = λ number. ap (λ (all : List Area). row_among all client number) areas
      ∙ row_behind s.areas area client number of_client unused ∙ sym (after number (row_among s.areas client number));
  others = λ other number differ. ap (λ (all : List Area). row_among all other number) areas
      ∙ ap (λ (found : Option Area). option_map row_of found) (find_not_behind (is_area other number) s.areas area (not_of_other area client other number of_client differ));
}

-- an area that is gone
deleted_rows : (s : State) (client given : ℕ) → ChangesRows s client (calls.DeleteArea given)
    (outcome replies.Done (record s { areas = filter (λ (area : Area). not (is_area client given area)) s.areas }))
deleted_rows s client given = record {
  own = λ number. elim (cases_Bool (given == number)) [
    | inl same ↦
        let is : given ≡ number = eqb-true given number same in
        let F : ℕ → Type 0 = λ n. row_among (filter (λ (area : Area). not (is_area client given area)) s.areas) client n ≡ None in
        rw same (subst F is (ap (λ (f : Option Area). option_map row_of f) (find_gone (is_area client given) s.areas)))
    | inr differ ↦ rw differ (ap (λ (f : Option Area). option_map row_of f)
        (find_not_gone (is_area client given) (is_area client number) s.areas (other_number client given number differ)))
  ];
  others = λ other number differ. ap (λ (f : Option Area). option_map row_of f)
      (find_not_gone (is_area client given) (is_area other number) s.areas (other_client client given other number differ));
}

-- a record that is found with a new cursor at it
found_rows : (s : State) (client given : ℕ) (call : Call) (area : Area) (kind : CursorKind) (entry : LogEntry) → area_of s client given ≡ Some area
    → ((number : ℕ) (row : Option AreaRow) → row_after number row call (replies.Found (unused_cursor area.cursors) entry) ≡ row)
    → ChangesRows s client call (found_with_cursor s area kind entry)
found_rows s client given call area kind entry is kept =
    let cursor : Cursor = record { number = unused_cursor area.cursors; kind = kind; last = entry.lsn } in
    cursor_changed s client given call (found_with_cursor s area kind entry) (with_cursor cursor)
    (cursors_change (with_cursor cursor) (λ a. refl) (λ a. refl) (λ a. refl)) (named_change s client given area (with_cursor cursor) is) kept

-- a record that is found, or a refusal
found_or_rows : (s : State) (client given : ℕ) (call : Call) (area : Area) (kind : CursorKind) (found : Option LogEntry) (refusal : Refusal) → area_of s client given ≡ Some area
    → ((number : ℕ) (row : Option AreaRow) (entry : LogEntry) → row_after number row call (replies.Found (unused_cursor area.cursors) entry) ≡ row)
    → ((number : ℕ) (row : Option AreaRow) → row_after number row call (replies.Refused refusal) ≡ row)
    → ChangesRows s client call (option_map_or (found_with_cursor s area kind) found (outcome (replies.Refused refusal) s))
found_or_rows s client given call area kind None refusal is kept refused = rows_kept s client call _ refl refused
found_or_rows s client given call area kind (Some entry) refusal is kept refused = found_rows s client given call area kind entry is (λ number row. kept number row entry)

-- a cursor that moves on, or a refusal
moved_rows : (s : State) (client given cursor : ℕ) (call : Call) (area : Area) (found : Option LogEntry) → area_of s client given ≡ Some area
    → ((number : ℕ) (row : Option AreaRow) (entry : LogEntry) → row_after number row call (replies.Next entry) ≡ row)
    → ((number : ℕ) (row : Option AreaRow) → row_after number row call (replies.Refused refusals.NoSuchCursor) ≡ row)
    → ChangesRows s client call (option_map_or
    (λ (entry : LogEntry). outcome (replies.Next entry) (change_area (with_cursor_at cursor entry.lsn) area.client area.number s)) found (outcome (replies.Refused refusals.NoSuchCursor) s))
moved_rows s client given cursor call area None is kept refused = rows_kept s client call _ refl refused
moved_rows s client given cursor call area (Some entry) is kept refused =
    cursor_changed s client given call _ (with_cursor_at cursor entry.lsn)
    (cursors_change (with_cursor_at cursor entry.lsn) (λ a. refl) (λ a. refl) (λ a. refl)) (named_change s client given area (with_cursor_at cursor entry.lsn) is)
    (λ number row. kept number row entry)

-- a reply that tells what the area holds, and a change that makes it so
held_told : (s : State) (client given now fewer more : ℕ) (area : Area) (other : ℕ) → area_of s client given ≡ Some area → now ≡ area.held - fewer + more
    → changed_where (given == other) (with_held now) (row_among s.areas client other) ≡ changed_where (given == other) (with_changed_held fewer more) (row_among s.areas client other)
held_told s client given now fewer more area other is tells = elim (cases_Bool (given == other)) [
  | inl same ↦
      let of : given ≡ other = eqb-true given other same in
      let F : ℕ → Type 0 = λ n. option_map (with_held now) (row_among s.areas client n) ≡ option_map (with_changed_held fewer more) (row_among s.areas client n) in
      let here : F given = ap (λ (found : Option Area). option_map (with_held now) (option_map row_of found)) is
      ∙ ap (λ h. Some (with_held h (row_of area))) tells ∙ sym (ap (λ (found : Option Area). option_map (with_changed_held fewer more) (option_map row_of found)) is) in
      rw same (subst F of here)
  | inr differ ↦ rw differ refl
]

-- areas that spend and hold more, after a log that has grown
grown_spent : (s t : State) (client given : ℕ) (area : Area) (is_reserved : Bool) (n : ℕ) (sizes : List ℕ) → area_of s client given ≡ Some area → t.areas ≡ s.areas
    → (hold_sizes area sizes (spend_if is_reserved area n t)).areas ≡ change_first (is_area client given) (with_spent is_reserved n sizes) s.areas
grown_spent s t client given area is_reserved n sizes is same =
    spent_areas area is_reserved n sizes t
    ∙ ap (λ (areas : List Area). change_first (is_area area.client area.number) (with_spent is_reserved n sizes) areas) same
    ∙ named_change s client given area (with_spent is_reserved n sizes) is

-- a base that moves leaves the areas
rebased_areas : (stream base : ℕ) (s : State) → (rebased stream base s).areas ≡ s.areas
rebased_areas stream base s = elim (cases_Bool (base == 0)) [ inl none ↦ rw none refl | inr some ↦ rw some refl ]

-- an area that gives up sectors
less_changes : (sectors : ℕ) → Changes (with_less_held sectors) (with_changed_held sectors 0)
less_changes sectors = record {
  name = record { client = λ area. refl; number = λ area. refl };
  row = λ area. ap (λ h. record (row_of area) { held = h }) (less_and_none area.held sectors);
}
  where
    less_and_none : (held sectors : ℕ) → held - sectors ≡ held - sectors + 0
    less_and_none held sectors = omega arith

-- the areas after an append
appended_areas : (s : State) (client given : ℕ) (area : Area) (draft : Draft) (is_reserved : Bool) (sizes : List ℕ) → area_of s client given ≡ Some area
    → (appended s area draft is_reserved sizes).areas ≡ change_first (is_area client given) (with_spent is_reserved (length draft.bytes) sizes) s.areas
appended_areas s client given area draft is_reserved sizes is =
    let n = length draft.bytes in
    let joined = put (grown s (need_of is_reserved n sizes)) (plain_record area draft) in
    let held = hold_sizes area sizes (spend_if is_reserved area n joined) in
    flush_if_areas draft.flush (seal_if draft.seal held) ∙ seal_if_areas draft.seal held
    ∙ grown_spent s joined client given area is_reserved n sizes is (joined_areas s (need_of is_reserved n sizes) (plain_record area draft))

-- the areas after a restart area
restarted_areas : (s : State) (client given : ℕ) (area : Area) (bytes : List ℕ) (base : ℕ) (is_reserved : Bool) → area_of s client given ≡ Some area
    → (restarted s area bytes base is_reserved).areas ≡ change_first (is_area client given) (with_spent is_reserved (length bytes) []) s.areas
restarted_areas s client given area bytes base is_reserved is =
    let n = length bytes in
    let joined = put (grown s (need_of is_reserved n [])) (restart_record s area bytes base) in
    let spent = spend_if is_reserved area n joined in
    rebased_areas area.stream base (flush spent) ∙ seal_areas spent
    ∙ grown_spent s joined client given area is_reserved n [] is (joined_areas s (need_of is_reserved n []) (restart_record s area bytes base))

-- whatever the call, where it isn't refused
pub answer_rows : (s : State) (client : ℕ) (call : Call) → refusal s client call ≡ None → ChangesRows s client call (answer s client call)
answer_rows s client (calls.OpenStream name) none = opened_rows s client name (stream_number s name)
answer_rows s client (calls.CreateArea stream largest reads) none =
    let area = new_area s client stream largest reads in
    let unused = not_there client area.number s.areas (unused_is_new area_number_of (areas_of s client)) in
    created_rows s client (calls.CreateArea stream largest reads) area _ refl unused refl (λ number row. refl)
answer_rows s client (calls.DeleteArea given) none = deleted_rows s client given
answer_rows s client (calls.Reserve given sizes) none = in_the_area s client given (calls.Reserve given sizes) _ (area_of s client given) refl (λ number row. refl)
    (λ (area : Area) is. row_changed s client given (calls.Reserve given sizes) _ (with_spent false 0 sizes) (with_changed_held 0 (own_sum sizes))
    (spent_changes false 0 sizes) (grown_spent s (grown s (own_sum sizes)) client given area false 0 sizes is (grown_areas s (own_sum sizes)))
    (λ other. held_told s client given (area.held + own_sum sizes) 0 (own_sum sizes) area other is (omega arith)))
answer_rows s client (calls.Release given sectors) none = in_the_area s client given (calls.Release given sectors) _ (area_of s client given) refl (λ number row. refl)
    (λ (area : Area) is. row_changed s client given (calls.Release given sectors) _ (with_less_held sectors) (with_changed_held sectors 0)
    (less_changes sectors) (named_change s client given area (with_less_held sectors) is)
    (λ other. held_told s client given (area.held - sectors) sectors 0 area other is (omega arith)))
answer_rows s client (calls.Align given sizes) none = rows_kept s client (calls.Align given sizes) _ refl (λ number row. refl)
answer_rows s client (calls.Append given draft is_reserved sizes) none =
    in_the_area s client given (calls.Append given draft is_reserved sizes) _ (area_of s client given) refl (λ number row. refl)
    (λ (area : Area) is. row_changed s client given (calls.Append given draft is_reserved sizes) _ (with_spent is_reserved (length draft.bytes) sizes)
    (with_changed_held (spent_of is_reserved (length draft.bytes)) (own_sum sizes)) (spent_changes is_reserved (length draft.bytes) sizes)
    (appended_areas s client given area draft is_reserved sizes is) (λ other. refl))
answer_rows s client (calls.Flush given) none = rows_kept s client (calls.Flush given) _ (seal_areas s) (λ number row. refl)
answer_rows s client (calls.FlushTo given lsn) none = rows_kept s client (calls.FlushTo given lsn) _ (flushed_to_areas s lsn) (λ number row. refl)
answer_rows s client (calls.Read given lsn mode) none = in_the_area s client given (calls.Read given lsn mode) _ (area_of s client given) refl (λ number row. refl)
    (λ (area : Area) is. found_or_rows s client given (calls.Read given lsn mode) area (Records mode) (live_at s area.stream lsn) (refusals.RecordNonexistent lsn) is
    (λ number row entry. refl) (λ number row. refl))
answer_rows s client (calls.ReadNext given cursor) none = in_the_area s client given (calls.ReadNext given cursor) _ (area_of s client given) refl (λ number row. refl)
    (λ (area : Area) is. moved_rows s client given cursor (calls.ReadNext given cursor) area (option_and_then (next_of_cursor s area) (record_cursor area cursor)) is
    (λ number row entry. refl) (λ number row. refl))
answer_rows s client (calls.EndRead given cursor) none =
    cursor_changed s client given (calls.EndRead given cursor) _ (without_cursor cursor)
    (cursors_change (without_cursor cursor) (λ a. refl) (λ a. refl) (λ a. refl)) refl (λ number row. refl)
answer_rows s client (calls.WriteRestart given bytes base is_reserved) none =
    in_the_area s client given (calls.WriteRestart given bytes base is_reserved) _ (area_of s client given) refl (λ number row. refl)
    (λ (area : Area) is. row_changed s client given (calls.WriteRestart given bytes base is_reserved) _ (with_spent is_reserved (length bytes) [])
    (with_changed_held (spent_of is_reserved (length bytes)) 0) (spent_changes is_reserved (length bytes) [])
    (restarted_areas s client given area bytes base is_reserved is) (λ other. refl))
answer_rows s client (calls.ReadRestart given) none = in_the_area s client given (calls.ReadRestart given) _ (area_of s client given) refl (λ number row. refl)
    (λ (area : Area) is. found_or_rows s client given (calls.ReadRestart given) area RestartAreas (newest_restart s area.stream) refusals.NoRestart is
    (λ number row entry. refl) (λ number row. refl))
answer_rows s client (calls.PreviousRestart given cursor) none =
    in_the_area s client given (calls.PreviousRestart given cursor) _ (area_of s client given) refl (λ number row. refl)
    (λ (area : Area) is. moved_rows s client given cursor (calls.PreviousRestart given cursor) area (option_and_then (next_of_cursor s area) (restart_cursor area cursor)) is
    (λ number row entry. refl) (λ number row. refl))
answer_rows s client (calls.Advance given lsn) none = in_the_area s client given (calls.Advance given lsn) _ (area_of s client given) refl (λ number row. refl)
    (λ (area : Area) is. rows_kept s client (calls.Advance given lsn) _ (seal_areas s) (λ number row. refl))
answer_rows s client (calls.SetArchive on) none = rows_kept s client (calls.SetArchive on) _ (archiving_areas s on) (λ number row. refl)
answer_rows s client (calls.SetArchiveTail lsn) none = rows_kept s client (calls.SetArchiveTail lsn) _ refl (λ number row. refl)
answer_rows s client calls.ListExtents none = rows_kept s client calls.ListExtents _ refl (λ number row. refl)
answer_rows s client (calls.InstallPolicy policy) none = rows_kept s client (calls.InstallPolicy policy) _ (policy_areas s policy) (λ number row. refl)
answer_rows s client (calls.RemovePolicy kind) none = rows_kept s client (calls.RemovePolicy kind) _ (no_policy_areas s kind) (λ number row. refl)
answer_rows s client (calls.SetSize containers) none = rows_kept s client (calls.SetSize containers) _ refl (λ number row. refl)
answer_rows s client (calls.Info stream) none = rows_kept s client (calls.Info stream) _ refl (λ number row. refl)
