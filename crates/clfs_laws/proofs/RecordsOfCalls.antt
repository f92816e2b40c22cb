-- A call adds records only after all others, at the LSN that is next.
use Rattle.clfs_laws.proofs.Words.{◌≡◌, ℕ, Bool, true, false, refl, sym, ap, ◌∙◌, inl, inr, List, [], ◌∷◌, ◌++◌, length, Option, nat_lt, ◌==◌, AllByRecursion}
use Rattle.clfs_laws.proofs.Words.{cases_Bool, append-nil, LogEntry, Policy, PolicyKind, Call, Draft, Happened, Reply, State, Area, Cursor, live_at, grown}
use Rattle.clfs_laws.proofs.Words.{seal, flush, flushed, next_lsn, put, need_of, spend_if, hold_sizes, seal_if, flush_if, plain_record, appended}
use Rattle.clfs_laws.proofs.Words.{newest_restart, record_cursor, restart_cursor, with_policy, without_policy, stream_number, Outcome, answer, over_area}
use Rattle.clfs_laws.proofs.Words.{moved_on, restart_record, restarted, rebased, archiving, flushed_to, Step, with_broken}
use Rattle.clfs_lsn.specs.declared.policy.Policy.TheVariants as policies
use Rattle.clfs_lsn.specs.declared.policy.PolicyKind.TheVariants as kinds
use Rattle.clfs_model.specs.declared.call.Call.TheVariants as calls
use Rattle.clfs_laws.proofs.OutcomeCases.{of_option, of_area, of_cursor}
use Rattle.clfs_laws.proofs.StepLeads.{step_leads}
use Rattle.clfs_laws.proofs.ValidSettings.{grown_is}

-- the records of one state and then some more, each at the next LSN of a record of some length
pub record Adds (s t : State) : Type 0 where
  pub more : List LogEntry
  pub joined : t.records ≡ s.records ++ more
  pub placed : AllByRecursion (λ (entry : LogEntry). (n : ℕ) × (entry.lsn ≡ next_lsn s n)) more

pub adds_none : (s t : State) → t.records ≡ s.records → Adds s t
adds_none s t same = record { more = []; joined = same ∙ sym (append-nil s.records); placed = tt }

pub adds_one : (s t : State) (entry : LogEntry) (n : ℕ) → t.records ≡ s.records ++ entry ∷ [] → entry.lsn ≡ next_lsn s n → Adds s t
adds_one s t entry n same at = record { more = entry ∷ []; joined = same; placed = ((n, at), tt) }

-- sealing and flushing leave the records, and so do changes of areas
pub seal_records : (s : State) → (seal s).records ≡ s.records
seal_records s = elim (cases_Bool (nat_lt 0 s.place.records)) [ inl some ↦ rw some refl | inr none ↦ rw none refl ]

pub seal_if_records : (asked : Bool) (s : State) → (seal_if asked s).records ≡ s.records
seal_if_records true s = seal_records s
seal_if_records false s = refl

pub flush_if_records : (asked : Bool) (s : State) → (flush_if asked s).records ≡ s.records
flush_if_records true s = seal_records s
flush_if_records false s = refl

pub flushed_to_records : (s : State) (lsn : ℕ) → (flushed_to s lsn).records ≡ s.records
flushed_to_records s lsn = elim (cases_Bool (nat_lt lsn (flushed s))) [ inl below ↦ rw below refl | inr above ↦ rw above (seal_records s) ]

pub spend_records : (area : Area) (is_reserved : Bool) (n : ℕ) (sizes : List ℕ) (s : State)
    → (hold_sizes area sizes (spend_if is_reserved area n s)).records ≡ s.records
spend_records area false n [] s = refl
spend_records area true n [] s = refl
spend_records area false n (size ∷ sizes) s = refl
spend_records area true n (size ∷ sizes) s = refl

-- a record that has joined, at the next LSN
abbrev pub placed_record : State → LogEntry → LogEntry
placed_record s entry = record entry { lsn = next_lsn s (length entry.bytes) }

put_records : (s : State) (need : ℕ) (entry : LogEntry) → (put (grown s need) entry).records ≡ s.records ++ placed_record s entry ∷ []
put_records s need entry = ap (λ (g : State). (put g entry).records) (grown_is s need)

pub appended_records : (s : State) (area : Area) (draft : Draft) (is_reserved : Bool) (sizes : List ℕ)
    → (appended s area draft is_reserved sizes).records ≡ s.records ++ placed_record s (plain_record area draft) ∷ []
appended_records s area draft is_reserved sizes =
    let n = length draft.bytes in
    let joined = put (grown s (need_of is_reserved n sizes)) (plain_record area draft) in
    let held = hold_sizes area sizes (spend_if is_reserved area n joined) in
    flush_if_records draft.flush (seal_if draft.seal held) ∙ seal_if_records draft.seal held ∙ spend_records area is_reserved n sizes joined
    ∙ put_records s (need_of is_reserved n sizes) (plain_record area draft)

pub rebased_records : (stream base : ℕ) (s : State) → (rebased stream base s).records ≡ s.records
rebased_records stream base s = elim (cases_Bool (base == 0)) [ inl none ↦ rw none refl | inr some ↦ rw some refl ]

pub restarted_records : (s : State) (area : Area) (bytes : List ℕ) (base : ℕ) (is_reserved : Bool)
    → (restarted s area bytes base is_reserved).records ≡ s.records ++ placed_record s (restart_record s area bytes base) ∷ []
restarted_records s area bytes base is_reserved =
    let n = length bytes in
    let joined = put (grown s (need_of is_reserved n [])) (restart_record s area bytes base) in
    let spent = spend_if is_reserved area n joined in
    rebased_records area.stream base (flush spent) ∙ seal_records spent ∙ spend_records area is_reserved n [] joined
    ∙ put_records s (need_of is_reserved n []) (restart_record s area bytes base)

pub policy_records : (s : State) (policy : Policy) → (with_policy s policy).records ≡ s.records
policy_records s (policies.Maximum value) = refl
policy_records s (policies.Minimum value) = refl
policy_records s (policies.Growth value) = refl
policy_records s policies.Automatic = refl

pub no_policy_records : (s : State) (kind : PolicyKind) → (without_policy s kind).records ≡ s.records
no_policy_records s kinds.Maximum = refl
no_policy_records s kinds.Minimum = refl
no_policy_records s kinds.Growth = refl
no_policy_records s kinds.Automatic = refl

pub archiving_records : (s : State) (on : Bool) → (archiving s on).records ≡ s.records
archiving_records s true = refl
archiving_records s false = refl

-- an outcome that adds records to a state
abbrev AddsTo : State → Outcome → Type 0
AddsTo s o = Adds s o.state

over : (s : State) (client number : ℕ) (f : Area → Outcome) → ((area : Area) → Adds s (f area).state) → Adds s (over_area s client number f).state
over s client number f each = of_area (AddsTo s) s client number f each (adds_none s s refl)

moved : (s : State) (area : Area) (number : ℕ) (found : Option Cursor) → Adds s (moved_on s area number found).state
moved s area number found = of_cursor (AddsTo s) s area number found (λ (entry : LogEntry). adds_none s _ refl) (adds_none s s refl)

-- whatever the call
answer_adds : (s : State) (client : ℕ) (call : Call) → Adds s (answer s client call).state
answer_adds s client (calls.OpenStream name) = of_option (AddsTo s) (stream_number s name) _ _ (λ (number : ℕ). adds_none s s refl) (adds_none s _ refl)
answer_adds s client (calls.CreateArea stream largest reads) = adds_none s _ refl
answer_adds s client (calls.DeleteArea number) = adds_none s _ refl
answer_adds s client (calls.Reserve number sizes) = over s client number _ (λ (area : Area).
    adds_none s _ (spend_records area false 0 sizes (grown s _) ∙ ap (λ (g : State). g.records) (grown_is s _)))
answer_adds s client (calls.Release number sectors) = over s client number _ (λ (area : Area). adds_none s _ refl)
answer_adds s client (calls.Align number sizes) = adds_none s s refl
answer_adds s client (calls.Append number draft is_reserved sizes) = over s client number _ (λ (area : Area).
    adds_one s _ (placed_record s (plain_record area draft)) (length draft.bytes) (appended_records s area draft is_reserved sizes) refl)
answer_adds s client (calls.Flush number) = adds_none s _ (seal_records s)
answer_adds s client (calls.FlushTo number lsn) = adds_none s _ (flushed_to_records s lsn)
answer_adds s client (calls.Read number lsn mode) = over s client number _ (λ (area : Area).
    of_option (AddsTo s) (live_at s area.stream lsn) _ _ (λ (entry : LogEntry). adds_none s _ refl) (adds_none s s refl))
answer_adds s client (calls.ReadNext number cursor) = over s client number _ (λ (area : Area). moved s area cursor (record_cursor area cursor))
answer_adds s client (calls.EndRead number cursor) = adds_none s _ refl
answer_adds s client (calls.WriteRestart number bytes base is_reserved) = over s client number _ (λ (area : Area).
    adds_one s _ (placed_record s (restart_record s area bytes base)) (length bytes) (restarted_records s area bytes base is_reserved) refl)
answer_adds s client (calls.ReadRestart number) = over s client number _ (λ (area : Area).
    of_option (AddsTo s) (newest_restart s area.stream) _ _ (λ (entry : LogEntry). adds_none s _ refl) (adds_none s s refl))
answer_adds s client (calls.PreviousRestart number cursor) = over s client number _ (λ (area : Area). moved s area cursor (restart_cursor area cursor))
answer_adds s client (calls.Advance number lsn) = over s client number _ (λ (area : Area). adds_none s _ (seal_records s))
answer_adds s client (calls.SetArchive on) = adds_none s _ (archiving_records s on)
answer_adds s client (calls.SetArchiveTail lsn) = adds_none s _ refl
answer_adds s client calls.ListExtents = adds_none s s refl
answer_adds s client (calls.InstallPolicy policy) = adds_none s _ (policy_records s policy)
answer_adds s client (calls.RemovePolicy kind) = adds_none s _ (no_policy_records s kind)
answer_adds s client (calls.SetSize containers) = adds_none s _ refl
answer_adds s client (calls.Info stream) = adds_none s s refl

-- whatever the step
pub step_adds : (told : Bool) (s : State) (client : ℕ) (call : Call) (happened : Happened) (reply : Reply) (t : State)
    → Step told s client call happened reply t → Adds s t
step_adds told s client call happened reply t step = step_leads (Adds s) told s client call happened reply t step (record {
  same = adds_none s s refl;
  broken = adds_none s (with_broken s) refl;
  answered = λ passes. answer_adds s client call;
})
