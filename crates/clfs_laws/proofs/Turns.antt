-- A step goes on to the next container at most, and only from one that has a block.
use Rattle.clfs_laws.proofs.Words.{◌≡◌, ℕ, ◌+◌, ◌-◌, ◌<◌, ◌≤◌, Bool, true, false, refl, sym, ap, ◌∙◌, subst, inl, inr, ◌⊎◌, arith, List, [], ◌∷◌, length}
use Rattle.clfs_laws.proofs.Words.{Option, Some, None, nat_lt, ◌==◌, cases_Bool, nat_tests, null_lsn, IsShape, own, longest, block_end, joins, begins_here}
use Rattle.clfs_laws.proofs.Words.{Place, LogEntry, Policy, PolicyKind, Call, Draft, Happened, Reply, State, Area, Cursor, area_of, live_at, own_sum, grown}
use Rattle.clfs_laws.proofs.Words.{flushed, seal, flush, next_lsn, put, need_of, spend_if, hold_sizes, seal_if, flush_if, plain_record, appended, with_policy}
use Rattle.clfs_laws.proofs.Words.{without_policy, newest_restart, record_cursor, restart_cursor, refusal, in_area, stream_number, append_refusal}
use Rattle.clfs_laws.proofs.Words.{restart_refusal, Outcome, outcome, answer, over_area, moved_on, archiving, advanced, restart_record, restarted, rebased}
use Rattle.clfs_laws.proofs.Words.{flushed_to, Step, with_broken, IsValid}
use Rattle.clfs_lsn.specs.declared.policy.Policy.TheVariants as policies
use Rattle.clfs_lsn.specs.declared.policy.PolicyKind.TheVariants as kinds
use Rattle.clfs_model.specs.declared.call.Call.TheVariants as calls
use Rattle.clfs_model.specs.declared.reply.Reply.TheVariants as replies
use Rattle.clfs_laws.proofs.OwnSectors.{own_fits}
use Rattle.clfs_laws.proofs.OutcomeCases.{of_option, of_area, of_cursor}
use Rattle.clfs_laws.proofs.StepLeads.{step_leads}
use Rattle.clfs_laws.proofs.StorableBlocks.{seal_shape, seal_dedicated, put_shape, put_dedicated}
use Rattle.clfs_laws.proofs.StorableSteps.{in_each}
use Rattle.clfs_laws.proofs.ValidAppends as of_appends
use Rattle.clfs_laws.proofs.ValidAreaCalls.{its_area}
use Rattle.clfs_laws.proofs.ValidPuts.{after_by}
use Rattle.clfs_laws.proofs.ValidRestarts as of_restarts
use Rattle.clfs_laws.proofs.ValidSettings.{grown_is}
use Rattle.clfs_laws.proofs.ValidSteps.{two_of}

-- the shape stays, and whether the log is dedicated, and the container, or the next one follows one with a block
pub record IsTurn (s t : State) : Type 0 where
  pub shape : t.shape ≡ s.shape
  pub dedicated : t.dedicated ≡ s.dedicated
  pub container : (t.place.container ≡ s.place.container) ⊎ ((t.place.container ≡ s.place.container + 1) × (1 ≤ block_end s.place))

pub stays : (s t : State) → t.shape ≡ s.shape → t.dedicated ≡ s.dedicated → t.place.container ≡ s.place.container → IsTurn s t
stays s t shape dedicated container = record { shape = shape; dedicated = dedicated; container = inl container }

-- before and after changes that leave the place, or its container
turn_before : (s g t : State) → g.shape ≡ s.shape → g.dedicated ≡ s.dedicated → g.place ≡ s.place → IsTurn g t → IsTurn s t
turn_before s g t shape dedicated place turn =
    let F : Place → Type 0 = λ p. (t.place.container ≡ p.container) ⊎ ((t.place.container ≡ p.container + 1) × (1 ≤ block_end p)) in
    record { shape = turn.shape ∙ shape; dedicated = turn.dedicated ∙ dedicated; container = subst F place turn.container }

turn_behind : (s t u : State) → u.shape ≡ t.shape → u.dedicated ≡ t.dedicated → u.place.container ≡ t.place.container → IsTurn s t → IsTurn s u
turn_behind s t u shape dedicated container turn =
    let F : ℕ → Type 0 = λ c. (c ≡ s.place.container) ⊎ ((c ≡ s.place.container + 1) × (1 ≤ block_end s.place)) in
    record { shape = shape ∙ turn.shape; dedicated = dedicated ∙ turn.dedicated; container = subst F (sym container) turn.container }

pub seal_container : (s : State) → (seal s).place.container ≡ s.place.container
seal_container s = elim (cases_Bool (nat_lt 0 s.place.records)) [ inl some ↦ rw some refl | inr none ↦ rw none refl ]

pub turn_seal_if : (s t : State) (asked : Bool) → IsTurn s t → IsTurn s (seal_if asked t)
turn_seal_if s t true turn = turn_behind s t (seal t) (seal_shape t) (seal_dedicated t) (seal_container t) turn
turn_seal_if s t false turn = turn

turn_flush : (s t : State) → IsTurn s t → IsTurn s (flush t)
turn_flush s t turn = turn_behind s t (flush t) (seal_shape t) (seal_dedicated t) (seal_container t) turn

turn_flush_if : (s t : State) (asked : Bool) → IsTurn s t → IsTurn s (flush_if asked t)
turn_flush_if s t true turn = turn_flush s t turn
turn_flush_if s t false turn = turn

turn_spend : (s t : State) (is_reserved : Bool) (area : Area) (n : ℕ) → IsTurn s t → IsTurn s (spend_if is_reserved area n t)
turn_spend s t false area n turn = turn
turn_spend s t true area n turn = turn_behind s t (spend_if true area n t) refl refl refl turn

pub turn_hold : (s t : State) (area : Area) (sizes : List ℕ) → IsTurn s t → IsTurn s (hold_sizes area sizes t)
turn_hold s t area [] turn = turn
turn_hold s t area (size ∷ sizes) turn = turn_behind s t (hold_sizes area (size ∷ sizes) t) refl refl refl turn

turn_rebased : (s t : State) (stream base : ℕ) → IsTurn s t → IsTurn s (rebased stream base t)
turn_rebased s t stream base turn = elim (cases_Bool (base == null_lsn)) [
  | inl none ↦ rw none turn
  | inr some ↦ rw some (turn_behind s t _ refl refl refl turn)
]

turn_grown : (s : State) (need : ℕ) → IsTurn s (grown s need)
turn_grown s need = stays s (grown s need) (ap (λ (x : State). x.shape) (grown_is s need)) (ap (λ (x : State). x.dedicated) (grown_is s need)) (ap (λ (x : State). x.place.container) (grown_is s need))

-- by how the record is placed
pub turn_by : (s : State) (n : ℕ) (joining beginning : Bool) → begins_here s.shape s.place n ≡ beginning → IsShape s.shape → n ≤ longest s.shape
    → ((after_by joining beginning s.place n).1.container ≡ s.place.container)
    ⊎ (((after_by joining beginning s.place n).1.container ≡ s.place.container + 1) × (1 ≤ block_end s.place))
turn_by s n true beginning fits is short = inl refl
turn_by s n false true fits is short = inl refl
turn_by s n false false fits is short =
    let long = own_fits s.shape.block_sectors n is.some_sectors short in
    let left : s.shape.container_sectors - block_end s.place < own n = grind (arith, nat_tests, fits) in
    inr (refl, omega (arith, long, left, is.two_blocks, is.some_sectors))

-- a record that is put
pub turn_put : (s : State) (entry : LogEntry) → IsShape s.shape → length entry.bytes ≤ longest s.shape → IsTurn s (put s entry)
turn_put s entry is short = record {
  shape = put_shape s entry;
  dedicated = put_dedicated s entry;
  container = turn_by s (length entry.bytes) (joins s.shape s.place (length entry.bytes)) (begins_here s.shape s.place (length entry.bytes)) refl is short;
}

-- the same after growth
turn_joined : (s : State) (need : ℕ) (entry : LogEntry) → IsShape s.shape → length entry.bytes ≤ longest s.shape → IsTurn s (put (grown s need) entry)
turn_joined s need entry is short =
    let F : State → Type 0 = λ x. IsShape x.shape in
    let G : State → Type 0 = λ x. length entry.bytes ≤ longest x.shape in
    turn_before s (grown s need) (put (grown s need) entry) (ap (λ (x : State). x.shape) (grown_is s need)) (ap (λ (x : State). x.dedicated) (grown_is s need))
    (ap (λ (x : State). x.place) (grown_is s need))
    (turn_put (grown s need) entry (subst F (sym (grown_is s need)) is) (subst G (sym (grown_is s need)) short))

turn_appended : (s : State) (client number : ℕ) (area : Area) (draft : Draft) (is_reserved : Bool) (sizes : List ℕ) → IsValid s
    → area_of s client number ≡ Some area
    → append_refusal s area draft is_reserved sizes ≡ None → IsTurn s (appended s area draft is_reserved sizes)
turn_appended s client number area draft is_reserved sizes valid there none =
    let n = length draft.bytes in
    let short = (of_appends.allowed s area draft is_reserved sizes none).short in
    let fits = (its_area s client number area there valid).largest in
    turn_flush_if s _ draft.flush (turn_seal_if s _ draft.seal (turn_hold s _ area sizes (turn_spend s _ is_reserved area n
    (turn_joined s (need_of is_reserved n sizes) (plain_record area draft) valid.ranges.shape (omega (arith, short, fits))))))

turn_restarted : (s : State) (client number : ℕ) (area : Area) (bytes : List ℕ) (base : ℕ) (is_reserved : Bool) → IsValid s
    → area_of s client number ≡ Some area
    → restart_refusal s area bytes base is_reserved ≡ None → IsTurn s (restarted s area bytes base is_reserved)
turn_restarted s client number area bytes base is_reserved valid there none =
    let n = length bytes in
    let short = (of_restarts.allowed s area bytes base is_reserved none).short in
    let fits = (its_area s client number area there valid).largest in
    turn_rebased s _ area.stream base (turn_flush s _ (turn_spend s _ is_reserved area n
    (turn_joined s (need_of is_reserved n []) (restart_record s area bytes base) valid.ranges.shape (omega (arith, short, fits)))))

-- a state that stays as it is
itself : (s : State) → IsTurn s s
itself s = stays s s refl refl refl

-- an outcome of a call that makes such a turn
abbrev TurnsIn : State → Outcome → Type 0
TurnsIn s o = IsTurn s o.state

-- over an area, which may be missing
over : (s : State) (client number : ℕ) (f : Area → Outcome) → ((area : Area) → IsTurn s (f area).state) → IsTurn s (over_area s client number f).state
over s client number f each = of_area (TurnsIn s) s client number f each (itself s)

-- over a cursor, which may be missing or at its end
moved : (s : State) (area : Area) (number : ℕ) (found : Option Cursor) → IsTurn s (moved_on s area number found).state
moved s area number found = of_cursor (TurnsIn s) s area number found (λ (entry : LogEntry). stays s _ refl refl refl) (itself s)

turn_flushed_to : (s : State) (lsn : ℕ) → IsTurn s (flushed_to s lsn)
turn_flushed_to s lsn = elim (cases_Bool (nat_lt lsn (flushed s))) [
  | inl below ↦ rw below (itself s)
  | inr above ↦ rw above (turn_flush s s (itself s))
]

turn_installed : (s : State) (policy : Policy) → IsTurn s (with_policy s policy)
turn_installed s (policies.Maximum value) = stays s _ refl refl refl
turn_installed s (policies.Minimum value) = stays s _ refl refl refl
turn_installed s (policies.Growth value) = stays s _ refl refl refl
turn_installed s policies.Automatic = stays s _ refl refl refl

turn_removed : (s : State) (kind : PolicyKind) → IsTurn s (without_policy s kind)
turn_removed s kinds.Maximum = stays s _ refl refl refl
turn_removed s kinds.Minimum = stays s _ refl refl refl
turn_removed s kinds.Growth = stays s _ refl refl refl
turn_removed s kinds.Automatic = stays s _ refl refl refl

turn_archiving : (s : State) (on : Bool) → IsTurn s (archiving s on)
turn_archiving s true = stays s _ refl refl refl
turn_archiving s false = stays s _ refl refl refl

-- what a call that isn't refused leaves
turn_answer : (s : State) (client : ℕ) (call : Call) → refusal s client call ≡ None → IsValid s → IsTurn s (answer s client call).state
turn_answer s client (calls.OpenStream name) none valid = of_option (TurnsIn s) (stream_number s name) _ _ (λ (number : ℕ). itself s) (stays s _ refl refl refl)
turn_answer s client (calls.CreateArea stream largest reads) none valid = stays s _ refl refl refl
turn_answer s client (calls.DeleteArea number) none valid = stays s _ refl refl refl
turn_answer s client (calls.Reserve number sizes) none valid =
    over s client number _ (λ (area : Area). turn_hold s (grown s (own_sum sizes)) area sizes (turn_grown s (own_sum sizes)))
turn_answer s client (calls.Release number sectors) none valid = over s client number _ (λ (area : Area). stays s _ refl refl refl)
turn_answer s client (calls.Align number sizes) none valid = itself s
turn_answer s client (calls.Append number draft is_reserved sizes) none valid =
    let two = two_of s (in_area s client number (λ (area : Area). append_refusal s area draft is_reserved sizes)) none in
    in_each (IsTurn s) s client number (λ area. append_refusal s area draft is_reserved sizes)
    (λ area. outcome (replies.Placed (next_lsn s (length draft.bytes))) (appended s area draft is_reserved sizes)) (area_of s client number) refl two.1
    (λ area there passes. turn_appended s client number area draft is_reserved sizes valid there passes)
turn_answer s client (calls.Flush number) none valid = turn_flush s s (itself s)
turn_answer s client (calls.FlushTo number lsn) none valid = turn_flushed_to s lsn
turn_answer s client (calls.Read number lsn mode) none valid = over s client number _ (λ (area : Area).
    of_option (TurnsIn s) (live_at s area.stream lsn) _ _ (λ (entry : LogEntry). stays s _ refl refl refl) (itself s))
turn_answer s client (calls.ReadNext number cursor) none valid = over s client number _ (λ (area : Area). moved s area cursor (record_cursor area cursor))
turn_answer s client (calls.EndRead number cursor) none valid = stays s _ refl refl refl
turn_answer s client (calls.WriteRestart number bytes base is_reserved) none valid =
    let two = two_of s (in_area s client number (λ (area : Area). restart_refusal s area bytes base is_reserved)) none in
    in_each (IsTurn s) s client number (λ area. restart_refusal s area bytes base is_reserved)
    (λ area. outcome (replies.Placed (next_lsn s (length bytes))) (restarted s area bytes base is_reserved)) (area_of s client number) refl two.1
    (λ area there passes. turn_restarted s client number area bytes base is_reserved valid there passes)
turn_answer s client (calls.ReadRestart number) none valid = over s client number _ (λ (area : Area).
    of_option (TurnsIn s) (newest_restart s area.stream) _ _ (λ (entry : LogEntry). stays s _ refl refl refl) (itself s))
turn_answer s client (calls.PreviousRestart number cursor) none valid =
    over s client number _ (λ (area : Area). moved s area cursor (restart_cursor area cursor))
turn_answer s client (calls.Advance number lsn) none valid = over s client number _ (λ (area : Area).
    turn_behind s (flush s) (advanced s area.stream lsn) refl refl refl (turn_flush s s (itself s)))
turn_answer s client (calls.SetArchive on) none valid = turn_archiving s on
turn_answer s client (calls.SetArchiveTail lsn) none valid = stays s _ refl refl refl
turn_answer s client calls.ListExtents none valid = itself s
turn_answer s client (calls.InstallPolicy policy) none valid = turn_installed s policy
turn_answer s client (calls.RemovePolicy kind) none valid = turn_removed s kind
turn_answer s client (calls.SetSize containers) none valid = stays s _ refl refl refl
turn_answer s client (calls.Info stream) none valid = itself s

-- what every step leaves
pub turn_step : (told : Bool) (s : State) (client : ℕ) (call : Call) (happened : Happened) (reply : Reply) (t : State)
    → IsValid s → Step told s client call happened reply t → IsTurn s t
turn_step told s client call happened reply t valid step =
    step_leads (IsTurn s) told s client call happened reply t step (record {
      same = itself s;
      broken = stays s (with_broken s) refl refl refl;
      answered = λ none. turn_answer s client call none valid;
    })
