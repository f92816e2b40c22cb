-- A call that doesn't call the disk leaves what is on the disk as it was.
use Rattle.clfs_laws.proofs.Words.{◌≡◌, ℕ, ◌+◌, ◌*◌, ◌<◌, ◌≤◌, Bool, true, false, refl, sym, ap, ◌∙◌, inl, inr, arith, List, [], ◌∷◌, ◌++◌, length, Option}
use Rattle.clfs_laws.proofs.Words.{Some, None, if◌then◌else◌, filter, nat_lt, nat_le, not, ◌&&◌, ◌||◌, ◌==◌, is_none, is_some, option_map_or, cases_Bool}
use Rattle.clfs_laws.proofs.Words.{eqb-true, lt-ltb, ltb-false, leb-false, le-leb, append-nil, filter-append, lsn_number, container_of, offset_of, joins}
use Rattle.clfs_laws.proofs.Words.{begins_here, block_end, place_after, LogEntry, Place, Call, Draft, Happened, Reply, State, Area, area_of, own_sum, grown}
use Rattle.clfs_laws.proofs.Words.{with_containers, block_start, first_or, flushed, seal, flush, cut, need_of, made_ready, next_lsn, put, spend_if}
use Rattle.clfs_laws.proofs.Words.{hold_sizes, seal_if, plain_record, appended, stream_number, Outcome, outcome, answer, reserved_for, flushed_to, archiving}
use Rattle.clfs_laws.proofs.Words.{Step, calls_disk, fills_buffers, grows, making_ready_writes, append_writes, IsValid, HasSpaceLaws}
use Rattle.std.proofs.lemmas.List.{length-append}
use Rattle.clfs_model.specs.declared.call.Call.TheVariants as calls
use Rattle.clfs_model.specs.declared.refusal.Refusal.TheVariants as refusals
use Rattle.clfs_model.specs.declared.reply.Reply.TheVariants as replies
use Rattle.clfs_model.specs.Flush.{kept_waiting}
use Rattle.clfs_model.specs.Step.{is_pending}
use Rattle.clfs_laws.proofs.OutcomeCases.{of_area}
use Rattle.clfs_laws.proofs.StepLeads.{step_leads}
use Rattle.clfs_laws.proofs.SurvivingRecords.{new_above, none_below}
use Rattle.clfs_laws.proofs.ValidSettings.{grown_is, grown_no_fewer}

-- the flushed part by the LSN up to which the log is on the disk
abbrev cut_at : ℕ → State → State
cut_at lsn s = record s {
  records = filter (λ (entry : LogEntry). nat_lt entry.lsn lsn) s.records;
  place = record { container = container_of lsn; offset = offset_of lsn; used = 0; records = 0 };
  waiting = [];
  areas = [];
  broken = false;
}

-- the state made ready for a record, by the two tests
abbrev ready_by : State → Bool → Bool → State
ready_by s a b = if a then s else if b then seal s else flush s

-- two tests of which one at least fails where both don't hold
either : (a b : Bool) → (a || b) ≡ false → (a ≡ false) × (b ≡ false)
either true b fails = absurd (cc)
either false b fails = (refl, fails)

-- a log that doesn't grow stays as it is
pub ungrown : HasSpaceLaws → (s : State) (need : ℕ) → grows s need ≡ false → grown s need ≡ s
ungrown space s need fails =
    let no_more : (grown s need).containers ≤ s.containers = ltb-false s.containers (grown s need).containers fails in
    let no_fewer = grown_no_fewer space s need in
    let same : (grown s need).containers ≡ s.containers = omega (arith, no_more, no_fewer) in
    grown_is s need ∙ ap (λ n. with_containers n s) same

-- what waits after a block that is sealed and doesn't fill the buffers
first_behind : (other start : ℕ) (waiting : List ℕ) → first_or other (waiting ++ start ∷ []) ≡ first_or start waiting
first_behind other start [] = refl
first_behind other start (n ∷ waiting) = refl

kept : (buffers start : ℕ) (waiting : List ℕ) → nat_le buffers (length waiting + 1) ≡ false → kept_waiting buffers (waiting ++ start ∷ []) ≡ waiting ++ start ∷ []
kept buffers start waiting fails =
    let few : length waiting + 1 < buffers = leb-false buffers (length waiting + 1) fails in
    let long : length (waiting ++ start ∷ []) ≡ length waiting + 1 = length-append waiting (start ∷ []) in
    rw (lt-ltb (length (waiting ++ start ∷ [])) buffers (omega (arith, few, long))) refl

flushed_sealed : (s : State) → nat_lt 0 s.place.records ≡ true → fills_buffers s ≡ false → flushed (seal s) ≡ flushed s
flushed_sealed s some fits =
    rw some (ap (first_or _) (kept s.buffers (block_start s.place) s.waiting fits) ∙ first_behind _ (block_start s.place) s.waiting)

-- sealing that writes nothing
pub quiet_seal : (s : State) → (nat_lt 0 s.place.records && fills_buffers s) ≡ false → (flushed (seal s) ≡ flushed s) × (cut (seal s) ≡ cut s)
quiet_seal s quiet = elim (cases_Bool (nat_lt 0 s.place.records)) [
  | inl some ↦
      let fits : fills_buffers s ≡ false = rw some at quiet in
      let same = flushed_sealed s some fits in
      (same, others s some ∙ ap (λ lsn. cut_at lsn s) same)
  | inr none ↦ rw none (refl, refl)
]
  where
    others : (s : State) → nat_lt 0 s.place.records ≡ true → cut (seal s) ≡ cut_at (flushed (seal s)) s
    others s some = rw some refl

-- a flush of nothing
pub quiet_flush : (s : State) → is_pending s ≡ false → cut (flush s) ≡ cut s
quiet_flush s quiet =
    let none = either (nat_lt 0 (length s.waiting)) (nat_lt 0 s.place.records) quiet in
    rw none.1 (by_waiting s s.waiting refl (ltb-false 0 (length s.waiting) none.0))
  where
    by_waiting : (s : State) (waiting : List ℕ) → s.waiting ≡ waiting → length s.waiting ≤ 0 → cut (record s { waiting = [] }) ≡ cut s
    by_waiting s [] is few = ap (λ lsn. cut_at lsn s) (sym (ap (first_or (block_start s.place)) is))
    by_waiting s (start ∷ waiting) is few = absurd (omega (arith, few, ap length is))

-- the place begins a block where no block is open
block_begins : (s : State) → IsValid s → nat_lt 0 s.place.records ≡ false → 512 * block_end s.place ≡ s.place.offset
block_begins s valid none = elim valid.ranges.place.block [
  | inl closed ↦ omega (arith, closed.0, valid.ranges.place.offset)
  | inr opened ↦ absurd (let low = ltb-false 0 s.place.records none in omega (arith, low, opened.some_records))
]

-- the LSN up to which the log is on the disk, where a record is put that makes nothing ready by writing
flushed_put : (s : State) (entry : LogEntry) → IsValid s → making_ready_writes s (length entry.bytes) ≡ false → flushed (put s entry) ≡ flushed s
flushed_put s entry valid quiet = let n = length entry.bytes in elim (cases_Bool (joins s.shape s.place n)) [
  | inl joins ↦ rw joins refl
  | inr not_joins ↦ elim (cases_Bool (begins_here s.shape s.place n)) [
    | inl begins ↦
        let fits : (nat_lt 0 s.place.records && fills_buffers s) ≡ false = rw (not_joins, begins) at quiet in
        rw (not_joins, begins) (begun_here s valid n fits)
    | inr further ↦ absurd (let wrong : true ≡ false = rw (not_joins, further) at quiet in cc)
  ]
]
  where
    begun_here : (s : State) → IsValid s → (n : ℕ) → (nat_lt 0 s.place.records && fills_buffers s) ≡ false
        → first_or (lsn_number s.place.container (512 * block_end s.place) 0) (seal s).waiting ≡ flushed s
    begun_here s valid n fits = elim (cases_Bool (nat_lt 0 s.place.records)) [
      | inl some ↦
          let few : fills_buffers s ≡ false = rw some at fits in
          rw some (ap (first_or _) (kept s.buffers (block_start s.place) s.waiting few) ∙ first_behind _ (block_start s.place) s.waiting)
      | inr none ↦ rw none (ap (λ offset. first_or (lsn_number s.place.container offset 0) s.waiting) (block_begins s valid none))
    ]

-- the flushed part there
quiet_put : (s : State) (entry : LogEntry) → IsValid s → making_ready_writes s (length entry.bytes) ≡ false → cut (put s entry) ≡ cut s
quiet_put s entry valid quiet =
    let n = length entry.bytes in
    let new : List LogEntry = record entry { lsn = next_lsn s n } ∷ [] in
    let same = flushed_put s entry valid quiet in
    let above = new_above s new valid ((n, refl), tt) in
    let records : filter (λ (e : LogEntry). nat_lt e.lsn (flushed s)) (s.records ++ new) ≡ filter (λ (e : LogEntry). nat_lt e.lsn (flushed s)) s.records =
    filter-append (λ (e : LogEntry). nat_lt e.lsn (flushed s)) s.records new
    ∙ ap (λ (more : List LogEntry). filter (λ (e : LogEntry). nat_lt e.lsn (flushed s)) s.records ++ more) (none_below (flushed s) new above)
    ∙ append-nil (filter (λ (e : LogEntry). nat_lt e.lsn (flushed s)) s.records) in
    ap (λ lsn. cut_at lsn (put s entry)) same ∙ others s entry n (joins s.shape s.place n) (begins_here s.shape s.place n)
    ∙ ap (λ (entries : List LogEntry). record (cut_at (flushed s) s) { records = entries }) records
  where
    -- what a record that is put leaves of the others
    sealed_others : (s : State) (place : Place) (entries : List LogEntry) (lsn : ℕ)
        → cut_at lsn (record (seal s) { records = entries; place = place }) ≡ cut_at lsn (record s { records = entries; place = place })
    sealed_others s place entries lsn = elim (cases_Bool (nat_lt 0 s.place.records)) [ inl some ↦ rw some refl | inr none ↦ rw none refl ]

    others : (s : State) (entry : LogEntry) (n : ℕ) (a b : Bool)
        → cut_at (flushed s) (record (ready_by s a b) { records = s.records ++ record entry { lsn = next_lsn s n } ∷ []; place = (place_after s.shape s.place n).1 })
        ≡ record (cut_at (flushed s) s) { records = filter (λ (e : LogEntry). nat_lt e.lsn (flushed s)) (s.records ++ record entry { lsn = next_lsn s n } ∷ []) }
    others s entry n true b = refl
    others s entry n false true = sealed_others s (place_after s.shape s.place n).1 (s.records ++ record entry { lsn = next_lsn s n } ∷ []) (flushed s)
    others s entry n false false = sealed_others s (place_after s.shape s.place n).1 (s.records ++ record entry { lsn = next_lsn s n } ∷ []) (flushed s)

-- what areas hold isn't on the disk
quiet_held : (area : Area) (is_reserved : Bool) (n : ℕ) (sizes : List ℕ) (s : State) → cut (hold_sizes area sizes (spend_if is_reserved area n s)) ≡ cut s
quiet_held area false n [] s = refl
quiet_held area true n [] s = refl
quiet_held area false n (size ∷ sizes) s = refl
quiet_held area true n (size ∷ sizes) s = refl

-- nor does it change which blocks wait
held_fills : (area : Area) (is_reserved : Bool) (n : ℕ) (sizes : List ℕ) (s : State)
    → fills_buffers (hold_sizes area sizes (spend_if is_reserved area n s)) ≡ fills_buffers s
held_fills area false n [] s = refl
held_fills area true n [] s = refl
held_fills area false n (size ∷ sizes) s = refl
held_fills area true n (size ∷ sizes) s = refl

put_fills : (s : State) (entry : LogEntry) → fills_buffers (put s entry) ≡ fills_buffers (made_ready s (length entry.bytes))
put_fills s entry = refl

both : (a b : Bool) → b ≡ false → (a && b) ≡ false
both true b fails = fails
both false b fails = refl

-- a block that is sealed after the record, where that fills no buffers
quiet_seal_if : (asked : Bool) (s : State) → (asked && fills_buffers s) ≡ false → cut (seal_if asked s) ≡ cut s
quiet_seal_if false s quiet = refl
quiet_seal_if true s quiet = (quiet_seal s (both (nat_lt 0 s.place.records) (fills_buffers s) quiet)).1

-- an append that writes nothing
quiet_appended : HasSpaceLaws → (s : State) (area : Area) (draft : Draft) (is_reserved : Bool) (sizes : List ℕ) → IsValid s
    → append_writes s draft is_reserved sizes ≡ false → cut (appended s area draft is_reserved sizes) ≡ cut s
quiet_appended space s area draft is_reserved sizes valid quiet =
    let n = length draft.bytes in
    let need = need_of is_reserved n sizes in
    let first = either (grows s need || making_ready_writes s n || (draft.seal && fills_buffers (made_ready s n))) draft.flush quiet in
    let second = either (grows s need || making_ready_writes s n) (draft.seal && fills_buffers (made_ready s n)) first.0 in
    let third = either (grows s need) (making_ready_writes s n) second.0 in
    let entry = plain_record area draft in
    let joined : State = put s entry in
    let held : State = hold_sizes area sizes (spend_if is_reserved area n joined) in
    let seals : (draft.seal && fills_buffers held) ≡ false = ap (λ b. draft.seal && b) (held_fills area is_reserved n sizes joined) ∙ second.1 in
    let as_it_is : appended s area draft is_reserved sizes ≡ seal_if draft.seal held =
    rw first.1 (ap (λ (g : State). seal_if draft.seal (hold_sizes area sizes (spend_if is_reserved area n (put g entry)))) (ungrown space s need third.0)) in
    ap cut as_it_is ∙ quiet_seal_if draft.seal held seals ∙ quiet_held area is_reserved n sizes joined ∙ quiet_put s entry valid third.1

-- an outcome that leaves the flushed part
abbrev LeavesCut : State → Outcome → Type 0
LeavesCut s o = cut o.state ≡ cut s

over : (s : State) (client number : ℕ) (f : Area → Outcome) → ((area : Area) → LeavesCut s (f area)) → LeavesCut s (option_map_or f (area_of s client number) (outcome (replies.Refused refusals.NoSuchArea) s))
over s client number f each = of_area (LeavesCut s) s client number f each refl

quiet_opened : (s : State) (name : List ℕ) (found : Option ℕ) → stream_number s name ≡ found → is_none found ≡ false → LeavesCut s (answer s 0 (calls.OpenStream name))
quiet_opened s name None is there = absurd (cc)
quiet_opened s name (Some number) is there = rw is refl

quiet_reserved : HasSpaceLaws → (s : State) (area : Area) (sizes : List ℕ) → grows s (own_sum sizes) ≡ false → LeavesCut s (reserved_for s area sizes)
quiet_reserved space s area sizes quiet =
    quiet_held area false 0 sizes (grown s (own_sum sizes)) ∙ ap cut (ungrown space s (own_sum sizes) quiet)

quiet_flushed_to : (s : State) (lsn : ℕ) → (nat_le (flushed s) lsn && is_pending s) ≡ false → cut (flushed_to s lsn) ≡ cut s
quiet_flushed_to s lsn quiet = elim (cases_Bool (nat_lt lsn (flushed s))) [
  | inl there ↦ rw there refl
  | inr missing ↦
      let above : nat_le (flushed s) lsn ≡ true = le-leb (flushed s) lsn (ltb-false lsn (flushed s) missing) in
      let none : is_pending s ≡ false = rw above at quiet in
      rw missing (quiet_flush s none)
]

quiet_archiving : (s : State) (on : Bool) (found : Option ℕ) → s.archive ≡ found → (if on then is_none found else is_some found) ≡ false → cut (archiving s on) ≡ cut s
quiet_archiving s true None is quiet = absurd (cc)
quiet_archiving s true (Some tail) is quiet =
    ap (λ (archive : Option ℕ). record (cut s) { archive = archive }) (rw is refl ∙ sym is)
quiet_archiving s false None is quiet = ap (λ (archive : Option ℕ). record (cut s) { archive = archive }) (sym is)
quiet_archiving s false (Some tail) is quiet = absurd (cc)

not_equal : (a b : ℕ) → not (a == b) ≡ false → a ≡ b
not_equal a b quiet = elim (cases_Bool (a == b)) [ inl same ↦ eqb-true a b same | inr differ ↦ absurd (let wrong : true ≡ false = rw differ at quiet in cc) ]

-- whatever the call
quiet_answer : HasSpaceLaws → (s : State) (client : ℕ) (call : Call) → IsValid s → calls_disk s call ≡ false → LeavesCut s (answer s client call)
quiet_answer space s client (calls.OpenStream name) valid quiet = quiet_opened s name (stream_number s name) refl quiet
quiet_answer space s client (calls.CreateArea stream largest reads) valid quiet = refl
quiet_answer space s client (calls.DeleteArea number) valid quiet = refl
quiet_answer space s client (calls.Reserve number sizes) valid quiet = over s client number _ (λ (area : Area). quiet_reserved space s area sizes quiet)
quiet_answer space s client (calls.Release number sectors) valid quiet = over s client number _ (λ (area : Area). refl)
quiet_answer space s client (calls.Align number sizes) valid quiet = refl
quiet_answer space s client (calls.Append number draft is_reserved sizes) valid quiet =
    over s client number _ (λ (area : Area). quiet_appended space s area draft is_reserved sizes valid quiet)
quiet_answer space s client (calls.Flush number) valid quiet = quiet_flush s quiet
quiet_answer space s client (calls.FlushTo number lsn) valid quiet = quiet_flushed_to s lsn quiet
quiet_answer space s client (calls.Read number lsn mode) valid quiet = absurd (cc)
quiet_answer space s client (calls.ReadNext number cursor) valid quiet = absurd (cc)
quiet_answer space s client (calls.EndRead number cursor) valid quiet = refl
quiet_answer space s client (calls.WriteRestart number bytes base is_reserved) valid quiet = absurd (cc)
quiet_answer space s client (calls.ReadRestart number) valid quiet = absurd (cc)
quiet_answer space s client (calls.PreviousRestart number cursor) valid quiet = absurd (cc)
quiet_answer space s client (calls.Advance number lsn) valid quiet = absurd (cc)
quiet_answer space s client (calls.SetArchive on) valid quiet = quiet_archiving s on s.archive refl quiet
quiet_answer space s client (calls.SetArchiveTail lsn) valid quiet = absurd (cc)
quiet_answer space s client calls.ListExtents valid quiet = refl
quiet_answer space s client (calls.InstallPolicy policy) valid quiet = absurd (cc)
quiet_answer space s client (calls.RemovePolicy kind) valid quiet = absurd (cc)
quiet_answer space s client (calls.SetSize containers) valid quiet =
    ap (λ n. record (cut s) { containers = n }) (not_equal containers s.containers quiet)
quiet_answer space s client (calls.Info stream) valid quiet = refl

-- whatever the step
pub quiet_step : HasSpaceLaws → (told : Bool) (s : State) (client : ℕ) (call : Call) (happened : Happened) (reply : Reply) (t : State)
    → IsValid s → calls_disk s call ≡ false → Step told s client call happened reply t → cut t ≡ cut s
quiet_step space told s client call happened reply t valid quiet step =
    let P : State → Type 0 = λ x. cut x ≡ cut s in
    step_leads P told s client call happened reply t step (record { same = refl; broken = refl; answered = λ none. quiet_answer space s client call valid quiet })
