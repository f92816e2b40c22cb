-- A flush up to an LSN answers an LSN above it.
use Rattle.clfs_laws.proofs.Words.{◌≡◌, ℕ, ◌<◌, ◌≤◌, Bool, true, false, refl, sym, ap, ◌∙◌, inl, inr, arith, Option, Some, None, nat_lt, nat_le, cases_Bool}
use Rattle.clfs_laws.proofs.Words.{ltb-true, ltb-false, leb-false, frontier, Happened, Fine, Fault, Damage, State, area_of, flushed, flush, refusal}
use Rattle.clfs_laws.proofs.Words.{refused_if, flushed_to, Step, Goes, IsReply, IsValid}
use Rattle.clfs_model.specs.declared.call.Call.TheVariants as calls
use Rattle.clfs_model.specs.declared.refusal.Refusal.TheVariants as refusals
use Rattle.clfs_model.specs.declared.reply.Reply.TheVariants as replies
use Rattle.clfs_laws.proofs.FineSteps.{ComesBy}
use Rattle.clfs_laws.proofs.NotRefused.{passed, passed_area}
use Rattle.clfs_laws.proofs.StepCases.{broken_step, whole_step}

-- a flush brings the flushed LSN to the frontier, or above it
pub flushed_past : (s : State) → IsValid s → frontier s.place ≤ flushed (flush s)
flushed_past s valid = elim (cases_Bool (nat_lt 0 s.place.records)) [
  | inl some ↦ rw some (elim valid.ranges.place.block [
    | inl closed ↦ absurd (let has = ltb-true 0 s.place.records some in omega (arith, has, closed.1))
    | inr opened ↦ omega (arith, opened.few_records, opened.some_sectors, valid.ranges.place.offset)
  ])
  | inr none ↦ let low = ltb-false 0 s.place.records none in rw none (omega (arith, low))
]

-- what a flush up to an LSN has flushed
above_it : (s : State) (lsn : ℕ) → IsValid s → lsn < frontier s.place → lsn < flushed (flushed_to s lsn)
above_it s lsn valid below = elim (cases_Bool (nat_lt lsn (flushed s))) [
  | inl there ↦ rw there (ltb-true lsn (flushed s) there)
  | inr missing ↦ rw missing (let past = flushed_past s valid in omega (arith, below, past))
]

-- a call that isn't refused names an LSN below the frontier
below_frontier : (s : State) (client number lsn : ℕ) → refusal s client (calls.FlushTo number lsn) ≡ None → lsn < frontier s.place
below_frontier s client number lsn none =
    let area = passed_area (area_of s client number) (λ _. refused_if (nat_le (frontier s.place) lsn) (refusals.RecordNonexistent lsn) None) none in
    leb-false (frontier s.place) lsn (passed (nat_le (frontier s.place) lsn) (refusals.RecordNonexistent lsn) None area.1.1).0

-- an LSN that is answered, and the state that it belongs to
abbrev pub IsFlushedPast : ℕ → ℕ → State → Type 0
IsFlushedPast lsn answered t = (lsn < answered) × (answered ≡ flushed t)

told_so : (told : Bool) (stable : ℕ) (lsn answered : ℕ) → IsReply told stable (replies.Flushed lsn) (replies.Flushed answered) → answered ≡ lsn
told_so true stable lsn answered is = cc
told_so false stable lsn answered is = cc

fine_past : (told : Bool) (s : State) (client number lsn answered : ℕ) (t : State) → IsValid s
    → ComesBy told s client (calls.FlushTo number lsn) (replies.Flushed answered) t (refusal s client (calls.FlushTo number lsn))
    → IsFlushedPast lsn answered t
fine_past told s client number lsn answered t valid comes = by_refusal (refusal s client (calls.FlushTo number lsn)) refl comes
  where
    by_refusal : (first : Option _) → refusal s client (calls.FlushTo number lsn) ≡ first
        → ComesBy told s client (calls.FlushTo number lsn) (replies.Flushed answered) t first → IsFlushedPast lsn answered t
    by_refusal None none comes =
        let same : answered ≡ flushed (flushed_to s lsn) = told_so told (flushed s) (flushed (flushed_to s lsn)) answered comes.0 in
        let above = above_it s lsn valid (below_frontier s client number lsn none) in
        (omega (arith, above, same), same ∙ ap flushed (sym comes.1))
    by_refusal (Some first) is comes = absurd (let wrong : replies.Flushed answered ≡ replies.Refused first = comes.0 in cc)

goes_past : (told : Bool) (s : State) (client number lsn : ℕ) (happened : Happened) (answered : ℕ) (t : State) → IsValid s
    → Goes told s client (calls.FlushTo number lsn) happened (replies.Flushed answered) t → IsFlushedPast lsn answered t
goes_past told s client number lsn Fine answered t valid goes = fine_past told s client number lsn answered t valid goes
goes_past told s client number lsn Fault answered t valid goes =
    absurd (let wrong : replies.Flushed answered ≡ replies.Refused refusals.DiskFault = goes.1.1.0 in cc)
goes_past told s client number lsn Damage answered t valid goes = absurd goes.1.1.0

past_by : (told : Bool) (s : State) (client number lsn : ℕ) (happened : Happened) (answered : ℕ) (t : State) (broken : Bool) → s.broken ≡ broken
    → IsValid s → Step told s client (calls.FlushTo number lsn) happened (replies.Flushed answered) t → IsFlushedPast lsn answered t
past_by told s client number lsn happened answered t true is valid step =
    absurd (let wrong : replies.Flushed answered ≡ replies.Refused refusals.Broken = (broken_step told s client _ happened _ t is step).0 in cc)
past_by told s client number lsn happened answered t false is valid step = elim (whole_step told s client _ happened _ t is step) [
  | inl want ↦ absurd (let wrong : replies.Flushed answered ≡ replies.Refused refusals.NoMemory = want.1.0 in cc)
  | inr goes ↦ goes_past told s client number lsn happened answered t valid goes
]

-- whatever happens
pub flushed_past_it : (told : Bool) (s : State) (client number lsn : ℕ) (happened : Happened) (answered : ℕ) (t : State) → IsValid s
    → Step told s client (calls.FlushTo number lsn) happened (replies.Flushed answered) t → IsFlushedPast lsn answered t
flushed_past_it told s client number lsn happened answered t valid step = past_by told s client number lsn happened answered t s.broken refl valid step
