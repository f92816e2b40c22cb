-- The new bases of records stay where their streams' bases are, or further.
use Rattle.clfs_laws.proofs.Words.{◌≡◌, ℕ, zero, suc, ◌-◌, ◌≤◌, Bool, true, false, refl, sym, ap, ◌∙◌, subst, inl, inr, arith, List, [], ◌∷◌, ◌++◌, length}
use Rattle.clfs_laws.proofs.Words.{Option, Some, None, All, IsSome, slice_get, not, ◌==◌, if◌then◌else◌, option_map_or, cases_Bool, eqb-true, eqb-false}
use Rattle.clfs_laws.proofs.Words.{All-weaker, All-push, null_lsn, LogEntry, Draft, State, Area, Stream, stream_at, base_of, area_of, set_base, last_live}
use Rattle.clfs_laws.proofs.Words.{grown, flush, next_lsn, put, need_of, spend_if, hold_sizes, seal_if, flush_if, plain_record, appended, is_base}
use Rattle.clfs_laws.proofs.Words.{invalid_base, restart_refusal, restart_record, restarted, rebased, advanced, HasMovedBase, IsValid}
use Rattle.clfs_model.specs.declared.refusal.Refusal.TheVariants as refusals
use Rattle.clfs_laws.proofs.NotRefused.{passed}
use Rattle.clfs_laws.proofs.Links.{next_above}
use Rattle.clfs_laws.proofs.RecordsOfCalls.{seal_records, placed_record, appended_records, restarted_records}
use Rattle.clfs_laws.proofs.ValidAppends.{true_of_not}
use Rattle.clfs_laws.proofs.ValidAreaCalls.{its_area}
use Rattle.clfs_laws.proofs.ValidBases.{IsBetween, base_between, based_at, base_at, set_higher, higher_of, flush_streams}
use Rattle.clfs_laws.proofs.ValidPlaces.{sound_of}
use Rattle.clfs_laws.proofs.ValidRestarts as of_restarts
use Rattle.clfs_laws.proofs.ValidSettings.{grown_is}
use Rattle.clfs_laws.proofs.ValidStreams.{stream_more}

-- no base falls
abbrev pub BasesRise : State → State → Type 0
BasesRise s t = (number : ℕ) → base_of s number ≤ base_of t number

-- records whose bases have moved still have bases that have
pub bases_kept : (s t : State) (entries : List LogEntry) → BasesRise s t → All (HasMovedBase s) entries → All (HasMovedBase t) entries
bases_kept s t entries rise all =
    All-weaker (HasMovedBase s) (HasMovedBase t) (λ entry is. record { own = is.own; moved = omega (arith, is.moved, rise entry.stream) }) entries all

-- a state of the same records whose bases don't fall
pub bases_as : (s t : State) → t.records ≡ s.records → BasesRise s t → All (HasMovedBase s) s.records → All (HasMovedBase t) t.records
bases_as s t records rise all = subst (All (HasMovedBase t)) (sym records) (bases_kept s t s.records rise all)

-- the same streams have the same bases
pub same_bases : (s t : State) → t.streams ≡ s.streams → BasesRise s t
same_bases s t streams number =
    let same : base_of t number ≡ base_of s number = ap (λ (xs : List Stream). base_of (record s { streams = xs }) number) streams in
    omega (arith, same)

-- a stream more
pub bases_of_more : (s : State) (new : Stream) → BasesRise s (record s { streams = s.streams ++ new ∷ [] })
bases_of_more s new number = by_stream (stream_at s number) refl
  where
    by_stream : (found : Option Stream) → stream_at s number ≡ found
        → base_of s number ≤ base_of (record s { streams = s.streams ++ new ∷ [] }) number
    by_stream None none =
        let null : base_of s number ≡ 0 = ap (λ (f : Option Stream). option_map_or (λ (stream : Stream). stream.base) f null_lsn) none in omega (arith, null)
    by_stream (Some stream) some =
        let there : IsSome (stream_at s number) = subst IsSome (sym some) refl in
        let same : base_of (record s { streams = s.streams ++ new ∷ [] }) number ≡ base_of s number =
        ap (λ (f : Option Stream). option_map_or (λ (stream : Stream). stream.base) f null_lsn) (stream_more s new number there) in
        omega (arith, same)

-- a base that moves on
pub bases_of_set : (s : State) (number lsn : ℕ) → IsSome (stream_at s number) → base_of s number ≤ lsn
    → BasesRise s (record s { streams = set_base number lsn s.streams })
bases_of_set s number lsn there rises other =
    let at = based_at s number there in
    let above : base_at s.streams (number - 1) ≤ lsn = omega (arith, rises, at.1) in
    higher_of s (record s { streams = set_base number lsn s.streams }) other (set_higher number lsn s.streams (other - 1) at.0 above)

-- the base that is set
set_at : (number lsn : ℕ) (streams : List Stream) (k : ℕ) → number ≡ suc k → IsSome (slice_get streams k)
    → base_at (set_base number lsn streams) k ≡ lsn
set_at number lsn [] k is some = absurd (cc)
set_at number lsn (stream ∷ streams) zero is some = elim (cases_Bool (number == 1)) [
  | inl here ↦ rw here refl
  | inr there ↦ absurd (eqb-false number 1 there (omega (arith, is)))
]
set_at number lsn (stream ∷ streams) (suc k) is some = elim (cases_Bool (number == 1)) [
  | inl here ↦ absurd (let one = eqb-true number 1 here in omega (arith, one, is))
  | inr there ↦ rw there (set_at (number - 1) lsn streams k (omega (arith, is)) some)
]

-- a stream that is there is at its place in the list
number_there : (s : State) (number : ℕ) → IsSome (stream_at s number) → IsSome (slice_get s.streams (number - 1))
number_there s number some = elim (cases_Bool (number == 0)) [
  | inl none ↦ absurd (let gone = rw none at some in cc)
  | inr has ↦ rw has at some
]

-- the base of the stream whose base is set is that one
pub base_set : (s : State) (number lsn : ℕ) → IsSome (stream_at s number)
    → base_of (record s { streams = set_base number lsn s.streams }) number ≡ lsn
base_set s number lsn some = elim (cases_Bool (number == 0)) [
  | inl none ↦ absurd (let gone = rw none at some in cc)
  | inr has ↦ rw has (set_at number lsn s.streams (number - 1) (let other = eqb-false number 0 has in omega (arith, other)) (number_there s number some))
]

-- the streams of an append
grown_streams : (s : State) (need : ℕ) → (grown s need).streams ≡ s.streams
grown_streams s need = ap (λ (x : State). x.streams) (grown_is s need)

spent_streams : (is_reserved : Bool) (area : Area) (n : ℕ) (s : State) → (spend_if is_reserved area n s).streams ≡ s.streams
spent_streams false area n s = refl
spent_streams true area n s = refl

hold_streams : (area : Area) (sizes : List ℕ) (s : State) → (hold_sizes area sizes s).streams ≡ s.streams
hold_streams area [] s = refl
hold_streams area (size ∷ sizes) s = refl

seal_if_streams : (asked : Bool) (s : State) → (seal_if asked s).streams ≡ s.streams
seal_if_streams true s = flush_streams s
seal_if_streams false s = refl

flush_if_streams : (asked : Bool) (s : State) → (flush_if asked s).streams ≡ s.streams
flush_if_streams true s = flush_streams s
flush_if_streams false s = refl

pub appended_streams : (s : State) (area : Area) (draft : Draft) (is_reserved : Bool) (sizes : List ℕ)
    → (appended s area draft is_reserved sizes).streams ≡ s.streams
appended_streams s area draft is_reserved sizes =
    let n = length draft.bytes in
    let g = grown s (need_of is_reserved n sizes) in
    let joined = put g (plain_record area draft) in
    let held = hold_sizes area sizes (spend_if is_reserved area n joined) in
    flush_if_streams draft.flush (seal_if draft.seal held) ∙ seal_if_streams draft.seal held ∙ hold_streams area sizes (spend_if is_reserved area n joined)
    ∙ spent_streams is_reserved area n joined ∙ of_restarts.put_streams g (plain_record area draft) ∙ grown_streams s (need_of is_reserved n sizes)

-- the records with one more
pub bases_push : (s t : State) (entry : LogEntry) → t.records ≡ s.records ++ entry ∷ [] → BasesRise s t → HasMovedBase t entry
    → All (HasMovedBase s) s.records
    → All (HasMovedBase t) t.records
bases_push s t entry records rise is all =
    subst (All (HasMovedBase t)) (sym records) (All-push (HasMovedBase t) s.records entry (bases_kept s t s.records rise all) is)

-- an append
pub bases_appended : (s : State) (area : Area) (draft : Draft) (is_reserved : Bool) (sizes : List ℕ) → All (HasMovedBase s) s.records
    → All (HasMovedBase (appended s area draft is_reserved sizes)) (appended s area draft is_reserved sizes).records
bases_appended s area draft is_reserved sizes all =
    let t : State = appended s area draft is_reserved sizes in
    bases_push s t (placed_record s (plain_record area draft)) (appended_records s area draft is_reserved sizes)
    (same_bases s t (appended_streams s area draft is_reserved sizes)) (record { own = refl; moved = omega arith }) all

-- the streams before the base of a restart area moves
flushed_streams : (s : State) (area : Area) (bytes : List ℕ) (base : ℕ) (is_reserved : Bool)
    → (flush (spend_if is_reserved area (length bytes) (put (grown s (need_of is_reserved (length bytes) [])) (restart_record s area bytes base)))).streams ≡ s.streams
flushed_streams s area bytes base is_reserved =
    let n = length bytes in
    let g = grown s (need_of is_reserved n []) in
    let joined = put g (restart_record s area bytes base) in
    flush_streams (spend_if is_reserved area n joined) ∙ spent_streams is_reserved area n joined ∙ of_restarts.put_streams g (restart_record s area bytes base)
    ∙ grown_streams s (need_of is_reserved n [])

-- what a restart area's base does
pub record MovesBase (s t : State) (stream base : ℕ) : Type 0 where
  pub rise : BasesRise s t
  pub moved : base ≤ base_of t stream

-- by whether there is a new base
moves_by : (s u : State) (stream base : ℕ) (none : Bool) → (base == null_lsn) ≡ none → u.streams ≡ s.streams → IsSome (stream_at s stream)
    → ((base == null_lsn) ≡ false → base_of s stream ≤ base)
    → MovesBase s (if none then u else record u { streams = set_base stream base u.streams }) stream base
moves_by s u stream base true is streams there based =
    record { rise = same_bases s u streams; moved = let null = eqb-true base null_lsn is in omega (arith, null) }
moves_by s u stream base false is streams there based =
    let F : List Stream → Type 0 = λ xs. MovesBase s (record u { streams = set_base stream base xs }) stream base in
    let rise = bases_of_set s stream base there (based is) in
    let set = base_set s stream base there in
    subst F (sym streams) (record { rise = λ number. rise number; moved = omega (arith, set) })

-- a new base that a stream allows moves there, and no other base falls
pub moves : (s u : State) (stream base : ℕ) → u.streams ≡ s.streams → IsSome (stream_at s stream)
    → ((base == null_lsn) ≡ false → base_of s stream ≤ base) → MovesBase s (rebased stream base u) stream base
moves s u stream base streams there based = moves_by s u stream base (base == null_lsn) refl streams there based

-- a restart area that isn't refused
pub bases_restarted : (s : State) (client number : ℕ) (area : Area) (bytes : List ℕ) (base : ℕ) (is_reserved : Bool) → IsValid s
    → area_of s client number ≡ Some area → restart_refusal s area bytes base is_reserved ≡ None → All (HasMovedBase s) s.records
    → All (HasMovedBase (restarted s area bytes base is_reserved)) (restarted s area bytes base is_reserved).records
bases_restarted s client number area bytes base is_reserved valid there none all =
    let t : State = restarted s area bytes base is_reserved in
    let sound = sound_of s valid in
    let allows = of_restarts.allowed s area bytes base is_reserved none in
    let between : (base == null_lsn) ≡ false → IsBetween s area.stream base = λ some. base_between s area.stream base sound (allows.based some) in
    let is : MovesBase s t area.stream base =
    moves s _ area.stream base (flushed_streams s area bytes base is_reserved) (its_area s client number area there valid).stream
    (λ some. (between some).above) in
    let above = next_above s (length bytes) sound in
    let own : base ≤ next_lsn s (length bytes) = elim (cases_Bool (base == null_lsn)) [
      | inl null ↦ let nothing = eqb-true base null_lsn null in omega (arith, nothing)
      | inr some ↦ let has = between some in omega (arith, has.below, above)
    ] in
    bases_push s t (placed_record s (restart_record s area bytes base)) (restarted_records s area bytes base is_reserved) is.rise
    (record { own = own; moved = is.moved }) all

-- a base that is advanced
pub bases_advanced : (s : State) (stream lsn : ℕ) → IsValid s → invalid_base s stream lsn None ≡ None → IsSome (stream_at s stream)
    → All (HasMovedBase s) s.records
    → All (HasMovedBase (advanced s stream lsn)) (advanced s stream lsn).records
bases_advanced s stream lsn valid none there all =
    let allowed = true_of_not _ (passed (not (is_base s stream lsn)) (refusals.TailInvalid lsn (base_of s stream) (last_live s stream)) None none).0 in
    let between = base_between s stream lsn (sound_of s valid) allowed in
    let F : List Stream → Type 0 = λ xs. BasesRise s (record (flush s) { streams = set_base stream lsn xs }) in
    let rise = bases_of_set s stream lsn there between.above in
    bases_as s (advanced s stream lsn) (seal_records s) (subst F (sym (flush_streams s)) (λ number. rise number)) all
