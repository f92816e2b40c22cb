-- A record that a log has room for leaves a laid log, and a whole one where it is plain, or on the disk with its base moved.
use Rattle.clfs_laws.proofs.Words.{◌≡◌, ℕ, ◌+◌, ◌≤◌, Bool, true, false, refl, sym, ap, ◌∙◌, subst, inl, inr, arith, List, [], ◌∷◌, ◌++◌, length, Option, All}
use Rattle.clfs_laws.proofs.Words.{IsSome, nat_lt, ◌==◌, AllByRecursion, option_to_list, cases_Bool, All-weaker, All-push, recursion_from_All, null_lsn, own}
use Rattle.clfs_laws.proofs.Words.{frontier, joins, begins_here, BaseFits, LogEntry, Kind, Plain, Restart, State, stream_at, hold, is_live, free, reserved}
use Rattle.clfs_laws.proofs.Words.{flushed, seal, flush, next_lsn, put, rebased, IsStorable, IsValid, IsRecord, HasSpaceLaws, IsWhole, IsLaid, MayPut}
use Rattle.clfs_laws.proofs.Words.{MayMove, KeepsTables}
use Rattle.clfs_laws.proofs.HoldOrder.{hold_later, hold_below_archive, hold_below_live, hold_below_frontier}
use Rattle.clfs_laws.proofs.LaidStates.{laid_of, sound_laid}
use Rattle.clfs_laws.proofs.Links.{next_above}
use Rattle.clfs_laws.proofs.RecordsOfCalls.{seal_records, rebased_records}
use Rattle.clfs_laws.proofs.RowSteps.{put_areas}
use Rattle.clfs_laws.proofs.SoundJoins.{IsJoining}
use Rattle.clfs_laws.proofs.StorableBases.{BasesRise, same_bases, bases_push, MovesBase, moves}
use Rattle.clfs_laws.proofs.StorableBlocks.{blocks_flush, blocks_put, blocks_rebased, put_shape}
use Rattle.clfs_laws.proofs.StorableLimits.{limits_flush, limits_put, limits_rebased}
use Rattle.clfs_laws.proofs.ValidAppends.{valid_put, put_containers}
use Rattle.clfs_laws.proofs.ValidAreas.{held_sum}
use Rattle.clfs_laws.proofs.ValidBases.{IsBetween, base_between, live_still, frontier_flushed, flush_streams}
use Rattle.clfs_laws.proofs.ValidPlaces.{IsSound, sound_of, sound_flush, valid_flush, flushed_below}
use Rattle.clfs_laws.proofs.ValidPuts.{TakesRecord, placed, put_by, sound_put}
use Rattle.clfs_laws.proofs.ValidRestarts.{rebased_by, put_above, put_streams}

-- a record that a log has room for joins it
pub joining_of : (s : State) (entry : LogEntry) → MayPut s entry → IsJoining s (placed entry (next_lsn s (length entry.bytes)))
joining_of s entry may = record { stream = may.stream; previous = inr may.previous; undo_next = inr may.undo_next }

pub takes_of : (s : State) (entry : LogEntry) → MayPut s entry → TakesRecord s (length entry.bytes)
takes_of s entry may = record { short = may.short; room = may.room }

-- a laid log stays laid with one record more
pub laid_put : HasSpaceLaws → (s : State) (entry : LogEntry) → IsLaid s → MayPut s entry → IsLaid (put s entry)
laid_put space s entry laid may =
    let sound = sound_laid s laid in
    let takes = takes_of s entry may in
    let joining = joining_of s entry may in
    let is = sound_put space s entry sound takes joining in
    laid_of (put s entry) is.sound
    (All-push (λ (e : LogEntry). BaseFits e.kind e.lsn e.new_base) s.records (placed entry (next_lsn s (length entry.bytes))) laid.new_bases may.new_base)
    (blocks_put space s entry sound takes joining laid.blocks) (limits_put s entry laid.limits)

-- a plain record leaves a whole log
pub whole_put : HasSpaceLaws → (s : State) (entry : LogEntry) → IsValid s → IsStorable s → MayPut s entry → entry.kind ≡ Plain → IsWhole (put s entry)
whole_put space s entry valid storable may plain =
    let t : State = put s entry in
    let takes = takes_of s entry may in
    let joining = joining_of s entry may in
    let Fits : Kind → Type 0 = λ kind. BaseFits kind (next_lsn s (length entry.bytes)) entry.new_base in
    let none : entry.new_base ≡ 0 = subst Fits plain may.new_base in
    record {
      valid = valid_put space s entry valid takes joining plain;
      storable = record {
        bases = bases_push s t (placed entry (next_lsn s (length entry.bytes))) refl (same_bases s t (put_streams s entry))
            (record { own = may.new_base; moved = omega (arith, none) }) storable.bases;
        blocks = blocks_put space s entry (sound_of s valid) takes joining storable.blocks;
        limits = limits_put s entry storable.limits;
      };
    }

-- a restart area leaves one once it is on the disk and its base has moved
pub whole_restart : HasSpaceLaws → (s : State) (entry : LogEntry) → IsValid s → IsStorable s → MayPut s entry → MayMove s entry.stream entry.new_base
    → IsWhole (rebased entry.stream entry.new_base (flush (put s entry)))
whole_restart space s entry valid storable may allowed =
    let j : State = put s entry in
    let u : State = flush j in
    let stream : ℕ = entry.stream in
    let base : ℕ = entry.new_base in
    let t : State = rebased stream base u in
    let sound = sound_of s valid in
    let takes = takes_of s entry may in
    let joining = joining_of s entry may in
    let is = sound_put space s entry sound takes joining in
    let streams : u.streams ≡ s.streams = flush_streams j ∙ put_streams s entry in
    let above = frontier_flushed j is.sound in
    let over = put_above s entry sound in
    let between : (base == null_lsn) ≡ false → IsBetween s stream base = λ some. base_between s stream base sound (allowed some) in
    let moved : MovesBase s t stream base = moves s u stream base streams may.stream (λ some. (between some).above) in
    record {
      valid = rebased_by s u stream base (base == null_lsn) refl valid allowed may.stream (valid_flush j is.sound) streams (omega (arith, above, over));
      storable = record {
        bases = bases_push s t (placed entry (next_lsn s (length entry.bytes))) (rebased_records stream base u ∙ seal_records j) moved.rise
            (record { own = may.new_base; moved = moved.moved }) storable.bases;
        blocks = blocks_rebased stream base u (blocks_flush j (blocks_put space s entry sound takes joining storable.blocks));
        limits = limits_rebased stream base u (limits_flush j (limits_put s entry storable.limits));
      };
    }

-- what is free above the record's own sectors stays free
pub room_put : HasSpaceLaws → (s : State) (entry : LogEntry) (more : ℕ) → IsSound s → MayPut s entry
    → reserved s + own (length entry.bytes) + more ≤ free s → reserved (put s entry) + more ≤ free (put s entry)
room_put space s entry more sound may room =
    let is = sound_put space s entry sound (takes_of s entry may) (joining_of s entry may) in
    let sum : reserved (put s entry) ≡ reserved s = ap held_sum (put_areas s entry) in
    omega (arith, room, is.free, sum)

-- what is on the disk stays there
pub flushed_put : HasSpaceLaws → (s : State) (entry : LogEntry) → IsSound s → MayPut s entry → flushed s ≤ flushed (put s entry)
flushed_put space s entry sound may = (sound_put space s entry sound (takes_of s entry may) (joining_of s entry may)).more

-- a record that is no restart area has no new base
plain_base : (kind : Kind) (lsn base : ℕ) → (kind ≡ Restart → ⊥) → BaseFits kind lsn base → base ≡ 0
plain_base Plain lsn base other fits = fits
plain_base Restart lsn base other fits = absurd (other refl)

-- no older record that isn't on the disk has one
pub older_plain : HasSpaceLaws → (s : State) (entry : LogEntry) → IsValid s → IsStorable s → MayPut s entry
    → All (λ (other : LogEntry). flushed (put s entry) ≤ other.lsn → other.new_base ≡ 0) s.records
older_plain space s entry valid storable may = λ k d within above.
    let own = storable.bases k d within in
    let restart = valid.stable.restarts k d within in
    let more = flushed_put space s entry (sound_of s valid) may in
    plain_base _ _ _ (λ is. let below = restart is in absurd (omega (arith, below, above, more))) own.own

-- the hold isn't earlier where no base falls, the archive tail stays and records are only added, not below it
pub hold_with : (s t : State) (more : List LogEntry) → IsSound s → BasesRise s t → t.archive ≡ s.archive → t.records ≡ s.records ++ more
    → AllByRecursion (λ (e : LogEntry). hold s ≤ e.lsn) more → hold s ≤ frontier t.place → hold s ≤ hold t
hold_with s t more sound rise archive records above below =
    let P : LogEntry → Type 0 = λ e. is_live t e ≡ true → hold s ≤ e.lsn in
    let F : Option ℕ → Type 0 = λ tail. AllByRecursion (λ lsn. hold s ≤ lsn) (option_to_list tail) in
    let there = recursion_from_All (λ (e : LogEntry). IsSome (stream_at s e.stream)) s.records
    (All-weaker (IsRecord s) (λ (e : LogEntry). IsSome (stream_at s e.stream)) (λ e is. is.stream) s.records sound.records.records) in
    let old = live_still s t s.records (λ number some. rise number) there (hold_below_live s) in
    hold_later (hold s) t below (subst F (sym archive) (hold_below_archive s))
    (subst (AllByRecursion P) (sym records) (joined P s.records more old (all_live t more above)))
  where
    joined : (P : LogEntry → Type 0) (xs ys : List LogEntry) → AllByRecursion P xs → AllByRecursion P ys → AllByRecursion P (xs ++ ys)
    joined P [] ys first second = second
    joined P (x ∷ xs) ys first second = (first.0, joined P xs ys first.1 second)

    all_live : (u : State) (entries : List LogEntry) → AllByRecursion (λ (e : LogEntry). hold s ≤ e.lsn) entries
        → AllByRecursion (λ (e : LogEntry). is_live u e ≡ true → hold s ≤ e.lsn) entries
    all_live u [] all = tt
    all_live u (e ∷ entries) all = (λ _. all.0, all_live u entries all.1)

-- the fields that putting leaves
record HasKept (s t : State) : Type 0 where
  pub buffers : t.buffers ≡ s.buffers
  pub archive : t.archive ≡ s.archive

seal_kept : (s : State) → HasKept s (seal s)
seal_kept s = elim (cases_Bool (nat_lt 0 s.place.records)) [
  | inl some ↦ rw some (record { buffers = refl; archive = refl })
  | inr none ↦ rw none (record { buffers = refl; archive = refl })
]

put_by_kept : (joining beginning : Bool) (s : State) (entry : LogEntry) → HasKept s (put_by joining beginning s entry)
put_by_kept true beginning s entry = record { buffers = refl; archive = refl }
put_by_kept false true s entry = let kept = seal_kept s in record { buffers = kept.buffers; archive = kept.archive }
put_by_kept false false s entry = let kept = seal_kept s in record { buffers = kept.buffers; archive = kept.archive }

-- a record that is put leaves the tables, and the hold isn't earlier
pub put_tables : (s : State) (entry : LogEntry) → IsSound s → KeepsTables s (put s entry)
put_tables s entry sound =
    let n = length entry.bytes in
    let kept = put_by_kept (joins s.shape s.place n) (begins_here s.shape s.place n) s entry in
    let below = hold_below_frontier s sound in
    let above = next_above s n sound in
    let over = put_above s entry sound in
    let later = hold_with s (put s entry) (placed entry (next_lsn s n) ∷ []) sound (same_bases s (put s entry) (put_streams s entry)) kept.archive refl
    (omega (arith, below, above), tt) (omega (arith, below, over)) in
    record {
      shape = put_shape s entry;
      containers = put_containers s entry;
      buffers = kept.buffers;
      streams = put_streams s entry;
      areas = put_areas s entry;
      archive = kept.archive;
      hold = omega (arith, later);
    }

-- sealing leaves the archive tail, and a base that moves leaves it and the place
rebased_kept : (stream base : ℕ) (s : State) → HasKept s (rebased stream base s)
rebased_kept stream base s = elim (cases_Bool (base == null_lsn)) [
  | inl none ↦ rw none (record { buffers = refl; archive = refl })
  | inr some ↦ rw some (record { buffers = refl; archive = refl })
]

rebased_place : (stream base : ℕ) (s : State) → (rebased stream base s).place ≡ s.place
rebased_place stream base s = elim (cases_Bool (base == null_lsn)) [ inl none ↦ rw none refl | inr some ↦ rw some refl ]

-- nor is the hold earlier once a restart area is on the disk and its base has moved
pub hold_restart : HasSpaceLaws → (s : State) (entry : LogEntry) → IsValid s → MayPut s entry → MayMove s entry.stream entry.new_base
    → hold s ≤ hold (rebased entry.stream entry.new_base (flush (put s entry)))
hold_restart space s entry valid may allowed =
    let n = length entry.bytes in
    let j : State = put s entry in
    let u : State = flush j in
    let stream : ℕ = entry.stream in
    let base : ℕ = entry.new_base in
    let t : State = rebased stream base u in
    let sound = sound_of s valid in
    let is = sound_put space s entry sound (takes_of s entry may) (joining_of s entry may) in
    let put_kept = put_by_kept (joins s.shape s.place n) (begins_here s.shape s.place n) s entry in
    let seal_same = seal_kept j in
    let moved : MovesBase s t stream base =
    moves s u stream base (flush_streams j ∙ put_streams s entry) may.stream (λ some. (base_between s stream base sound (allowed some)).above) in
    let below = hold_below_frontier s sound in
    let above = next_above s n sound in
    let over = put_above s entry sound in
    let whole = frontier_flushed j is.sound in
    let last = flushed_below u (sound_flush j is.sound).waiting in
    let place : frontier t.place ≡ frontier u.place = ap frontier (rebased_place stream base u) in
    hold_with s t (placed entry (next_lsn s n) ∷ []) sound moved.rise
    ((rebased_kept stream base u).archive ∙ seal_same.archive ∙ put_kept.archive) (rebased_records stream base u ∙ seal_records j)
    (omega (arith, below, above), tt) (omega (arith, below, over, whole, last, place))
