-- A restart area leaves a valid state: it is on the disk before its base moves.
use Rattle.clfs_laws.proofs.Words.{◌≡◌, ℕ, ◌+◌, ◌<◌, ◌≤◌, Bool, true, false, refl, sym, ap, ◌∙◌, subst, inl, inr, ◌⊎◌, arith, List, [], ◌∷◌, ◌++◌, length}
use Rattle.clfs_laws.proofs.Words.{Option, Some, None, IfSome, IsSome, find, filter, reverse, slice_get, nat_lt, not, ◌&&◌, ◌==◌, if◌then◌else◌}
use Rattle.clfs_laws.proofs.Words.{AllByRecursion, cases_Bool, ltb-false, reverse_onto, null_lsn, IsShape, longest, IsWithin, frontier, joins, begins_here}
use Rattle.clfs_laws.proofs.Words.{Place, Shape, LogEntry, Refusal, State, Area, stream_at, base_of, area_of, set_base, is_live, live, last_live, lsn_or_null}
use Rattle.clfs_laws.proofs.Words.{free, reserved, own_sum, with_containers, grown, has_room, flushed, flush, next_lsn, put, need_of, spent_of, spend_if}
use Rattle.clfs_laws.proofs.Words.{restart_areas, newest_restart, is_restart, is_base, invalid_base, short, full, restart_refusal, restart_record, restarted}
use Rattle.clfs_laws.proofs.Words.{IsValid, HasSpaceLaws}
use Rattle.clfs_model.specs.declared.refusal.Refusal.TheVariants as refusals
use Rattle.clfs_laws.proofs.NotRefused.{passed, passed_long}
use Rattle.clfs_laws.proofs.LsnOrder.{small_offset, few_records, frontier_sealed}
use Rattle.clfs_laws.proofs.ValidSettings.{valid_grown, grown_is}
use Rattle.clfs_laws.proofs.ValidAreaCalls.{room_is, none_of_option, its_area}
use Rattle.clfs_laws.proofs.ValidPlaces.{IsSound, sound_of, valid_flush}
use Rattle.clfs_laws.proofs.ValidPuts.{TakesRecord, after_by, put_by, sound_put}
use Rattle.clfs_laws.proofs.Links.{all_below, next_above}
use Rattle.clfs_laws.proofs.ValidAppends.{MayJoin, spent, spend_first, true_of_not, first_fits, link_behind}
use Rattle.clfs_laws.proofs.ValidBases.{frontier_flushed, flush_streams}
use Rattle.clfs_laws.proofs.ValidStreams.{valid_rebased}

-- what holds of all holds of those that pass, in the other order too
all_kept : {A : Type 0} (p : A → Bool) (P : A → Type 0) (xs : List A) → AllByRecursion P xs → AllByRecursion P (filter p xs)
all_kept p P [] all = tt
all_kept p P (x ∷ xs) all = elim (cases_Bool (p x)) [
  | inl passes ↦ rw passes (all.0, all_kept p P xs all.1)
  | inr fails ↦ rw fails (all_kept p P xs all.1)
]

pub all_behind : {A : Type 0} (P : A → Type 0) (xs ys : List A) → AllByRecursion P xs → AllByRecursion P ys → AllByRecursion P (xs ++ ys)
all_behind P [] ys first second = second
all_behind P (x ∷ xs) ys first second = (first.0, all_behind P xs ys first.1 second)

-- the previous link of a restart area lies below the frontier
newest_by : (bound : ℕ) (found : Option LogEntry) → IfSome found (λ (entry : LogEntry). entry.lsn < bound) → (lsn_or_null found ≡ null_lsn) ⊎ (lsn_or_null found < bound)
newest_by bound None below = inl refl
newest_by bound (Some entry) below = inr below

-- the place after a record has a later frontier
after_above : (shape : Shape) (place : Place) (n : ℕ) (joining beginning : Bool) → IsShape shape → IsWithin shape place → frontier place ≤ frontier (after_by joining beginning place n).1
after_above shape place n true beginning is within = omega arith
after_above shape place n false true is within = omega (arith, frontier_sealed shape place within)
after_above shape place n false false is within = omega (arith, small_offset shape place is within, few_records shape place within)

pub put_above : (s : State) (entry : LogEntry) → IsSound s → frontier s.place ≤ frontier (put s entry).place
put_above s entry sound =
    after_above s.shape s.place (length entry.bytes) (joins s.shape s.place (length entry.bytes)) (begins_here s.shape s.place (length entry.bytes)) sound.ranges.shape sound.ranges.place

-- the streams of a log that was put into
put_by_streams : (joining beginning : Bool) (s : State) (entry : LogEntry) → (put_by joining beginning s entry).streams ≡ s.streams
put_by_streams true beginning s entry = refl
put_by_streams false true s entry = flush_streams s
put_by_streams false false s entry = flush_streams s

pub put_streams : (s : State) (entry : LogEntry) → (put s entry).streams ≡ s.streams
put_streams s entry = put_by_streams (joins s.shape s.place (length entry.bytes)) (begins_here s.shape s.place (length entry.bytes)) s entry

spend_streams : (is_reserved : Bool) (area : Area) (n : ℕ) (s : State) → (spend_if is_reserved area n s).streams ≡ s.streams
spend_streams false area n s = refl
spend_streams true area n s = refl

spend_place : (is_reserved : Bool) (area : Area) (n : ℕ) (s : State) → (spend_if is_reserved area n s).place ≡ s.place
spend_place false area n s = refl
spend_place true area n s = refl

-- what holds of all holds of all in the other order
pub all_turned : {A : Type 0} (P : A → Type 0) (xs : List A) → AllByRecursion P xs → AllByRecursion P (reverse xs)
all_turned {A} P [] all = tt
all_turned {A} P (x ∷ xs) all =
    let F : List A → Type 0 = AllByRecursion P in
    subst F (sym (reverse_onto xs x [])) (all_behind P (reverse xs) (x ∷ []) (all_turned P xs all.1) (all.0, tt))

-- the previous link of a restart area
newest_below : (s : State) (stream : ℕ) → IsSound s
    → (lsn_or_null (newest_restart s stream) ≡ null_lsn) ⊎ (lsn_or_null (newest_restart s stream) < frontier s.place)
newest_below s stream sound =
    let P : LogEntry → Type 0 = λ entry. entry.lsn < frontier s.place in
    let all = all_turned P (filter (λ (entry : LogEntry). is_restart entry.kind) (live s stream))
    (all_kept (λ (entry : LogEntry). is_restart entry.kind) P (live s stream)
    (all_kept (λ (entry : LogEntry). (entry.stream == stream) && is_live s entry) P s.records (all_below s sound))) in
    newest_by (frontier s.place) (newest_restart s stream) (first_has P (restart_areas s stream) all)
  where
    first_has : (P : LogEntry → Type 0) (entries : List LogEntry) → AllByRecursion P entries → IfSome (slice_get entries 0) P
    first_has P [] all = tt
    first_has P (entry ∷ entries) all = all.0

-- what a restart area that isn't refused tells
pub record IsAllowed (s : State) (area : Area) (bytes : List ℕ) (base : ℕ) (is_reserved : Bool) : Type 0 where
  pub short : length bytes ≤ area.largest
  pub based : (base == null_lsn) ≡ false → is_base s area.stream base ≡ true
  pub held : spent_of is_reserved (length bytes) ≤ area.held
  pub room : has_room s (need_of is_reserved (length bytes) []) ≡ true

-- the other tests, after the one of the new base
record PassesBase (s : State) (stream base : ℕ) (others : Option Refusal) : Type 0 where
  pub based : (base == null_lsn) ≡ false → is_base s stream base ≡ true
  pub rest : others ≡ None

passes_base : (s : State) (stream base : ℕ) (others : Option Refusal) (none : Bool) → (base == null_lsn) ≡ none
    → (if none then others else invalid_base s stream base others) ≡ None → PassesBase s stream base others
passes_base s stream base others true is passes = record { based = λ no. absurd (cc (is, no)); rest = passes }
passes_base s stream base others false is passes =
    let both = passed (not (is_base s stream base)) (refusals.TailInvalid base (base_of s stream) (last_live s stream)) others passes in
    record { based = λ _. true_of_not _ both.0; rest = both.1 }

pub allowed : (s : State) (area : Area) (bytes : List ℕ) (base : ℕ) (is_reserved : Bool) → restart_refusal s area bytes base is_reserved ≡ None
    → IsAllowed s area bytes base is_reserved
allowed s area bytes base is_reserved none =
    let n = length bytes in
    let need = need_of is_reserved n [] in
    let room = full s need in
    let others = short area (spent_of is_reserved n) room in
    let choice = if base == null_lsn then others else invalid_base s area.stream base others in
    let long = none_of_option (find (λ len. nat_lt area.largest len) (n ∷ [])) (λ len. refusals.RecordTooLong len area.largest) choice none in
    let based = passes_base s area.stream base others (base == null_lsn) refl (passed_long area.largest (n ∷ []) choice none) in
    let holds = passed (nat_lt area.held (spent_of is_reserved n)) (refusals.ReservationShort area.held (spent_of is_reserved n)) room based.rest in
    let last = passed (not (has_room s need)) (refusals.Full (free (grown s need)) (reserved (grown s need)) need) None holds.1 in
    record {
      short = first_fits area.largest n [] long;
      based = based.based;
      held = ltb-false area.held (spent_of is_reserved n) holds.0;
      room = true_of_not _ last.0;
    }

-- what a log that has grown for a restart area allows
pub may_restart : (s : State) (client number : ℕ) (area : Area) (bytes : List ℕ) (base : ℕ) (is_reserved : Bool) (u : State)
    → u ≡ grown s (need_of is_reserved (length bytes) []) → u ≡ with_containers u.containers s → IsValid s → IsValid u
    → area_of s client number ≡ Some area → IsAllowed s area bytes base is_reserved
    → MayJoin u client number area (restart_record s area bytes base) is_reserved (own_sum [])
may_restart s client number area bytes base is_reserved u grows is valid_s valid there allows =
    let n = length bytes in
    let need = need_of is_reserved n [] in
    let sound = sound_of u valid in
    let fits = its_area s client number area there valid_s in
    let above = next_above u n sound in
    let Named : State → Type 0 = λ x. area_of x client number ≡ Some area in
    let On : State → Type 0 = λ x. IsSome (stream_at x area.stream) in
    let Short : State → Type 0 = λ x. n ≤ longest x.shape in
    let Free : State → Type 0 = λ x. reserved s + need ≤ free x in
    let enough : reserved s + need ≤ free u = subst Free (sym grows) (room_is s need allows.room) in
    let sum : reserved u ≡ reserved s = ap reserved is in
    let same : frontier u.place ≡ frontier s.place = ap (λ (x : State). frontier x.place) is in
    record {
      there = subst Named (sym is) there;
      short = subst Short (sym is) (omega (arith, allows.short, fits.largest));
      joining = record {
        stream = subst On (sym is) fits.stream;
        previous = link_behind (lsn_or_null (newest_restart s area.stream)) (frontier s.place) (next_lsn u n) (omega (arith, above, same)) (newest_below s area.stream (sound_of s valid_s));
        undo_next = inl refl;
      };
      held = allows.held;
      room = omega (arith, enough, sum);
    }

-- the log after a restart area was put, before it is flushed
pub record HasRestarted (s j : State) : Type 0 where
  pub sound : IsSound j
  pub above : frontier s.place ≤ frontier j.place
  pub streams : j.streams ≡ s.streams

pub restart_joined : HasSpaceLaws → (s : State) (client number : ℕ) (area : Area) (entry : LogEntry) (is_reserved : Bool) → IsValid s
    → MayJoin s client number area entry is_reserved (own_sum []) → HasRestarted s (spend_if is_reserved area (length entry.bytes) (put s entry))
restart_joined space s client number area entry is_reserved valid may =
    let n = length entry.bytes in
    let some = spent s client number area entry is_reserved (own_sum []) valid may in
    let v : State = spend_if is_reserved area n s in
    let has = some.1.0 in
    let takes : TakesRecord v n = record { short = has.short; room = omega (arith, has.room) } in
    let is = sound_put space v entry (sound_of v has.valid) takes has.joining in
    let place : (spend_if is_reserved area n (put s entry)).place ≡ (put s entry).place = spend_place is_reserved area n (put s entry) in
    let same : frontier (spend_if is_reserved area n (put s entry)).place ≡ frontier (put s entry).place = ap frontier place in
    record {
      sound = subst IsSound (spend_first is_reserved area n s entry) is.sound;
      above = omega (arith, put_above s entry (sound_of s valid), same);
      streams = spend_streams is_reserved area n (put s entry) ∙ put_streams s entry;
    }

pub rebased_by : (s t : State) (stream base : ℕ) (none : Bool) → (base == null_lsn) ≡ none → IsValid s → ((base == null_lsn) ≡ false → is_base s stream base ≡ true)
    → IsSome (stream_at s stream) → IsValid t → t.streams ≡ s.streams → frontier s.place ≤ flushed t
    → IsValid (if none then t else record t { streams = set_base stream base t.streams })
rebased_by s t stream base true is valid_s based there valid same above = valid
rebased_by s t stream base false is valid_s based there valid same above = valid_rebased s t stream base (sound_of s valid_s) (based is) there valid same above

-- a restart area that isn't refused
pub valid_restarted : HasSpaceLaws → (s : State) (client number : ℕ) (area : Area) (bytes : List ℕ) (base : ℕ) (is_reserved : Bool) → IsValid s
    → area_of s client number ≡ Some area → restart_refusal s area bytes base is_reserved ≡ None → IsValid (restarted s area bytes base is_reserved)
valid_restarted space s client number area bytes base is_reserved valid there none =
    let n = length bytes in
    let need = need_of is_reserved n [] in
    let u : State = grown s need in
    let valid_u : IsValid u = valid_grown space s need valid in
    let allows = allowed s area bytes base is_reserved none in
    let entry = restart_record s area bytes base in
    let may = may_restart s client number area bytes base is_reserved u refl (grown_is s need) valid valid_u there allows in
    let joined = restart_joined space u client number area entry is_reserved valid_u may in
    let j : State = spend_if is_reserved area n (put u entry) in
    let above = frontier_flushed j joined.sound in
    let same : frontier u.place ≡ frontier s.place = ap (λ (x : State). frontier x.place) (grown_is s need) in
    rebased_by s (flush j) area.stream base (base == null_lsn) refl valid allows.based (its_area s client number area there valid).stream
    (valid_flush j joined.sound) (flush_streams j ∙ joined.streams ∙ ap (λ (x : State). x.streams) (grown_is s need)) (omega (arith, above, joined.above, same))
