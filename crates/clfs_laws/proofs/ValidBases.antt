-- A valid state stays valid where bases and the archive tail don't fall, and lie on the disk.
use Rattle.clfs_laws.proofs.Words.{◌≡◌, ◌≢◌, ℕ, zero, suc, ◌+◌, ◌-◌, ◌<◌, ◌≤◌, Bool, true, false, refl, sym, ap, ◌∙◌, subst, inl, inr, arith, List, [], ◌∷◌}
use Rattle.clfs_laws.proofs.Words.{length, Option, Some, None, All, AllPairs, IfSome, IsSome, is_some, filter, slice_get, slice_index_or, nat_lt, ◌&&◌, ◌||◌}
use Rattle.clfs_laws.proofs.Words.{◌==◌, AllByRecursion, last_or, option_map_or, option_to_list, cases_Bool, eqb-true, eqb-false, ltb-true, ltb-false}
use Rattle.clfs_laws.proofs.Words.{leb-true, le-leb, All-weaker, All-from_recursion, recursion_from_All, null_lsn, frontier, LogEntry, State, Stream}
use Rattle.clfs_laws.proofs.Words.{stream_at, base_of, set_base, is_live, live, live_at, hold, last_live, lsn_or_null, flushed, flush, is_base, IsValid}
use Rattle.clfs_laws.proofs.Words.{IsArea, IsRecord, IsWaiting}
use Rattle.clfs_laws.proofs.LsnOrder.{frontier_sealed}
use Rattle.clfs_laws.proofs.ValidPlaces.{IsSound, sound_of}
use Rattle.clfs_laws.proofs.HoldOrder.{hold_later, hold_below_archive, hold_below_live, hold_below_frontier, active_later, free_later}
use Rattle.clfs_laws.proofs.Links.{found_at, all_below}

-- a state with other streams and another archive tail
abbrev pub needing : State → List Stream → Option ℕ → State
needing s streams archive = record s { streams = streams; archive = archive }

-- what makes it valid: a dedicated log has no second stream, every stream is still there, its base doesn't fall, and all of it is on the disk
pub record HasNeeds (s t : State) : Type 0 where
  pub names : AllPairs (λ (a b : Stream). a.name ≢ b.name) t.streams
  pub alone : s.dedicated ≡ true → length t.streams ≤ 1
  pub there : (number : ℕ) → IsSome (stream_at s number) → IsSome (stream_at t number)
  pub bases : All (λ (stream : Stream). stream.base ≤ flushed s) t.streams
  pub higher : (number : ℕ) → IsSome (stream_at s number) → base_of s number ≤ base_of t number
  pub tail : IfSome t.archive (λ tail. tail ≤ flushed s)
  pub later : AllByRecursion (λ lsn. hold s ≤ lsn) (option_to_list t.archive)

pub live_still : (s t : State) (entries : List LogEntry) → ((number : ℕ) → IsSome (stream_at s number) → base_of s number ≤ base_of t number)
    → AllByRecursion (λ (entry : LogEntry). IsSome (stream_at s entry.stream)) entries
    → AllByRecursion (λ (entry : LogEntry). is_live s entry ≡ true → hold s ≤ entry.lsn) entries
    → AllByRecursion (λ (entry : LogEntry). is_live t entry ≡ true → hold s ≤ entry.lsn) entries
live_still s t [] higher there all = tt
live_still s t (entry ∷ entries) higher there all = (
  λ is_live_after.
      let below : base_of t entry.stream ≤ entry.lsn = leb-true (base_of t entry.stream) entry.lsn is_live_after in
      let rises = higher entry.stream there.0 in
      all.0 (le-leb (base_of s entry.stream) entry.lsn (omega (arith, below, rises))),
  live_still s t entries higher there.1 all.1,
)

hold_needing : (s : State) (streams : List Stream) (archive : Option ℕ) → IsSound s → HasNeeds s (needing s streams archive) → hold s ≤ hold (needing s streams archive)
hold_needing s streams archive sound has =
    let t : State = needing s streams archive in
    hold_later (hold s) t (hold_below_frontier s sound) has.later
    (live_still s t s.records has.higher
    (recursion_from_All (λ (entry : LogEntry). IsSome (stream_at s entry.stream)) s.records
    (All-weaker (IsRecord s) (λ (entry : LogEntry). IsSome (stream_at s entry.stream)) (λ entry is. is.stream) s.records sound.records.records)) (hold_below_live s))

pub valid_needing : (s : State) (streams : List Stream) (archive : Option ℕ) → IsValid s → HasNeeds s (needing s streams archive) → IsValid (needing s streams archive)
valid_needing s streams archive valid has =
    let t : State = needing s streams archive in
    let later = hold_needing s streams archive (sound_of s valid) has in
    let used = active_later s.place (hold s) (hold t) later in
    let room = free_later s.shape s.place s.containers (hold s) (hold t) later in
    record {
      ranges = record {
        shape = valid.ranges.shape;
        some_containers = valid.ranges.some_containers;
        few_containers = valid.ranges.few_containers;
        some_buffers = valid.ranges.some_buffers;
        few_buffers = valid.ranges.few_buffers;
        place = valid.ranges.place;
      };
      policies = record {
        maximum = valid.policies.maximum;
        minimum = valid.policies.minimum;
        order = valid.policies.order;
        growth = valid.policies.growth;
      };
      tables = record {
        names = has.names;
        numbers = valid.tables.numbers;
        areas = All-weaker (IsArea s) (IsArea t)
            (λ area is. record { stream = has.there area.stream is.stream; largest = is.largest; cursors = is.cursors }) s.areas valid.tables.areas;
        dedicated = has.alone;
      };
      records = record {
        rising = valid.records.rising;
        records = All-weaker (IsRecord s) (IsRecord t)
            (λ entry is. record { stream = has.there entry.stream is.stream; named = is.named; below = is.below; previous = is.previous; undo_next = is.undo_next })
            s.records valid.records.records;
        open_block = valid.records.open_block;
      };
      stable = record { bases = has.bases; restarts = valid.stable.restarts; tail = has.tail };
      waiting = record {
        few = valid.waiting.few;
        rising = valid.waiting.rising;
        blocks = All-weaker (IsWaiting s) (IsWaiting t)
            (λ start is. record { container = is.container; sequence = is.sequence; first = is.first; below = is.below }) s.waiting valid.waiting.blocks;
      };
      space = record { active = omega (arith, used, valid.space.active); room = omega (arith, room, valid.space.room); two = valid.space.two };
    }

-- the base at a place of a list
abbrev pub base_at : List Stream → ℕ → ℕ
base_at streams k = option_map_or (λ (stream : Stream). stream.base) (slice_get streams k) null_lsn

pub set_length : (number lsn : ℕ) (streams : List Stream) → length (set_base number lsn streams) ≡ length streams
set_length number lsn [] = refl
set_length number lsn (stream ∷ streams) = elim (cases_Bool (number == 1)) [
  | inl here ↦ rw here refl
  | inr there ↦ rw there (ap suc (set_length (number - 1) lsn streams))
]

set_name : (number lsn : ℕ) (streams : List Stream) (k : ℕ) (d : Stream) → (slice_index_or (set_base number lsn streams) k d).name ≡ (slice_index_or streams k d).name
set_name number lsn [] k d = refl
set_name number lsn (stream ∷ streams) zero d = elim (cases_Bool (number == 1)) [ inl here ↦ rw here refl | inr there ↦ rw there refl ]
set_name number lsn (stream ∷ streams) (suc k) d = elim (cases_Bool (number == 1)) [
  | inl here ↦ rw here refl
  | inr there ↦ rw there (set_name (number - 1) lsn streams k d)
]

set_names : (number lsn : ℕ) (streams : List Stream) → AllPairs (λ (a b : Stream). a.name ≢ b.name) streams → AllPairs (λ (a b : Stream). a.name ≢ b.name) (set_base number lsn streams)
set_names number lsn streams differ i j d below within same =
    let as_long = set_length number lsn streams in
    differ i j d below (omega (arith, within, as_long)) (sym (set_name number lsn streams i d) ∙ same ∙ set_name number lsn streams j d)

set_there : (number lsn : ℕ) (streams : List Stream) (k : ℕ) → IsSome (slice_get streams k) → IsSome (slice_get (set_base number lsn streams) k)
set_there number lsn [] k some = some
set_there number lsn (stream ∷ streams) zero some = elim (cases_Bool (number == 1)) [ inl here ↦ rw here refl | inr there ↦ rw there refl ]
set_there number lsn (stream ∷ streams) (suc k) some = elim (cases_Bool (number == 1)) [
  | inl here ↦ rw here some
  | inr there ↦ rw there (set_there (number - 1) lsn streams k some)
]

set_bases : (number lsn bound : ℕ) (streams : List Stream) → lsn ≤ bound → AllByRecursion (λ (stream : Stream). stream.base ≤ bound) streams
    → AllByRecursion (λ (stream : Stream). stream.base ≤ bound) (set_base number lsn streams)
set_bases number lsn bound [] fits all = tt
set_bases number lsn bound (stream ∷ streams) fits all = elim (cases_Bool (number == 1)) [
  | inl here ↦ rw here (fits, all.1)
  | inr there ↦ rw there (all.0, set_bases (number - 1) lsn bound streams fits all.1)
]

-- where a number isn't the first
not_first : (number : ℕ) → (number == 1) ≡ false → 1 ≤ number → (number - 1 ≡ suc (number - 1 - 1)) × (1 ≤ number - 1)
not_first number other some = let differs = eqb-false number 1 other in (omega (arith, differs, some), omega (arith, differs, some))

-- a base that is set to a later one
pub set_higher : (number lsn : ℕ) (streams : List Stream) (k : ℕ) → 1 ≤ number → base_at streams (number - 1) ≤ lsn → base_at streams k ≤ base_at (set_base number lsn streams) k
set_higher number lsn [] k some rises = omega arith
set_higher number lsn (stream ∷ streams) zero some rises = elim (cases_Bool (number == 1)) [
  | inl here ↦
      let e : number ≡ 1 = eqb-true number 1 here in
      let F : ℕ → Type 0 = λ n. base_at (stream ∷ streams) (n - 1) ≤ lsn in
      rw here (subst F e rises)
  | inr there ↦ rw there (omega arith)
]
set_higher number lsn (stream ∷ streams) (suc k) some rises = elim (cases_Bool (number == 1)) [
  | inl here ↦ rw here (omega arith)
  | inr there ↦
      let below = not_first number there some in
      let F : ℕ → Type 0 = λ n. base_at (stream ∷ streams) n ≤ lsn in
      rw there (set_higher (number - 1) lsn streams k below.1 (subst F below.0 rises))
]

-- the same by the numbers of streams
there_of : (s t : State) (number : ℕ) → (IsSome (slice_get s.streams (number - 1)) → IsSome (slice_get t.streams (number - 1)))
    → IsSome (stream_at s number) → IsSome (stream_at t number)
there_of s t number kept some = elim (cases_Bool (number == 0)) [
  | inl none ↦ absurd (let gone = rw none at some in cc)
  | inr has ↦ rw has (kept (rw has at some))
]

pub higher_of : (s t : State) (number : ℕ) → base_at s.streams (number - 1) ≤ base_at t.streams (number - 1) → base_of s number ≤ base_of t number
higher_of s t number rises = elim (cases_Bool (number == 0)) [
  | inl none ↦ rw none (omega arith)
  | inr has ↦ rw has rises
]

-- the base of a stream that is there
pub based_at : (s : State) (number : ℕ) → IsSome (stream_at s number) → (1 ≤ number) × (base_of s number ≡ base_at s.streams (number - 1))
based_at s number some = elim (cases_Bool (number == 0)) [
  | inl none ↦ absurd (let gone = rw none at some in cc)
  | inr has ↦ (omega (arith, eqb-false number 0 has), rw has refl)
]

-- a base that moves forward to what is on the disk
pub valid_set_base : (s : State) (number lsn : ℕ) → IsValid s → IsSome (stream_at s number) → base_of s number ≤ lsn → lsn ≤ flushed s
    → IsValid (record s { streams = set_base number lsn s.streams })
valid_set_base s number lsn valid some rises stable =
    let t : State = needing s (set_base number lsn s.streams) s.archive in
    let at = based_at s number some in
    let above : base_at s.streams (number - 1) ≤ lsn = omega (arith, rises, at.1) in
    valid_needing s (set_base number lsn s.streams) s.archive valid (record {
      names = set_names number lsn s.streams valid.tables.names;
      alone = λ is. omega (arith, valid.tables.dedicated is, set_length number lsn s.streams);
      there = λ other. there_of s t other (set_there number lsn s.streams (other - 1));
      bases = All-from_recursion (λ (stream : Stream). stream.base ≤ flushed s) (set_base number lsn s.streams)
          (set_bases number lsn (flushed s) s.streams stable (recursion_from_All (λ (stream : Stream). stream.base ≤ flushed s) s.streams valid.stable.bases));
      higher = λ other _. higher_of s t other (set_higher number lsn s.streams (other - 1) at.0 above);
      tail = valid.stable.tail;
      later = hold_below_archive s;
    })

-- archiving that is turned on or off, or whose tail moves
pub valid_archive : (s : State) (archive : Option ℕ) → IsValid s → IfSome archive (λ tail. tail ≤ flushed s) → AllByRecursion (λ lsn. hold s ≤ lsn) (option_to_list archive)
    → IsValid (record s { archive = archive })
valid_archive s archive valid stable later = valid_needing s s.streams archive valid (record {
  names = valid.tables.names;
  alone = valid.tables.dedicated;
  there = λ number some. some;
  bases = valid.stable.bases;
  higher = λ number some. omega arith;
  tail = stable;
  later = later;
})

-- all records of a log that is flushed are on the disk
pub frontier_flushed : (s : State) → IsSound s → frontier s.place ≤ flushed (flush s)
frontier_flushed s sound = elim (cases_Bool (nat_lt 0 s.place.records)) [
  | inl some ↦ rw some (frontier_sealed s.shape s.place sound.ranges.place)
  | inr none ↦ rw none (omega (arith, ltb-false 0 s.place.records none))
]

-- the streams of a log that is flushed
pub flush_streams : (s : State) → (flush s).streams ≡ s.streams
flush_streams s = elim (cases_Bool (nat_lt 0 s.place.records)) [ inl some ↦ rw some refl | inr none ↦ rw none refl ]

-- what lies between a stream's base and the frontier
pub record IsBetween (s : State) (stream lsn : ℕ) : Type 0 where
  pub above : base_of s stream ≤ lsn
  pub below : lsn ≤ frontier s.place

both_of : (a b : Bool) → (a && b) ≡ true → (a ≡ true) × (b ≡ true)
both_of true b both = (refl, both)
both_of false b both = absurd (cc)

-- a live record of the stream
of_live : (s : State) (stream : ℕ) (entries : List LogEntry) → AllByRecursion (λ (entry : LogEntry). entry.lsn < frontier s.place) entries
    → AllByRecursion (λ (entry : LogEntry). ((entry.stream == stream) && is_live s entry) ≡ true → (base_of s stream ≤ entry.lsn) × (entry.lsn < frontier s.place)) entries
of_live s stream [] all = tt
of_live s stream (entry ∷ entries) all = (
  λ passes.
      let both = both_of _ _ passes in
      let F : ℕ → Type 0 = λ n. base_of s n ≤ entry.lsn in
      (subst F (eqb-true entry.stream stream both.0) (leb-true (base_of s entry.stream) entry.lsn both.1), all.0),
  of_live s stream entries all.1,
)

pub passing : {A : Type 0} (p : A → Bool) (P : A → Type 0) (xs : List A) → AllByRecursion (λ x. p x ≡ true → P x) xs → AllByRecursion P (filter p xs)
passing p P [] all = tt
passing p P (x ∷ xs) all = elim (cases_Bool (p x)) [
  | inl passes ↦ rw passes (all.0 passes, passing p P xs all.1)
  | inr fails ↦ rw fails (passing p P xs all.1)
]

last_has : (P : LogEntry → Type 0) (found : Option LogEntry) (entries : List LogEntry) → IfSome found P → AllByRecursion P entries → IfSome (last_or found entries) P
last_has P found [] some all = some
last_has P found (entry ∷ entries) some all = last_has P (Some entry) entries all.0 all.1

lsn_of_last : (s : State) (stream : ℕ) (found : Option LogEntry) → IfSome found (λ (entry : LogEntry). (base_of s stream ≤ entry.lsn) × (entry.lsn < frontier s.place))
    → 0 < lsn_or_null found → (base_of s stream ≤ lsn_or_null found) × (lsn_or_null found < frontier s.place)
lsn_of_last s stream None has some = absurd (omega (arith, some))
lsn_of_last s stream (Some entry) has some = has

-- a new base that a log allows
pub base_between : (s : State) (stream lsn : ℕ) → IsSound s → is_base s stream lsn ≡ true → IsBetween s stream lsn
base_between s stream lsn sound allowed =
    let each = of_live s stream s.records (all_below s sound) in
    elim (cases_Bool (is_some (live_at s stream lsn))) [
      | inl here ↦
          let found = found_at (λ (entry : LogEntry). (entry.stream == stream) && is_live s entry) (λ n. (base_of s stream ≤ n) × (n < frontier s.place)) lsn s.records each here in
          record { above = found.0; below = omega (arith, found.1) }
      | inr there ↦
          let behind = both_of _ _ (either_of _ _ allowed there) in
          let P : LogEntry → Type 0 = λ entry. (base_of s stream ≤ entry.lsn) × (entry.lsn < frontier s.place) in
          let last = lsn_of_last s stream (last_or None (live s stream))
          (last_has P None (live s stream) tt (passing (λ (entry : LogEntry). (entry.stream == stream) && is_live s entry) P s.records each))
          (ltb-true null_lsn (last_live s stream) behind.0) in
          let is : lsn ≡ last_live s stream + 1 = eqb-true lsn (last_live s stream + 1) behind.1 in
          record { above = omega (arith, last.0, is); below = omega (arith, last.1, is) }
    ]
  where
    either_of : (a b : Bool) → (a || b) ≡ true → a ≡ false → b ≡ true
    either_of a b some no_a = cc
