-- A valid state stays valid where its open block is sealed and what waits is written.
use Rattle.clfs_laws.proofs.Words.{◌≡◌, ℕ, zero, suc, ◌+◌, ◌-◌, ◌*◌, ◌<◌, ◌≤◌, Bool, true, false, refl, sym, ap, ◌∙◌, subst, inl, inr, arith, List, [], ◌∷◌}
use Rattle.clfs_laws.proofs.Words.{◌++◌, length, Option, Some, None, map, All, IfSome, IsSome, nat_lt, if◌then◌else◌, slice_index, AllByRecursion}
use Rattle.clfs_laws.proofs.Words.{range_with_len, IsStrictlyIncreasing, option_to_list, cases_Bool, ltb-true, ltb-false, All-weaker, All-push}
use Rattle.clfs_laws.proofs.Words.{All-from_recursion, recursion_from_All, container_of, sequence_of, IsWithin, sealed, frontier, block_end}
use Rattle.clfs_laws.proofs.Words.{active_containers, free_sectors, Place, Shape, LogEntry, Restart, State, Stream, hold, active, live_lsns, least_or, free}
use Rattle.clfs_laws.proofs.Words.{reserved, block_start, first_or, flushed, seal, flush, entry_at, IsValid, HasPolicies, IsArea, IsRecord, IsWaiting}
use Rattle.clfs_laws.proofs.Words.{HasWaiting}
use Rattle.clfs_model.specs.Valid.{HasRanges, HasTables, HasRecords, HasSpace}
use Rattle.clfs_laws.proofs.FallingLists.{rising_rest}
use Rattle.clfs_laws.proofs.RecordsOfCalls.{seal_records}
use Rattle.clfs_laws.proofs.LsnOrder.{small_offset, small_end, frontier_sealed, closed_end, start_below_sealed, container_of_frontier, none_of_block}
use Rattle.clfs_laws.proofs.LsnOrder.{first_of_block}

-- a state with other records, another place and other blocks that wait
abbrev pub moved : State → List LogEntry → Place → List ℕ → State
moved s records place waiting = record s { records = records; place = place; waiting = waiting }

-- bases and the archive tail are on the disk
pub record HasStableBases (s : State) : Type 0 where
  pub bases : All (λ (stream : Stream). stream.base ≤ flushed s) s.streams
  pub tail : IfSome s.archive (λ tail. tail ≤ flushed s)

-- restart areas are on the disk
abbrev pub HasRestarts : State → Type 0
HasRestarts s = All (λ (entry : LogEntry). entry.kind ≡ Restart → entry.lsn < flushed s) s.records

-- a state that is valid but for restart areas, which may not be on the disk yet
pub record IsSound (s : State) : Type 0 where
  pub ranges : HasRanges s
  pub policies : HasPolicies s
  pub tables : HasTables s
  pub records : HasRecords s
  pub stable : HasStableBases s
  pub waiting : HasWaiting s
  pub space : HasSpace s

pub sound_of : (s : State) → IsValid s → IsSound s
sound_of s valid = record {
  ranges = valid.ranges;
  policies = valid.policies;
  tables = valid.tables;
  records = valid.records;
  stable = record { bases = valid.stable.bases; tail = valid.stable.tail };
  waiting = valid.waiting;
  space = valid.space;
}

pub valid_of : (s : State) → IsSound s → HasRestarts s → IsValid s
valid_of s sound restarts = record {
  ranges = sound.ranges;
  policies = sound.policies;
  tables = sound.tables;
  records = sound.records;
  stable = record { bases = sound.stable.bases; restarts = restarts; tail = sound.stable.tail };
  waiting = sound.waiting;
  space = sound.space;
}

-- restart areas stay on the disk
pub restarts_still : (s t : State) → flushed s ≤ flushed t → HasRestarts s → All (λ (entry : LogEntry). entry.kind ≡ Restart → entry.lsn < flushed t) s.records
restarts_still s t more restarts =
    let P : State → LogEntry → Type 0 = λ u entry. entry.kind ≡ Restart → entry.lsn < flushed u in
    All-weaker (P s) (P t) (λ entry below restart. omega (arith, below restart, more)) s.records restarts

-- what makes it valid
pub record HasMoved (s t : State) : Type 0 where
  pub place : IsWithin t.shape t.place
  pub records : HasRecords t
  pub stable : HasStableBases t
  pub waiting : HasWaiting t
  pub active : active t ≤ s.containers
  pub room : reserved s ≤ free t

pub sound_moved : (s : State) (records : List LogEntry) (place : Place) (waiting : List ℕ) → IsSound s → HasMoved s (moved s records place waiting)
    → IsSound (moved s records place waiting)
sound_moved s records place waiting sound has = record {
  ranges = record {
    shape = sound.ranges.shape;
    some_containers = sound.ranges.some_containers;
    few_containers = sound.ranges.few_containers;
    some_buffers = sound.ranges.some_buffers;
    few_buffers = sound.ranges.few_buffers;
    place = has.place;
  };
  policies = record {
    maximum = sound.policies.maximum;
    minimum = sound.policies.minimum;
    order = sound.policies.order;
    growth = sound.policies.growth;
  };
  tables = record {
    names = sound.tables.names;
    numbers = sound.tables.numbers;
    areas = All-weaker (IsArea s) (IsArea (moved s records place waiting))
        (λ area is. record { stream = is.stream; largest = is.largest; cursors = is.cursors }) s.areas sound.tables.areas;
    dedicated = sound.tables.dedicated;
  };
  records = has.records;
  stable = has.stable;
  waiting = has.waiting;
  space = record { active = has.active; room = has.room; two = sound.space.two };
}

-- the element after the first one
behind_first : (n : ℕ) (ns : List ℕ) (k : ℕ) → slice_index (n ∷ ns) (k + 1) ≡ slice_index ns k
behind_first n ns k = let e : k + 1 ≡ suc k = omega arith in ap (slice_index (n ∷ ns)) e

-- numbers that rise, with a smaller one in front
increasing_cons : (n m : ℕ) (ns : List ℕ) → n < m → IsStrictlyIncreasing (m ∷ ns) → IsStrictlyIncreasing (n ∷ m ∷ ns)
increasing_cons n m ns below rising zero within = below
increasing_cons n m ns below rising (suc k) within =
    let step : slice_index (m ∷ ns) k < slice_index (m ∷ ns) (k + 1) = rising k (omega (arith, within)) in
    let first : slice_index (n ∷ m ∷ ns) (suc k) ≡ slice_index (m ∷ ns) k = refl in
    let second : slice_index (n ∷ m ∷ ns) (suc k + 1) ≡ slice_index (m ∷ ns) (k + 1) =
    let e : suc k + 1 ≡ suc (k + 1) = omega arith in ap (slice_index (n ∷ m ∷ ns)) e in
    omega (arith, step, first, second)

-- numbers that all lie below another one, which is put after them
pub increasing_push : (ns : List ℕ) (n : ℕ) → IsStrictlyIncreasing ns → AllByRecursion (λ m. m < n) ns → IsStrictlyIncreasing (ns ++ n ∷ [])
increasing_push [] n rising below = λ k within. absurd (omega (arith, within))
increasing_push (m ∷ []) n rising below = increasing_cons m n [] below.0 (λ k within. absurd (omega (arith, within)))
increasing_push (m ∷ o ∷ ns) n rising below =
    increasing_cons m o (ns ++ n ∷ []) (rising 0 (omega arith)) (increasing_push (o ∷ ns) n (rising_rest m (o ∷ ns) rising) below.1)

-- records below the start of the open block's successor
pub records_below : (s : State) → IsSound s → AllByRecursion (λ (entry : LogEntry). entry.lsn < block_start (sealed s.place)) s.records
records_below s sound =
    let above = frontier_sealed s.shape s.place sound.ranges.place in
    recursion_from_All (λ (entry : LogEntry). entry.lsn < block_start (sealed s.place)) s.records
    (All-weaker (IsRecord s) (λ (entry : LogEntry). entry.lsn < block_start (sealed s.place)) (λ entry is. omega (arith, is.below, above)) s.records sound.records.records)

-- the hold's container where the place moves within its own
pub hold_container : (lsns : List ℕ) (a b : ℕ) → container_of a ≡ container_of b → container_of (least_or a lsns) ≡ container_of (least_or b lsns)
hold_container [] a b same = same
hold_container (n ∷ ns) a b same = refl

-- free sectors and containers in use by the hold's container alone
pub active_by : (place : Place) (a b : ℕ) → container_of a ≡ container_of b → active_containers place a ≡ active_containers place b
active_by place a b same = ap (λ c. place.container - c + 1) same

pub free_by : (shape : Shape) (place : Place) (containers a b : ℕ) → container_of a ≡ container_of b
    → free_sectors shape place a containers ≡ free_sectors shape place b containers
free_by shape place containers a b same = grind (arith, same)

-- the log with its open block sealed, and these blocks waiting
abbrev pub sealed_with : State → List ℕ → State
sealed_with s waiting = moved s s.records (sealed s.place) waiting

pub sealed_hold : (s : State) (waiting : List ℕ) → IsSound s → IsWithin s.shape (sealed s.place) → container_of (hold (sealed_with s waiting)) ≡ container_of (hold s)
sealed_hold s waiting sound within =
    let after = container_of_frontier s.shape (sealed s.place) sound.ranges.shape within in
    let before = container_of_frontier s.shape s.place sound.ranges.shape sound.ranges.place in
    hold_container (option_to_list s.archive ++ live_lsns s) (frontier (sealed s.place)) (frontier s.place) (after ∙ sym before)

pub sealed_within : (s : State) → IsSound s → IsWithin s.shape (sealed s.place)
sealed_within s sound = record {
  container = sound.ranges.place.container;
  offset = omega arith;
  end = omega (arith, sound.ranges.place.end);
  block = inl (refl, refl);
}

-- what is stable stays so where more is flushed
pub stable_still : (s t : State) → s.streams ≡ t.streams → s.archive ≡ t.archive → flushed s ≤ flushed t → HasStableBases s → HasStableBases t
stable_still s t streams archive more stable = record {
  bases =
      let F : List Stream → Type 0 = All (λ (stream : Stream). stream.base ≤ flushed t) in
      subst F streams (All-weaker (λ (stream : Stream). stream.base ≤ flushed s) (λ (stream : Stream). stream.base ≤ flushed t) (λ stream below. omega (arith, below, more)) s.streams stable.bases);
  tail =
      let F : Option ℕ → Type 0 = λ tail. IfSome tail (λ (lsn : ℕ). lsn ≤ flushed t) in
      subst F archive (tail_still s.archive (flushed s) (flushed t) more stable.tail);
}
  where
    tail_still : (archive : Option ℕ) (m n : ℕ) → m ≤ n → IfSome archive (λ (lsn : ℕ). lsn ≤ m) → IfSome archive (λ (lsn : ℕ). lsn ≤ n)
    tail_still None m n more is = tt
    tail_still (Some tail) m n more is = omega (arith, is, more)

sealed_space : (s : State) (waiting : List ℕ) → IsSound s → (active (sealed_with s waiting) ≤ s.containers) × (reserved s ≤ free (sealed_with s waiting))
sealed_space s waiting sound =
    let within = sealed_within s sound in
    let hold_same = sealed_hold s waiting sound within in
    let t : State = sealed_with s waiting in
    let used : active t ≡ active s = active_by (sealed s.place) (hold t) (hold s) hold_same in
    let room : free t ≡ free_sectors s.shape (sealed s.place) (hold s) s.containers = free_by s.shape (sealed s.place) s.containers (hold t) (hold s) hold_same in
    let kept : free_sectors s.shape (sealed s.place) (hold s) s.containers ≡ free s = omega arith in
    (omega (arith, used, sound.space.active), omega (arith, room, kept, sound.space.room))

pub sound_sealed : (s : State) (waiting : List ℕ) → IsSound s → HasWaiting (sealed_with s waiting) → flushed s ≤ flushed (sealed_with s waiting) → IsSound (sealed_with s waiting)
sound_sealed s waiting sound waits more =
    let t : State = sealed_with s waiting in
    let within = sealed_within s sound in
    let above = frontier_sealed s.shape s.place sound.ranges.place in
    let low = small_end s.shape s.place sound.ranges.shape sound.ranges.place in
    let space = sealed_space s waiting sound in
    sound_moved s s.records (sealed s.place) waiting sound (record {
      place = within;
      records = record {
        rising = sound.records.rising;
        records = All-weaker (IsRecord s) (IsRecord t)
            (λ entry is. record { stream = is.stream; named = is.named; below = omega (arith, is.below, above); previous = is.previous; undo_next = is.undo_next }) s.records sound.records.records;
        open_block = ap (map (λ (entry : LogEntry). sequence_of entry.lsn))
            (none_of_block s.place.container (512 * block_end s.place) s.records (omega arith) (omega (arith, low)) (records_below s sound));
      };
      stable = stable_still s t refl refl more sound.stable;
      waiting = waits;
      active = space.0;
      room = space.1;
    })

-- nothing waits
pub none_waits : (s : State) (records : List LogEntry) (place : Place) → 1 ≤ s.buffers → HasWaiting (moved s records place [])
none_waits s records place some = record {
  few = omega (arith, some);
  rising = λ k within. absurd (omega (arith, within));
  blocks = All-from_recursion (IsWaiting (moved s records place [])) [] tt;
}

-- the first of numbers below another one
first_below : (ns : List ℕ) (n : ℕ) → AllByRecursion (λ m. m < n) ns → first_or n ns ≤ n
first_below [] n below = omega arith
first_below (m ∷ ns) n below = omega (arith, below.0)

-- what waits begins below the open block
waiting_below : (s : State) → HasWaiting s → AllByRecursion (λ start. start < block_start s.place) s.waiting
waiting_below s waits = recursion_from_All (λ start. start < block_start s.place) s.waiting
    (All-weaker (IsWaiting s) (λ start. start < block_start s.place) (λ start is. is.below) s.waiting waits.blocks)

-- no record is stable from the open block on
pub flushed_below : (s : State) → HasWaiting s → flushed s ≤ block_start s.place
flushed_below s waits = first_below s.waiting (block_start s.place) (waiting_below s waits)

-- the log with nothing waiting
pub sound_written : (s : State) → IsSound s → IsSound (record s { waiting = [] })
sound_written s sound = let t : State = record s { waiting = [] } in sound_moved s s.records s.place [] sound (record {
  place = sound.ranges.place;
  records = record {
    rising = sound.records.rising;
    records = All-weaker (IsRecord s) (IsRecord t)
        (λ entry is. record { stream = is.stream; named = is.named; below = is.below; previous = is.previous; undo_next = is.undo_next }) s.records sound.records.records;
    open_block = sound.records.open_block;
  };
  stable = stable_still s t refl refl (flushed_below s sound.waiting) sound.stable;
  waiting = none_waits s s.records s.place sound.ranges.some_buffers;
  active = sound.space.active;
  room = sound.space.room;
})

-- the first of some numbers and another one after them
first_of_more : (ns : List ℕ) (n m : ℕ) → first_or m (ns ++ n ∷ []) ≡ first_or n ns
first_of_more [] n m = refl
first_of_more (o ∷ ns) n m = refl

-- the first of an open block's records is at its start
pub opened_first : (s : State) → IsSound s → 0 < s.place.records → IsSome (entry_at s (block_start s.place))
opened_first s sound some =
    first_of_block s.place.container s.place.offset s.records (range_with_len 1 (s.place.records - 1)) (sound.records.open_block ∙ begins s.place.records some)
  where
    begins : (n : ℕ) → 0 < n → range_with_len 0 n ≡ 0 ∷ range_with_len 1 (n - 1)
    begins zero some = absurd (omega (arith, some))
    begins (suc n) some = let e : suc n - 1 ≡ n = omega arith in rw e refl

-- the open block waits as the last
one_more_waits : (s : State) → IsSound s → 0 < s.place.records → length (s.waiting ++ block_start s.place ∷ []) < s.buffers
    → HasWaiting (sealed_with s (s.waiting ++ block_start s.place ∷ []))
one_more_waits s sound some few =
    let t : State = sealed_with s (s.waiting ++ block_start s.place ∷ []) in
    let above = start_below_sealed s.shape s.place sound.ranges.place some in
    let low = small_offset s.shape s.place sound.ranges.shape sound.ranges.place in
    record {
      few = few;
      rising = increasing_push s.waiting (block_start s.place) sound.waiting.rising (waiting_below s sound.waiting);
      blocks = All-push (IsWaiting t) s.waiting (block_start s.place)
          (All-weaker (IsWaiting s) (IsWaiting t) (λ start is. record { container = is.container; sequence = is.sequence; first = is.first; below = omega (arith, is.below, above) })
          s.waiting sound.waiting.blocks)
          (record { container = omega (arith, low); sequence = omega (arith, sound.ranges.place.offset); first = opened_first s sound some; below = above });
    }

sealed_by : (s : State) (few : Bool) → IsSound s → 0 < s.place.records → nat_lt (length (s.waiting ++ block_start s.place ∷ [])) s.buffers ≡ few
    → IsSound (sealed_with s (if few then s.waiting ++ block_start s.place ∷ [] else []))
sealed_by s true sound some is =
    let more : flushed s ≤ flushed (sealed_with s (s.waiting ++ block_start s.place ∷ [])) =
    omega (arith, first_of_more s.waiting (block_start s.place) (block_start (sealed s.place))) in
    sound_sealed s (s.waiting ++ block_start s.place ∷ []) sound (one_more_waits s sound some (ltb-true (length (s.waiting ++ block_start s.place ∷ [])) s.buffers is)) more
sealed_by s false sound some is =
    let above = start_below_sealed s.shape s.place sound.ranges.place some in
    sound_sealed s [] sound (none_waits s s.records (sealed s.place) sound.ranges.some_buffers) (omega (arith, above, flushed_below s sound.waiting))

-- a log whose open block is sealed stays sound
pub sound_seal : (s : State) → IsSound s → IsSound (seal s)
sound_seal s sound = elim (cases_Bool (nat_lt 0 s.place.records)) [
  | inl some ↦ rw some (sealed_by s (nat_lt (length (s.waiting ++ block_start s.place ∷ [])) s.buffers) sound (ltb-true 0 s.place.records some) refl)
  | inr none ↦ rw none sound
]

-- a log that is flushed stays sound
pub sound_flush : (s : State) → IsSound s → IsSound (flush s)
sound_flush s sound = sound_written (seal s) (sound_seal s sound)

flushed_by : (s : State) (few : Bool) → IsSound s → 0 < s.place.records
    → flushed s ≤ flushed (sealed_with s (if few then s.waiting ++ block_start s.place ∷ [] else []))
flushed_by s true sound some = omega (arith, first_of_more s.waiting (block_start s.place) (block_start (sealed s.place)))
flushed_by s false sound some = omega (arith, start_below_sealed s.shape s.place sound.ranges.place some, flushed_below s sound.waiting)

-- what is on the disk stays there where the open block is sealed
pub flushed_seal : (s : State) → IsSound s → flushed s ≤ flushed (seal s)
flushed_seal s sound = elim (cases_Bool (nat_lt 0 s.place.records)) [
  | inl some ↦ rw some (flushed_by s (nat_lt (length (s.waiting ++ block_start s.place ∷ [])) s.buffers) sound (ltb-true 0 s.place.records some))
  | inr none ↦ rw none (omega arith)
]

-- and where the log is flushed
pub flushed_flush : (s : State) → IsSound s → flushed s ≤ flushed (flush s)
flushed_flush s sound = let below = flushed_below (seal s) (sound_seal s sound).waiting in omega (arith, flushed_seal s sound, below)

-- a sealed log has no open block, and its place is where the open block ends
pub record IsReady (s t : State) : Type 0 where
  pub records : t.place.records ≡ 0
  pub container : t.place.container ≡ s.place.container
  pub offset : t.place.offset ≡ 512 * block_end s.place

pub ready_seal : (s : State) → IsSound s → IsReady s (seal s)
ready_seal s sound = elim (cases_Bool (nat_lt 0 s.place.records)) [
  | inl some ↦ rw some (record { records = refl; container = refl; offset = refl })
  | inr none ↦ rw none (
      let empty : s.place.records ≡ 0 = omega (arith, ltb-false 0 s.place.records none) in
      record { records = empty; container = refl; offset = closed_end s.shape s.place sound.ranges.place empty })
]

-- all records of a log that is flushed are on the disk
flushed_all : (s : State) → IsSound s → block_start (seal s).place ≡ frontier (seal s).place
flushed_all s sound = omega (arith, (ready_seal s sound).records)

-- a log that is flushed is valid, whatever restart areas weren't on the disk
pub valid_flush : (s : State) → IsSound s → IsValid (flush s)
valid_flush s sound =
    let after = sound_flush s sound in
    let whole = flushed_all s sound in
    valid_of (flush s) after (All-weaker (IsRecord (flush s)) (λ (entry : LogEntry). entry.kind ≡ Restart → entry.lsn < flushed (flush s))
    (λ entry is restart. omega (arith, is.below, whole)) (flush s).records after.records.records)

-- a log whose open block is sealed stays valid
pub valid_seal : (s : State) → IsValid s → IsValid (seal s)
valid_seal s valid =
    let sound = sound_of s valid in
    let same = seal_records s in
    let still = restarts_still s (seal s) (flushed_seal s sound) valid.stable.restarts in
    let F : List LogEntry → Type 0 = All (λ (entry : LogEntry). entry.kind ≡ Restart → entry.lsn < flushed (seal s)) in
    valid_of (seal s) (sound_seal s sound) (subst F (sym same) still)
