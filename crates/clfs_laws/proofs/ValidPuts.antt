-- A record that is put into a log with room for it leaves a log that is sound, with fewer free sectors by its own at most.
use Rattle.clfs_laws.proofs.Words.{◌≡◌, ℕ, ◌+◌, ◌-◌, ◌*◌, ◌<◌, ◌≤◌, Bool, true, false, refl, sym, ap, ◌∙◌, subst, inl, inr, ◌⊎◌, arith, List, [], ◌∷◌, ◌++◌}
use Rattle.clfs_laws.proofs.Words.{length, IsSome, sum_by, nat_lt, if◌then◌else◌, cases_Bool, nat_tests, lsn_number, container_of, IsShape, size, own}
use Rattle.clfs_laws.proofs.Words.{longest, IsWithin, frontier, block_end, begun, joins, begins_here, active_containers, free_sectors, left_sectors, Place}
use Rattle.clfs_laws.proofs.Words.{Shape, LogEntry, State, Area, Stream, stream_at, hold, free, reserved, block_start, flushed, seal, flush, next_lsn, put}
use Rattle.clfs_laws.proofs.Words.{HasRoom, HasSpaceLaws}
use Rattle.clfs_laws.proofs.OwnSectors.{own_fits}
use Rattle.clfs_laws.proofs.ValidPlaces.{IsSound, IsReady, sealed_hold, sealed_within, sound_seal, sound_flush, ready_seal, flushed_seal, flushed_flush}
use Rattle.clfs_laws.proofs.ValidPlaces.{active_by, free_by}
use Rattle.clfs_laws.proofs.SoundPuts.{with_record}
use Rattle.clfs_laws.proofs.SoundJoins.{IsJoining, HasPlace, sound_joined, sound_begun}

-- the place after a record that joins the open block
within_joined : (shape : Shape) (place : Place) (n : ℕ) → IsShape shape → IsWithin shape place → joins shape place n ≡ true
    → IsWithin shape (record place { used = place.used + size n; records = place.records + 1 })
within_joined shape place n is within fits = record {
  container = within.container;
  offset = within.offset;
  end = grind (arith, nat_tests, fits, within.end, within.offset);
  block = inr (record {
    some_records = omega arith;
    few_records = grind (arith, nat_tests, fits);
    some_sectors = omega arith;
    few_sectors = grind (arith, nat_tests, fits);
  });
}

-- a block with one record, where it fits its container
within_begun : (shape : Shape) (container sector n : ℕ) → IsShape shape → n ≤ longest shape → 1 ≤ container → sector + own n ≤ shape.container_sectors
    → IsWithin shape (begun container sector n)
within_begun shape container sector n is short some fits = record {
  container = some;
  offset = omega arith;
  end = omega (arith, fits);
  block = inr (record {
    some_records = omega arith;
    few_records = omega arith;
    some_sectors = omega arith;
    few_sectors = own_fits shape.block_sectors n is.some_sectors short;
  });
}

-- a log that is sealed, or flushed, before a record begins a block
pub record IsReadied (s m : State) : Type 0 where
  pub sound : IsSound m
  pub ready : IsReady s m
  pub shape : m.shape ≡ s.shape
  pub containers : m.containers ≡ s.containers
  pub areas : m.areas ≡ s.areas
  pub streams : m.streams ≡ s.streams
  pub records : m.records ≡ s.records
  pub hold : container_of (hold m) ≡ container_of (hold s)
  pub more : flushed s ≤ flushed m

-- a log in which the open block is sealed is as it was but for the place and what waits
pub record IsSealed (s m : State) : Type 0 where
  pub shape : m.shape ≡ s.shape
  pub containers : m.containers ≡ s.containers
  pub areas : m.areas ≡ s.areas
  pub streams : m.streams ≡ s.streams
  pub records : m.records ≡ s.records
  pub hold : container_of (hold m) ≡ container_of (hold s)

sealed_fields : (s : State) → IsSound s → IsSealed s (seal s)
sealed_fields s sound = elim (cases_Bool (nat_lt 0 s.place.records)) [
  | inl some ↦ rw some (record { shape = refl; containers = refl; areas = refl; streams = refl; records = refl; hold = sealed_hold s [] sound (sealed_within s sound) })
  | inr none ↦ rw none (record { shape = refl; containers = refl; areas = refl; streams = refl; records = refl; hold = refl })
]

readied_seal : (s : State) → IsSound s → IsReadied s (seal s)
readied_seal s sound = let same = sealed_fields s sound in record {
  sound = sound_seal s sound;
  ready = ready_seal s sound;
  shape = same.shape;
  containers = same.containers;
  areas = same.areas;
  streams = same.streams;
  records = same.records;
  hold = same.hold;
  more = flushed_seal s sound;
}

pub readied_flush : (s : State) → IsSound s → IsReadied s (flush s)
readied_flush s sound =
    let same = sealed_fields s sound in
    let ready = ready_seal s sound in
    record {
      sound = sound_flush s sound;
      ready = record { records = ready.records; container = ready.container; offset = ready.offset };
      shape = same.shape;
      containers = same.containers;
      areas = same.areas;
      streams = same.streams;
      records = same.records;
      hold = same.hold;
      more = flushed_flush s sound;
    }

-- a log with room for one more record of n bytes
pub record TakesRecord (s : State) (n : ℕ) : Type 0 where
  pub short : n ≤ longest s.shape
  pub room : reserved s + own n ≤ free s

pub has_room_for : (s : State) (n : ℕ) → IsSound s → TakesRecord s n → HasRoom s.shape s.place (hold s) s.containers n
has_room_for s n sound takes = record {
  is_shape = sound.ranges.shape;
  is_within = sound.ranges.place;
  length = takes.short;
  active = sound.space.active;
  free = omega (arith, takes.room);
}

-- the sectors that a place has by the hold of a log that was made ready
pub free_readied : (s m : State) (place : Place) → IsReadied s m → free_sectors m.shape place (hold m) m.containers ≡ free_sectors s.shape place (hold s) s.containers
free_readied s m place is =
    free_by m.shape place m.containers (hold m) (hold s) is.hold
    ∙ ap (λ (shape : Shape). free_sectors shape place (hold s) m.containers) is.shape
    ∙ ap (λ (containers : ℕ). free_sectors s.shape place (hold s) containers) is.containers

-- a log that was made ready has a place that the log before had
place_readied : (s m : State) (place : Place) → IsReadied s m → IsWithin s.shape place → active_containers place (hold s) ≤ s.containers
    → reserved s ≤ free_sectors s.shape place (hold s) s.containers → HasPlace m place
place_readied s m place is within used room =
    let active_same = active_by place (hold m) (hold s) is.hold in
    let free_same = free_readied s m place is in
    let reserved_same : reserved m ≡ reserved s = ap (λ (areas : List Area). sum_by (λ (area : Area). area.held) areas) is.areas in
    record {
      within = let F : Shape → Type 0 = λ shape. IsWithin shape place in subst F (sym is.shape) within;
      used = omega (arith, used, active_same, is.containers);
      room = omega (arith, room, free_same, reserved_same);
    }

-- a record of n bytes that joins s at this LSN
abbrev pub placed : LogEntry → ℕ → LogEntry
placed entry lsn = record entry { lsn = lsn }

-- the log after a record was put into it
pub record IsPut (s t : State) (n : ℕ) : Type 0 where
  pub sound : IsSound t
  pub free : free s ≤ free t + own n
  pub more : flushed s ≤ flushed t

put_joined : HasSpaceLaws → (s : State) (entry : LogEntry) → IsSound s → TakesRecord s (length entry.bytes) → joins s.shape s.place (length entry.bytes) ≡ true
    → IsJoining s (placed entry (frontier s.place))
    → IsPut s (with_record s (placed entry (frontier s.place)) (record s.place { used = s.place.used + size (length entry.bytes); records = s.place.records + 1 })) (length entry.bytes)
put_joined space s entry sound takes fits joining =
    let n = length entry.bytes in
    let place : Place = record s.place { used = s.place.used + size n; records = s.place.records + 1 } in
    let after : free_sectors s.shape s.place (hold s) s.containers - own n ≤ free_sectors s.shape place (hold s) s.containers =
    let all = space.append s.shape s.place (hold s) s.containers n (has_room_for s n sound takes) in rw fits at all in
    let joined = sound_joined s (placed entry (frontier s.place)) (s.place.used + size n) sound joining (grind (arith, nat_tests, fits)) (grind (arith, nat_tests, fits)) refl (record {
      within = within_joined s.shape s.place n sound.ranges.shape sound.ranges.place fits;
      used = sound.space.active;
      room = omega (arith, after, takes.room);
    }) in
    record { sound = joined.sound; free = omega (arith, joined.free, after); more = joined.more }

-- into a new block, at some sector of a container
put_begun : (s m : State) (entry : LogEntry) (container sector : ℕ) → IsSound s → TakesRecord s (length entry.bytes) → IsReadied s m
    → IsJoining s (placed entry (lsn_number container (512 * sector) 0)) → 1 ≤ container → sector + own (length entry.bytes) ≤ s.shape.container_sectors
    → block_start m.place ≤ lsn_number container (512 * sector) 0
    → ((m.waiting ≡ []) ⊎ (m.place.container ≡ container)) → active_containers (begun container sector (length entry.bytes)) (hold s) ≤ s.containers
    → free s - own (length entry.bytes) ≤ free_sectors s.shape (begun container sector (length entry.bytes)) (hold s) s.containers
    → IsPut s (record m { records = s.records ++ placed entry (lsn_number container (512 * sector) 0) ∷ []; place = begun container sector (length entry.bytes) }) (length entry.bytes)
put_begun s m entry container sector sound takes is joining some fits above waits used after =
    let n = length entry.bytes in
    let place : Place = begun container sector n in
    let e : LogEntry = placed entry (lsn_number container (512 * sector) 0) in
    let has = place_readied s m place is (within_begun s.shape container sector n sound.ranges.shape takes.short some fits) used (omega (arith, after, takes.room)) in
    let same = free_readied s m place is in
    let there : IsSome (stream_at m e.stream) =
    let F : List Stream → Type 0 = λ streams. IsSome (stream_at (record s { streams = streams }) e.stream) in subst F (sym is.streams) joining.stream in
    let joined = sound_begun m e container sector n is.sound (record { stream = there; previous = joining.previous; undo_next = joining.undo_next })
    is.ready.records refl above waits has in
    let result : IsPut s (with_record m e place) n = record { sound = joined.sound; free = omega (arith, joined.free, after, same); more = omega (arith, is.more, joined.more) } in
    let G : List LogEntry → Type 0 = λ records. IsPut s (record m { records = records ++ e ∷ []; place = place }) n in
    subst G is.records result

-- a record that doesn't fit into its container finds the next one
pub next_used : (s : State) (n : ℕ) → IsSound s → TakesRecord s n → begins_here s.shape s.place n ≡ false → active_containers (begun (s.place.container + 1) 0 n) (hold s) ≤ s.containers
next_used s n sound takes beyond =
    let long = own_fits s.shape.block_sectors n sound.ranges.shape.some_sectors takes.short in
    let left : s.shape.container_sectors - block_end s.place < own n = grind (arith, nat_tests, beyond) in
    next_one s n (omega (arith, long, left)) takes.room
  where
    next_one : (s : State) (n : ℕ) → left_sectors s.shape s.place - (s.shape.block_sectors - 1) ≡ 0 → reserved s + own n ≤ free s
        → active_containers (begun (s.place.container + 1) 0 n) (hold s) ≤ s.containers
    next_one s n none room = grind (arith, none, room)

put_here : HasSpaceLaws → (s : State) (entry : LogEntry) → IsSound s → TakesRecord s (length entry.bytes) → joins s.shape s.place (length entry.bytes) ≡ false
    → begins_here s.shape s.place (length entry.bytes) ≡ true → IsJoining s (placed entry (lsn_number s.place.container (512 * block_end s.place) 0))
    → IsPut s (record (seal s) {
      records = s.records ++ placed entry (lsn_number s.place.container (512 * block_end s.place) 0) ∷ [];
      place = begun s.place.container (block_end s.place) (length entry.bytes);
    }) (length entry.bytes)
put_here space s entry sound takes apart here joining =
    let n = length entry.bytes in
    let is = readied_seal s sound in
    let after : free s - own n ≤ free_sectors s.shape (begun s.place.container (block_end s.place) n) (hold s) s.containers =
    let all = space.append s.shape s.place (hold s) s.containers n (has_room_for s n sound takes) in rw (apart, here) at all in
    put_begun s (seal s) entry s.place.container (block_end s.place) sound takes is joining sound.ranges.place.container
    (grind (arith, nat_tests, here, sound.ranges.place.end)) (omega (arith, is.ready.container, is.ready.offset)) (inr is.ready.container) sound.space.active after

put_next : HasSpaceLaws → (s : State) (entry : LogEntry) → IsSound s → TakesRecord s (length entry.bytes) → joins s.shape s.place (length entry.bytes) ≡ false
    → begins_here s.shape s.place (length entry.bytes) ≡ false → IsJoining s (placed entry (lsn_number (s.place.container + 1) 0 0))
    → IsPut s (record (flush s) {
      records = s.records ++ placed entry (lsn_number (s.place.container + 1) 0 0) ∷ [];
      place = begun (s.place.container + 1) 0 (length entry.bytes);
    }) (length entry.bytes)
put_next space s entry sound takes apart beyond joining =
    let n = length entry.bytes in
    let is = readied_flush s sound in
    let long = own_fits s.shape.block_sectors n sound.ranges.shape.some_sectors takes.short in
    let after : free s - own n ≤ free_sectors s.shape (begun (s.place.container + 1) 0 n) (hold s) s.containers =
    let all = space.append s.shape s.place (hold s) s.containers n (has_room_for s n sound takes) in rw (apart, beyond) at all in
    put_begun s (flush s) entry (s.place.container + 1) 0 sound takes is joining (omega arith)
    (omega (arith, long, sound.ranges.shape.two_blocks)) (omega (arith, is.ready.container, is.ready.offset, sound.ranges.place.end, sound.ranges.shape.largest_container))
    (inl refl) (next_used s n sound takes beyond) after

-- the place after a record, by whether it joins the open block and whether it begins one after it
abbrev pub after_by : Bool → Bool → Place → ℕ → ℕ × Place
after_by joining beginning place n =
    if joining
    then (lsn_number place.container place.offset place.records, record place { used = place.used + size n; records = place.records + 1 })
    else if beginning
    then (lsn_number place.container (512 * block_end place) 0, begun place.container (block_end place) n)
    else (lsn_number (place.container + 1) 0 0, begun (place.container + 1) 0 n)

-- the log after the record was put, by the same
abbrev pub put_by : Bool → Bool → State → LogEntry → State
put_by joining beginning s entry = record (if joining then s else if beginning then seal s else flush s) {
  records = s.records ++ record entry { lsn = (after_by joining beginning s.place (length entry.bytes)).0 } ∷ [];
  place = (after_by joining beginning s.place (length entry.bytes)).1;
}

sound_put_by : HasSpaceLaws → (s : State) (entry : LogEntry) (joining beginning : Bool) → joins s.shape s.place (length entry.bytes) ≡ joining
    → begins_here s.shape s.place (length entry.bytes) ≡ beginning → IsSound s → TakesRecord s (length entry.bytes)
    → IsJoining s (placed entry (after_by joining beginning s.place (length entry.bytes)).0) → IsPut s (put_by joining beginning s entry) (length entry.bytes)
sound_put_by space s entry true beginning fits here sound takes joining = put_joined space s entry sound takes fits joining
sound_put_by space s entry false true apart here sound takes joining = put_here space s entry sound takes apart here joining
sound_put_by space s entry false false apart beyond sound takes joining = put_next space s entry sound takes apart beyond joining

-- in each case
pub sound_put : HasSpaceLaws → (s : State) (entry : LogEntry) → IsSound s → TakesRecord s (length entry.bytes) → IsJoining s (placed entry (next_lsn s (length entry.bytes)))
    → IsPut s (put s entry) (length entry.bytes)
sound_put space s entry sound takes joining =
    sound_put_by space s entry (joins s.shape s.place (length entry.bytes)) (begins_here s.shape s.place (length entry.bytes)) refl refl sound takes joining
