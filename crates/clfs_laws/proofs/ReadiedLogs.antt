-- A log that is made ready for a record is whole and has room for it, and the record goes where it would have gone.
use Rattle.clfs_laws.proofs.Words.{◌≡◌, ℕ, ◌+◌, ◌-◌, ◌*◌, ◌<◌, ◌≤◌, Bool, true, false, refl, sym, ap, ◌∙◌, subst, inl, inr, ◌⊎◌, arith, List, [], ◌∷◌, ◌++◌}
use Rattle.clfs_laws.proofs.Words.{length, IsSome, map, nat_lt, nat_le, if◌then◌else◌, cases_Bool, ltb-false, nat_tests, append-nil, All-weaker}
use Rattle.clfs_laws.proofs.Words.{recursion_from_All, lsn_number, sequence_of, IsShape, own, longest, IsWithin, IsClosed, IsOpen, frontier, block_end, begun}
use Rattle.clfs_laws.proofs.Words.{sealed, joins, begins_here, free_sectors, BaseFits, Place, Shape, LogEntry, State, Stream, stream_at, hold, free, reserved}
use Rattle.clfs_laws.proofs.Words.{flushed, seal, flush, next_lsn, put, made_ready, before_all, behind_all, IsStorable, IsValid, IsRecord, HasSpaceLaws}
use Rattle.clfs_laws.proofs.Words.{MayPut, turned, readied, KeepsTables}
use Rattle.clfs_laws.specs.Between.{IsReadiedFor, MayTurn}
use Rattle.clfs_laws.proofs.BlockOrder.{last_container}
use Rattle.clfs_laws.proofs.HoldOrder.{hold_below_frontier, active_later, free_later}
use Rattle.clfs_laws.proofs.LaidPuts.{takes_of, hold_with}
use Rattle.clfs_laws.proofs.LaidStates.{whole_seal, whole_flush, seal_hold, seal_tables, flush_tables}
use Rattle.clfs_laws.proofs.LsnOrder.{small_offset, few_records, none_of_block}
use Rattle.clfs_laws.proofs.OwnSectors.{own_fits}
use Rattle.clfs_laws.proofs.RecordsOfCalls.{seal_records}
use Rattle.clfs_laws.proofs.StorableBases.{bases_as, same_bases}
use Rattle.clfs_laws.proofs.StorableBlocks.{next_id}
use Rattle.clfs_laws.proofs.StorableLimits.{limits_same}
use Rattle.clfs_laws.proofs.ValidAreas.{held_sum}
use Rattle.clfs_laws.proofs.ValidPlaces.{IsSound, IsReady, sound_of, valid_of, sound_moved, stable_still, restarts_still, none_waits, ready_seal, active_by}
use Rattle.clfs_laws.proofs.ValidPlaces.{free_by}
use Rattle.clfs_laws.proofs.ValidPuts.{TakesRecord, after_by, put_by, next_used, has_room_for, free_readied, readied_flush}

-- the log made ready, by whether the record joins the open block and whether it begins one after it
abbrev readied_by : Bool → Bool → State → State
readied_by joining beginning s = if joining then s else if beginning then seal s else turned (flush s)

-- the place at the first byte of a container
abbrev first_place : ℕ → Place
first_place container = record { container = container; offset = 0; used = 0; records = 0 }

-- a log without an open block doesn't change where it is sealed
sealed_closed : (s : State) → s.place.records ≡ 0 → seal s ≡ s
sealed_closed s none = elim (cases_Bool (nat_lt 0 s.place.records)) [
  | inl some ↦ absurd (grind (arith, nat_tests, some, none))
  | inr empty ↦ rw empty refl
]

-- no record joins a block that isn't open
apart_closed : (s : State) (n : ℕ) → s.place.records ≡ 0 → joins s.shape s.place n ≡ false
apart_closed s n none = let no : nat_le 1 s.place.records ≡ false = grind (arith, nat_tests, none) in rw no refl

-- a record that begins a block in a log without an open one
put_closed : (s : State) (entry : LogEntry) → s.place.records ≡ 0 → begins_here s.shape s.place (length entry.bytes) ≡ true
    → put s entry ≡ record s {
      records = s.records ++ record entry { lsn = lsn_number s.place.container (512 * block_end s.place) 0 } ∷ [];
      place = begun s.place.container (block_end s.place) (length entry.bytes);
    }
put_closed s entry none here =
    let n = length entry.bytes in
    let by : put s entry ≡ put_by false true s entry =
    ap (λ (b : Bool). put_by b (begins_here s.shape s.place n) s entry) (apart_closed s n none) ∙ ap (λ (b : Bool). put_by false b s entry) here in
    by ∙ ap (λ (t : State). record t {
      records = s.records ++ record entry { lsn = lsn_number s.place.container (512 * block_end s.place) 0 } ∷ [];
      place = begun s.place.container (block_end s.place) n;
    }) (sealed_closed s none)

next_closed : (s : State) (n : ℕ) → s.place.records ≡ 0 → begins_here s.shape s.place n ≡ true
    → next_lsn s n ≡ lsn_number s.place.container (512 * block_end s.place) 0
next_closed s n none here =
    ap (λ (b : Bool). (after_by b (begins_here s.shape s.place n) s.place n).0) (apart_closed s n none)
    ∙ ap (λ (b : Bool). (after_by false b s.place n).0) here

stays_closed : (s : State) (n : ℕ) → s.place.records ≡ 0 → begins_here s.shape s.place n ≡ true → made_ready s n ≡ s
stays_closed s n none here =
    ap (λ (b : Bool). if b then s else if begins_here s.shape s.place n then seal s else flush s) (apart_closed s n none)
    ∙ ap (λ (b : Bool). if b then seal s else flush s) here ∙ sealed_closed s none

-- a record may be put into a log of the same tables, with as much room and the same next LSN
may_along : (s r : State) (entry : LogEntry) → KeepsTables s r → free s ≤ free r → next_lsn r (length entry.bytes) ≡ next_lsn s (length entry.bytes)
    → MayPut s entry → MayPut r entry
may_along s r entry same more at may =
    let Short : Shape → Type 0 = λ shape. length entry.bytes ≤ longest shape in
    let On : List Stream → Type 0 = λ streams. IsSome (stream_at (record s { streams = streams }) entry.stream) in
    let Fits : ℕ → Type 0 = λ lsn. BaseFits entry.kind lsn entry.new_base in
    let sum : reserved r ≡ reserved s = ap held_sum same.areas in
    record {
      short = subst Short (sym same.shape) may.short;
      room = omega (arith, may.room, more, sum);
      stream = subst On (sym same.streams) may.stream;
      previous = omega (arith, may.previous, at);
      undo_next = omega (arith, may.undo_next, at);
      new_base = subst Fits (sym at) may.new_base;
    }

-- a sealed log has the same free sectors
pub free_seal : (s : State) → IsSound s → free (seal s) ≡ free s
free_seal s sound = let held = seal_hold s sound in elim (cases_Bool (nat_lt 0 s.place.records)) [
  | inl some ↦
      let same : free_sectors s.shape (sealed s.place) (hold s) s.containers ≡ free s = omega arith in
      rw some (free_by s.shape (sealed s.place) s.containers _ (hold s) (rw some at held) ∙ same)
  | inr none ↦ rw none refl
]

-- a sealed log has no open block
closed_seal : (s : State) → IsSound s → IsClosed (seal s).place
closed_seal s sound = elim (cases_Bool (nat_lt 0 s.place.records)) [
  | inl some ↦ rw some (refl, refl)
  | inr none ↦ rw none (closed_by s.shape s.place sound.ranges.place (omega (arith, ltb-false 0 s.place.records none)))
]
  where
    closed_by : (shape : Shape) (place : Place) → IsWithin shape place → place.records ≡ 0 → IsClosed place
    closed_by shape place within empty = by_block within.block
      where
        by_block : ((place.used ≡ 0) × (place.records ≡ 0)) ⊎ IsOpen shape place → IsClosed place
        by_block (inl closed) = closed
        by_block (inr opened) = absurd (omega (arith, empty, opened.some_records))

-- where a record begins a block after the open one, that is sealed
ready_here : (s : State) (entry : LogEntry) → IsValid s → IsStorable s → MayPut s entry → joins s.shape s.place (length entry.bytes) ≡ false
    → begins_here s.shape s.place (length entry.bytes) ≡ true → IsReadiedFor s (seal s) entry
ready_here s entry valid storable may apart here =
    let n = length entry.bytes in
    let r : State = seal s in
    let sound = sound_of s valid in
    let whole = whole_seal s valid storable in
    let same = seal_tables s sound in
    let closed = closed_seal s sound in
    let is : IsReady s r = ready_seal s sound in
    let end : block_end r.place ≡ block_end s.place = omega (arith, is.offset, closed.0) in
    let begins : begins_here r.shape r.place n ≡ true =
    ap (λ (shape : Shape). begins_here shape r.place n) same.shape ∙ ap (λ (e : ℕ). nat_le (own n) (s.shape.container_sectors - e)) end ∙ here in
    let F : List LogEntry → ℕ → ℕ → State = λ records c e. record r {
      records = records ++ record entry { lsn = lsn_number c (512 * e) 0 } ∷ [];
      place = begun c e n;
    } in
    let before : put s entry ≡ F s.records s.place.container (block_end s.place) =
    ap (λ (b : Bool). put_by b (begins_here s.shape s.place n) s entry) apart ∙ ap (λ (b : Bool). put_by false b s entry) here in
    let next : next_lsn s n ≡ lsn_number s.place.container (512 * block_end s.place) 0 =
    ap (λ (b : Bool). (after_by b (begins_here s.shape s.place n) s.place n).0) apart ∙ ap (λ (b : Bool). (after_by false b s.place n).0) here in
    let at : next_lsn r n ≡ next_lsn s n = omega (arith, next_closed r n closed.1 begins, is.container, end, next) in
    record {
      valid = whole.valid;
      storable = whole.storable;
      may = may_along s r entry same (omega (arith, free_seal s sound)) at may;
      tables = same;
      records = seal_records s;
      lsn = at;
      put = put_closed r entry closed.1 begins ∙ ap (λ (rs : List LogEntry). F rs r.place.container (block_end r.place)) (seal_records s)
          ∙ ap (λ (c : ℕ). F s.records c (block_end r.place)) is.container ∙ ap (λ (e : ℕ). F s.records s.place.container e) end ∙ sym before;
      stays = stays_closed r n closed.1 begins;
      ready = inr (begins, closed);
    }

-- the first block of a container has room for each record
begins_first : (shape : Shape) (container n : ℕ) → IsShape shape → n ≤ longest shape → begins_here shape (first_place container) n ≡ true
begins_first shape container n is short =
    let long = own_fits shape.block_sectors n is.some_sectors short in
    let fits : own n ≤ shape.container_sectors = omega (arith, long, is.two_blocks) in
    fits_so (own n) shape.container_sectors fits
  where
    fits_so : (m k : ℕ) → m ≤ k → nat_le m (k - 0) ≡ true
    fits_so m k fits = grind (arith, nat_tests, fits)

-- at the first byte of the next container a log has as many free sectors as before a record that fits nowhere else
free_next : HasSpaceLaws → (s : State) (n : ℕ) → IsSound s → TakesRecord s n → joins s.shape s.place n ≡ false → begins_here s.shape s.place n ≡ false
    → free s ≤ free_sectors s.shape (first_place (s.place.container + 1)) (hold s) s.containers
free_next space s n sound takes apart beyond =
    let long = own_fits s.shape.block_sectors n sound.ranges.shape.some_sectors takes.short in
    let after : free s - own n ≤ free_sectors s.shape (begun (s.place.container + 1) 0 n) (hold s) s.containers =
    let all = space.append s.shape s.place (hold s) s.containers n (has_room_for s n sound takes) in rw (apart, beyond) at all in
    omega (arith, after, long, sound.ranges.shape.two_blocks, takes.room)

-- what is there where the log goes on in the next container
pub record HasTurned (s r : State) : Type 0 where
  pub valid : IsValid r
  pub storable : IsStorable r
  pub tables : KeepsTables s r
  pub records : r.records ≡ s.records
  pub free : free s ≤ free r

pub turned_log : HasSpaceLaws → (s : State) (n : ℕ) → IsValid s → IsStorable s → TakesRecord s n → joins s.shape s.place n ≡ false
    → begins_here s.shape s.place n ≡ false → HasTurned s (turned (flush s))
turned_log space s n valid storable takes apart beyond =
    let m : State = flush s in
    let r : State = turned m in
    let place : Place = first_place (m.place.container + 1) in
    let sound_s = sound_of s valid in
    let is = readied_flush s sound_s in
    let whole = whole_flush s valid storable in
    let sound = sound_of m whole.valid in
    let same = flush_tables s sound_s in
    let low = small_offset m.shape m.place sound.ranges.shape sound.ranges.place in
    let few = few_records m.shape m.place sound.ranges.place in
    let under : frontier m.place ≤ lsn_number (m.place.container + 1) 0 0 = omega (arith, low, few) in
    let held = hold_below_frontier m sound in
    let later : hold m ≤ hold r = hold_with m r [] sound (same_bases m r refl) refl (sym (append-nil m.records)) tt (omega (arith, held, under)) in
    let container : m.place.container ≡ s.place.container = is.ready.container in
    let used_s = next_used s n sound_s takes beyond in
    let used_m = active_by place (hold m) (hold s) is.hold in
    let used_r = active_later place (hold m) (hold r) later in
    let At : ℕ → Type 0 = λ c. free s ≤ free_sectors s.shape (first_place (c + 1)) (hold s) s.containers in
    let room_s : At m.place.container = subst At (sym container) (free_next space s n sound_s takes apart beyond) in
    let room_m = free_readied s m place is in
    let room_r = free_later m.shape place m.containers (hold m) (hold r) later in
    let sum : reserved m ≡ reserved s = ap held_sum same.areas in
    let more : flushed m ≤ flushed r = omega (arith, low) in
    let turn = sound_moved m m.records place [] sound (record {
      place = record { container = omega arith; offset = refl; end = omega arith; block = inl (refl, refl) };
      records = record {
        rising = sound.records.rising;
        records = All-weaker (IsRecord m) (IsRecord r)
            (λ entry is. record { stream = is.stream; named = is.named; below = omega (arith, is.below, under); previous = is.previous; undo_next = is.undo_next })
            m.records sound.records.records;
        open_block = ap (map (λ (entry : LogEntry). sequence_of entry.lsn))
            (none_of_block (m.place.container + 1) 0 m.records refl (omega arith)
            (recursion_from_All (λ (entry : LogEntry). entry.lsn < lsn_number (m.place.container + 1) 0 0) m.records
            (All-weaker (IsRecord m) (λ (entry : LogEntry). entry.lsn < lsn_number (m.place.container + 1) 0 0) (λ entry is. omega (arith, is.below, under))
            m.records sound.records.records)));
      };
      stable = stable_still m r refl refl more sound.stable;
      waiting = none_waits m m.records place sound.ranges.some_buffers;
      active = omega (arith, used_s, used_m, used_r, container, same.containers);
      room = omega (arith, room_s, room_m, room_r, sum, valid.space.room);
    }) in
    let last : Place = behind_all before_all m.records in
    let before = last_container last m.place whole.storable.blocks.place in
    let id = next_id s n sound_s takes beyond in
    record {
      valid = valid_of r turn (restarts_still m r more whole.valid.stable.restarts);
      storable = record {
        bases = bases_as m r refl (same_bases m r refl) whole.storable.bases;
        blocks = record {
          laid = whole.storable.blocks.laid;
          place = inr (inr (omega (arith, before), refl));
          container = omega (arith, id, container);
        };
        limits = limits_same m r refl refl refl whole.storable.limits;
      };
      tables = record {
        shape = same.shape;
        containers = same.containers;
        buffers = same.buffers;
        streams = same.streams;
        areas = same.areas;
        archive = same.archive;
        hold = omega (arith, same.hold, later);
      };
      records = seal_records s;
      free = omega (arith, room_s, room_m, room_r);
    }

-- where a record fits neither into the open block nor after it, the log goes on in the next container
ready_next : HasSpaceLaws → (s : State) (entry : LogEntry) → IsValid s → IsStorable s → MayPut s entry → joins s.shape s.place (length entry.bytes) ≡ false
    → begins_here s.shape s.place (length entry.bytes) ≡ false → IsReadiedFor s (turned (flush s)) entry
ready_next space s entry valid storable may apart beyond =
    let n = length entry.bytes in
    let m : State = flush s in
    let r : State = turned m in
    let has = turned_log space s n valid storable (takes_of s entry may) apart beyond in
    let container : m.place.container ≡ s.place.container = (readied_flush s (sound_of s valid)).ready.container in
    let begins : begins_here r.shape r.place n ≡ true =
    ap (λ (shape : Shape). begins_here shape r.place n) has.tables.shape ∙ begins_first s.shape (m.place.container + 1) n valid.ranges.shape may.short in
    let F : List LogEntry → ℕ → State = λ records c. record m {
      records = records ++ record entry { lsn = lsn_number (c + 1) 0 0 } ∷ [];
      place = begun (c + 1) 0 n;
    } in
    let before : put s entry ≡ F s.records s.place.container =
    ap (λ (b : Bool). put_by b (begins_here s.shape s.place n) s entry) apart ∙ ap (λ (b : Bool). put_by false b s entry) beyond in
    let next : next_lsn s n ≡ lsn_number (s.place.container + 1) 0 0 =
    ap (λ (b : Bool). (after_by b (begins_here s.shape s.place n) s.place n).0) apart ∙ ap (λ (b : Bool). (after_by false b s.place n).0) beyond in
    let at : next_lsn r n ≡ next_lsn s n = omega (arith, next_closed r n refl begins, container, next) in
    record {
      valid = has.valid;
      storable = has.storable;
      may = may_along s r entry has.tables has.free at may;
      tables = has.tables;
      records = has.records;
      lsn = at;
      put = put_closed r entry refl begins ∙ ap (λ (rs : List LogEntry). F rs m.place.container) (seal_records s)
          ∙ ap (λ (c : ℕ). F s.records c) container ∙ sym before;
      stays = stays_closed r n refl begins;
      ready = inr (begins, (refl, refl));
    }

-- where it joins the open block, the log is ready
ready_joined : (s : State) (entry : LogEntry) → IsValid s → IsStorable s → MayPut s entry → joins s.shape s.place (length entry.bytes) ≡ true
    → IsReadiedFor s s entry
ready_joined s entry valid storable may fits = record {
  valid = valid;
  storable = storable;
  may = may;
  tables = record { shape = refl; containers = refl; buffers = refl; streams = refl; areas = refl; archive = refl; hold = omega arith };
  records = refl;
  lsn = refl;
  put = refl;
  stays = rw fits refl;
  ready = inl fits;
}

ready_by : HasSpaceLaws → (s : State) (entry : LogEntry) (joining beginning : Bool) → joins s.shape s.place (length entry.bytes) ≡ joining
    → begins_here s.shape s.place (length entry.bytes) ≡ beginning → IsValid s → IsStorable s → MayPut s entry
    → IsReadiedFor s (readied_by joining beginning s) entry
ready_by space s entry true beginning fits here valid storable may = ready_joined s entry valid storable may fits
ready_by space s entry false true apart here valid storable may = ready_here s entry valid storable may apart here
ready_by space s entry false false apart beyond valid storable may = ready_next space s entry valid storable may apart beyond

-- in each case
pub is_readied : HasSpaceLaws → (s : State) (entry : LogEntry) → IsValid s → IsStorable s → MayPut s entry
    → IsReadiedFor s (readied s (length entry.bytes)) entry
is_readied space s entry valid storable may =
    ready_by space s entry (joins s.shape s.place (length entry.bytes)) (begins_here s.shape s.place (length entry.bytes)) refl refl valid storable may

-- there is a further container to go on to
pub may_turn : HasSpaceLaws → (s : State) (entry : LogEntry) → IsValid s → IsStorable s → MayPut s entry → joins s.shape s.place (length entry.bytes) ≡ false
    → begins_here s.shape s.place (length entry.bytes) ≡ false → MayTurn s
may_turn space s entry valid storable may apart beyond =
    let n = length entry.bytes in
    let sound = sound_of s valid in
    let takes = takes_of s entry may in
    let used = next_used s n sound takes beyond in
    record {
      id = next_id s n sound takes beyond;
      unused = omega (arith, used);
      hold = (turned_log space s n valid storable takes apart beyond).tables.hold;
    }
