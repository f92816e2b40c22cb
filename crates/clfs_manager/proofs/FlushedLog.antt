-- A flush as memory and the disk have it.
use Rattle.clfs_manager.proofs.Words.{◌≡◌, ℕ, ◌+◌, ◌-◌, ◌<◌, ◌≤◌, Bool, true, false, refl, sym, ap, ◌∙◌, inl, inr, List, [], ◌∷◌, ◌++◌, length, map, arith}
use Rattle.clfs_manager.proofs.Words.{All, Option, Some, None, IsSome, Result, Ok, Err, OnOk, filter, nat_le, nat_lt, slice_get, ◌==◌, option_to_list}
use Rattle.clfs_manager.proofs.Words.{eqb-true, All-filter, All-weaker, filter-append, slice_get_within, lsn_number, container_of, offset_of, frontier}
use Rattle.clfs_manager.proofs.Words.{LogEntry, Place, total, IsLaid, DiskState, Failed, State, Stream, stream_at, block_start, cut, flush, flushed, hold}
use Rattle.clfs_manager.proofs.Words.{live_lsns, least_or, IsStorable, HasMovedBase, IsValid, IsRecord, HasRanges, Newest, Blocks, HaveMore, stored_state}
use Rattle.clfs_manager.proofs.Words.{records_from_container, file_at_end, stored_place, IsSound, unflushed, StoredAfter, HasGroup, IsLaidLog, WrittenAfter}
use Rattle.clfs_manager.proofs.Words.{IsStored, Log}
use Rattle.clfs_lsn.specs.Spelling.{BaseFits}
use Rattle.clfs_lsn.specs.declared.entry.Kind.{Kind}
use Rattle.clfs_lsn.specs.declared.entry.Kind.TheVariants.{Plain, Restart}
use Rattle.clfs_manager.proofs.ClosedPlace.{closed_place, is_closed_of, flush_is, all_below_closed}
use Rattle.clfs_manager.proofs.Ending.{parts_at}
use Rattle.clfs_manager.proofs.Opened.{all_from, none_from}
use Rattle.clfs_manager.proofs.SplitRecords.{all_below, split, kept_from}

-- a flushed state, by its fields
abbrev pub done : State → State
done s = record s { waiting = []; place = closed_place s.place }

least_container : (a b : ℕ) (lsns : List ℕ) → container_of a ≡ container_of b → container_of (least_or a lsns) ≡ container_of (least_or b lsns)
least_container a b [] same = same
least_container a b (lsn ∷ lsns) same = refl

-- a flush leaves the hold in its container
pub hold_closed : (s : State) → HasRanges s → container_of (hold (done s)) ≡ container_of (hold s)
hold_closed s ranges =
    let closed = is_closed_of s.shape s.place ranges.place in
    let within = ranges.place in
    let low = ranges.shape.largest_container in
    let few : s.place.records ≤ 511 = ⊎_few in
    least_container (frontier (closed_place s.place)) (frontier s.place) (option_to_list s.archive ++ live_lsns s)
    (omega (arith, closed.container, closed.low, closed.records, within.end, low, few))
  where
    ⊎_few : s.place.records ≤ 511
    ⊎_few = elim ranges.place.block [
      | inl none ↦ omega (arith, none.1)
      | inr here ↦ here.few_records
    ]

pub hold_done : (s : State) → IsValid s → container_of (hold (done s)) ≡ container_of (hold s)
hold_done s valid = hold_closed s valid.ranges

pub none_unflushed : (s : State) → IsLaid s → unflushed (done s) ≡ []
none_unflushed s laid = none_from (block_start (closed_place s.place)) s.records (all_below_closed s laid)

-- the number of a stream that is there
pub stream_within : (s : State) (number : ℕ) → IsSome (stream_at s number) → number ≤ length s.streams
stream_within s number there = by_test (number == 0) refl
  where
    by_test : (b : Bool) → (number == 0) ≡ b → number ≤ length s.streams
    by_test true is = omega (arith, eqb-true number 0 is)
    by_test false isnt = by_found (slice_get s.streams (number - 1)) refl (rw isnt at there)
      where
        by_found : (found : Option _) → slice_get s.streams (number - 1) ≡ found → IsSome found → number ≤ length s.streams
        by_found None is some = absurd (cc some)
        by_found (Some stream) is some = omega (arith, slice_get_within s.streams (number - 1) stream is)

-- records that wait are of streams that are there
pub few_streams : (s : State) (streams : ℕ) → IsLaid s → streams ≡ length s.streams → All (λ (entry : LogEntry). entry.stream ≤ streams) (unflushed s)
few_streams s streams laid long =
    All-filter (λ (entry : LogEntry). nat_le (flushed s) entry.lsn) (λ (entry : LogEntry). entry.stream ≤ streams) s.records
    (All-weaker (IsRecord s) (λ (entry : LogEntry). entry.stream ≤ streams) (λ entry is. omega (arith, stream_within s entry.stream is.stream, long)) s.records laid.records.records)

plain : (kind : Kind) (lsn base : ℕ) → (kind ≡ Restart → ⊥) → BaseFits kind lsn base → base ≡ 0
plain Plain lsn base isnt fits = fits
plain Restart lsn base isnt fits = absurd (isnt refl)

-- and move no base
pub no_bases : (s : State) → IsValid s → IsStorable s → All (λ (entry : LogEntry). entry.new_base ≡ 0) (unflushed s)
no_bases s valid storable = λ k d few.
    let test : LogEntry → Bool = λ (entry : LogEntry). nat_le (flushed s) entry.lsn in
    let own = All-filter test (HasMovedBase s) s.records storable.bases k d few in
    let restart = All-filter test (λ (entry : LogEntry). entry.kind ≡ Restart → entry.lsn < flushed s) s.records valid.stable.restarts k d few in
    let from = kept_from (flushed s) s.records k d few in
    plain _ _ _ (λ is. absurd (let below = restart is in omega (arith, below, from))) own.own

-- the records of the disk and those that waited are all from the first listed container on
grown_records : (s : State) (first : ℕ) (entries : List LogEntry) → IsLaid s → first ≤ s.place.container → container_of (flushed s) ≡ s.place.container
    → entries ≡ records_from_container first (cut s).records → entries ++ unflushed s ≡ records_from_container first (cut (done s)).records
grown_records s first entries laid low at is =
    let low_lsn : ℕ = lsn_number first 0 0 in
    let test : LogEntry → Bool = λ (entry : LogEntry). nat_le low_lsn entry.lsn in
    let stable : List LogEntry = filter (λ (entry : LogEntry). nat_lt entry.lsn (flushed s)) s.records in
    let from : All (λ (entry : LogEntry). low_lsn ≤ entry.lsn) (unflushed s) = All-weaker (λ (entry : LogEntry). flushed s ≤ entry.lsn) (λ (entry : LogEntry). low_lsn ≤ entry.lsn)
    (λ entry above. omega (arith, above, low, at)) (unflushed s) (kept_from (flushed s) s.records) in
    let all : (cut (done s)).records ≡ s.records = all_below (block_start (closed_place s.place)) s.records (all_below_closed s laid) in
    let parts : filter test s.records ≡ filter test stable ++ filter test (unflushed s) =
    ap (filter test) (sym (split (flushed s) s.records laid.records.rising)) ∙ filter-append test stable (unflushed s) in
    let waits : filter test (unflushed s) ≡ unflushed s = all_from low_lsn (unflushed s) from in
    ap (λ (es : List LogEntry). es ++ unflushed s) is ∙ sym (ap (λ (es : List LogEntry). filter test stable ++ es) waits) ∙ sym parts ∙ sym (ap (filter test) all)

-- What the group of a flush leaves on the disk: the flushed log, with the streams that its records leave.
pub stored_with : (s : State) (newest : Newest) (before after : Blocks) (streams : List Stream) → IsLaid s
    → newest.image.first + length newest.image.files ≡ s.place.container + 1 → 1 ≤ length newest.image.files
    → (stored : IsStored s newest before) → (group : HasGroup s newest.image before after stored.entries)
    → stored_state newest.image (map after newest.image.files) (stored.entries ++ unflushed s) s.buffers
    ≡ record (stored_state newest.image (map before newest.image.files) stored.entries s.buffers) {
      records = stored.entries ++ unflushed s;
      place = record (stored_place newest.image (map before newest.image.files)) { offset = total (before (file_at_end newest.image)) + total group.more };
      streams = streams;
    }
    → newest.image.first ≤ container_of (hold (record (done s) { streams = streams })) → IsStored (record (done s) { streams = streams }) newest after
stored_with s newest before after streams laid listed some stored group state needed =
    let image = newest.image in
    let closed = is_closed_of s.shape s.place laid.ranges.place in
    let low : image.first ≤ s.place.container = omega (arith, listed, some) in
    let entries = stored.entries ++ unflushed s in
    let behind : ℕ = total (before (file_at_end image)) + total group.more in
    let end : behind ≡ (closed_place s.place).offset = group.end ∙ ap (λ (t : State). t.place.offset) (flush_is s) in
    let parts = parts_at (closed_place s.place).container (closed_place s.place).offset 0 closed.offset (omega (arith, closed.low, laid.ranges.shape.largest_container)) (omega arith) in
    let place_before : stored_place image (map before image.files) ≡ (cut s).place = ap (λ (t : State). t.place) stored.state in
    let offset : behind ≡ offset_of (block_start (closed_place s.place)) = end ∙ sym parts.1 in
    let container : container_of (flushed s) ≡ container_of (block_start (closed_place s.place)) = group.begins.container ∙ sym (parts.0 ∙ closed.container) in
    let place : record (stored_place image (map before image.files)) { offset = behind } ≡ (cut (done s)).place =
    ap (λ (p : Place). record p { offset = behind }) place_before
    ∙ ap (λ (n : ℕ). let p : Place = record { container = n; offset = behind; used = 0; records = 0 } in p) container
    ∙ ap (λ (n : ℕ). let p : Place = record { container = container_of (block_start (closed_place s.place)); offset = n; used = 0; records = 0 } in p) offset in
    record {
      entries = entries;
      log = group.log;
      records = grown_records s image.first stored.entries laid low group.begins.container stored.records;
      state = state
          ∙ ap (λ (t : State). record t { records = entries; place = record (stored_place image (map before image.files)) { offset = behind }; streams = streams }) stored.state
          ∙ ap (λ (p : Place). record (cut s) { records = entries; place = p; streams = streams }) place;
      needed = needed;
    }

-- where no record moves a base
pub stored_done : (s : State) (newest : Newest) (before after : Blocks) → IsLaid s
    → newest.image.first + length newest.image.files ≡ s.place.container + 1 → 1 ≤ length newest.image.files
    → (stored : IsStored s newest before) → (group : HasGroup s newest.image before after stored.entries)
    → stored_state newest.image (map after newest.image.files) (stored.entries ++ unflushed s) s.buffers
    ≡ record (stored_state newest.image (map before newest.image.files) stored.entries s.buffers) {
      records = stored.entries ++ unflushed s;
      place = record (stored_place newest.image (map before newest.image.files)) { offset = total (before (file_at_end newest.image)) + total group.more };
    }
    → IsStored (done s) newest after
stored_done s newest before after laid listed some stored group state =
    let entries = stored.entries ++ unflushed s in
    let place : Place = record (stored_place newest.image (map before newest.image.files)) { offset = total (before (file_at_end newest.image)) + total group.more } in
    let own : State = stored_state newest.image (map before newest.image.files) stored.entries s.buffers in
    stored_with s newest before after s.streams laid listed some stored group
    (state ∙ ap (λ (streams : List Stream). record own { records = entries; place = place; streams = streams }) (ap (λ (t : State). t.streams) stored.state))
    (omega (arith, stored.needed, hold_closed s laid.ranges))

-- the bytes of blocks and more blocks
pub total_append : (blocks more : List (List ℕ)) → total (blocks ++ more) ≡ total blocks + total more
total_append [] more = omega arith
total_append (block ∷ blocks) more = omega (arith, total_append blocks more)

-- What a group leaves on the disk is the flushed log, where no record of it moves a base.
pub stored_flushed : (result : Result (Unit {0}) Failed) (old new : DiskState) (s t : State) (before after : Newest) → IsLaid s
    → before.image.first + length before.image.files ≡ s.place.container + 1 → 1 ≤ length before.image.files
    → ((blocks all : Blocks) (more : List (List ℕ)) (entries : List LogEntry) → HaveMore before.image more blocks all
    → stored_state before.image (map all before.image.files) (entries ++ unflushed s) s.buffers
    ≡ record (stored_state before.image (map blocks before.image.files) entries s.buffers) {
      records = entries ++ unflushed s;
      place = record (stored_place before.image (map blocks before.image.files)) { offset = total (blocks (file_at_end before.image)) + total more };
    })
    → OnOk result (t ≡ flush s) → OnOk result (after ≡ before) → OnOk result (WrittenAfter old new s before after)
    → OnOk result (StoredAfter old new s t before after)
stored_flushed (Ok value) old new s t before after laid listed some law state same written = λ blocks stored.
    let to = written blocks stored in
    let all : Blocks = to.0 in
    let group : HasGroup s before.image blocks all stored.entries = to.1.0 in
    let is : IsStored (done s) before all =
    stored_done s before blocks all laid listed some stored group (law blocks all group.more stored.entries group.have) in
    (all, (rw (state ∙ flush_is s, same) is, to.1.1))
stored_flushed (Err error) old new s t before after laid listed some law state same written = tt

-- A log that files can hold is laid.
pub laid_log : (log : Log) → IsSound log → IsLaid log.state.value → IsLaidLog log
laid_log log sound laid = record { laid = laid; unbroken = sound.unbroken; whole = sound.whole; holds = sound.holds }
