-- A record that was put into a log that is ready for it: what memory has of it, and that the disk has what it had.
use Rattle.clfs_manager.proofs.Words.{◌≡◌, ℕ, ◌+◌, ◌-◌, ◌*◌, ◌<◌, ◌≤◌, Bool, true, false, refl, sym, ap, subst, ◌∙◌, inl, inr, ⊎_elim, arith, List, [], ◌∷◌}
use Rattle.clfs_manager.proofs.Words.{◌++◌, length, All, Contains, Option, Some, None, filter, fold, min, nat_lt, nat_le, slice_get, ◌==◌, option_map_or}
use Rattle.clfs_manager.proofs.Words.{option_to_list, cases_Bool, le-leb, le-ltb, nat_tests, All-map, All-weaker, filter-append, slice_get_within, head_of}
use Rattle.clfs_manager.proofs.Words.{least_or, lsn_number, null_lsn, container_of, IsClosed, IsWithin, block_end, frontier, joins, begins_here, IsShape}
use Rattle.clfs_manager.proofs.Words.{Head, LogEntry, Place, Shape, AreaTable, AreSealed, BlocksGoOn, Buffered, block_place, first_lsn, DiskState, IsReadyFor}
use Rattle.clfs_manager.proofs.Words.{IsWhole, KeepsTables, State, Stream, block_start, first_or, seal, flushed, cut, heads_of, hold, is_live, live_lsns}
use Rattle.clfs_manager.proofs.Words.{next_lsn, put, base_of, IsStorable, IsValid, IsRecord, Newest, Blocks, Queued, Fields, records_from_container, shape_of}
use Rattle.clfs_manager.proofs.Words.{Holds, unflushed, IsStored, AreKept, IsOpen, unplaced, IsIntact, Log}
use Rattle.std.specs.Prelude.{map}
use Rattle.std.proofs.lemmas.List.{append_assoc, map-append}
use Rattle.std.proofs.lemmas.List.Elements.{All-get_or, Contains-push_cases}
use Rattle.std.proofs.lemmas.Option.{get_or_from_slice_get}
use Rattle.clfs_lsn.specs.Place.{place_after}
use Rattle.clfs_model.specs.Put.{made_ready}
use Rattle.clfs_queue.specs.Queued.{pushed}
use Rattle.clfs_manager.specs.Putting.{IsPutInMemory}
use Rattle.clfs_manager.specs.Written.{IsOpenWith}
use Rattle.clfs_manager.proofs.Ending.{parts_at}
use Rattle.clfs_manager.proofs.Numbers.{flushed_below, small_place}
use Rattle.clfs_manager.proofs.Sealed.{cut_at}

-- ---- where the record goes

-- a closed place has nothing to be sealed
seal_closed : (s : State) → s.place.records ≡ 0 → seal s ≡ s
seal_closed s none = let t : nat_lt 0 s.place.records ≡ false = le-ltb 0 s.place.records (omega (arith, none)) in rw t refl

-- a log that is ready for a record is made ready by nothing
pub ready_stays : (s : State) (n : ℕ) → IsReadyFor s n → made_ready s n ≡ s
ready_stays s n (inl join) = rw join refl
ready_stays s n (inr begin) = elim (cases_Bool (joins s.shape s.place n)) [
  | inl join ↦ rw join refl
  | inr apart ↦ rw (apart, begin.0) (seal_closed s begin.1.1)
]

-- so the record alone is new
pub put_is : (s : State) (entry : LogEntry) → IsReadyFor s (length entry.bytes)
    → put s entry ≡ record s { records = s.records ++ record entry { lsn = next_lsn s (length entry.bytes) } ∷ []; place = (place_after s.shape s.place (length entry.bytes)).1 }
put_is s entry ready =
    ap (λ (u : State). let t : State = record u {
      records = s.records ++ record entry { lsn = next_lsn s (length entry.bytes) } ∷ [];
      place = (place_after s.shape s.place (length entry.bytes)).1;
    } in t) (ready_stays s (length entry.bytes) ready)

-- The place after it: the block that is open then begins where the one before did, or where the next one was to begin.
pub record GoesOn (shape : Shape) (place : Place) (n : ℕ) : Type 0 where
  pub container : (place_after shape place n).1.container ≡ place.container
  pub start : block_start (place_after shape place n).1 ≡ block_start place
  pub in_block : first_lsn (block_place (place_after shape place n).0) ≡ block_start place

goes_on_joining : (shape : Shape) (place : Place) (n : ℕ) → IsShape shape → IsWithin shape place → joins shape place n ≡ true → GoesOn shape place n
goes_on_joining shape place n is within join =
    let small = small_place shape place is within in
    let few : place.records ≤ 510 = grind (arith, nat_tests, join) in
    let parts = parts_at place.container place.offset place.records within.offset small.low (omega (arith, few)) in
    let same : first_lsn (block_place (lsn_number place.container place.offset place.records)) ≡ block_start place = omega (arith, parts.0, parts.1) in
    record { container = rw join refl; start = rw join refl; in_block = rw join same }

goes_on_beginning : (shape : Shape) (place : Place) (n : ℕ) → IsShape shape → IsWithin shape place → joins shape place n ≡ false → begins_here shape place n ≡ true
    → IsClosed place → GoesOn shape place n
goes_on_beginning shape place n is within apart begin closed =
    let small = small_place shape place is within in
    let at : 512 * block_end place ≡ place.offset = omega (arith, closed.0, within.offset) in
    let parts = parts_at place.container place.offset 0 within.offset small.low (omega arith) in
    let start : lsn_number place.container (512 * block_end place) 0 ≡ block_start place = omega (arith, at) in
    let same : first_lsn (block_place (lsn_number place.container (512 * block_end place) 0)) ≡ block_start place =
    ap (λ (o : ℕ). first_lsn (block_place (lsn_number place.container o 0))) at ∙ omega (arith, parts.0, parts.1) in
    record { container = rw (apart, begin) refl; start = rw (apart, begin) start; in_block = rw (apart, begin) same }

pub goes_on : (s : State) (n : ℕ) → IsValid s → IsReadyFor s n → GoesOn s.shape s.place n
goes_on s n valid (inl join) = goes_on_joining s.shape s.place n valid.ranges.shape valid.ranges.place join
goes_on s n valid (inr begin) = elim (cases_Bool (joins s.shape s.place n)) [
  | inl join ↦ goes_on_joining s.shape s.place n valid.ranges.shape valid.ranges.place join
  | inr apart ↦ goes_on_beginning s.shape s.place n valid.ranges.shape valid.ranges.place apart begin.0 begin.1
]

-- the state with the record, by its fields
abbrev pub with_put : State → LogEntry → State
with_put s entry = record s {
  records = s.records ++ record entry { lsn = next_lsn s (length entry.bytes) } ∷ [];
  place = (place_after s.shape s.place (length entry.bytes)).1;
}

-- as much is on the disk as before
pub flushed_put : (s : State) (entry : LogEntry) → GoesOn s.shape s.place (length entry.bytes) → flushed (with_put s entry) ≡ flushed s
flushed_put s entry goes = ap (λ (n : ℕ). first_or n s.waiting) goes.start

-- the LSN by the queue
pub next_lsn_is : (q : Queued) (s : State) (n : ℕ) → q.shape ≡ s.shape → q.place ≡ s.place → (place_after q.shape q.place n).0 ≡ next_lsn s n
next_lsn_is q s n shape place = ap (λ (other : Shape). (place_after other q.place n).0) shape ∙ ap (λ (p : Place). (place_after s.shape p n).0) place

-- ---- the bases of streams

-- the base of a stream that is there lies at or below what is on the disk
pub base_below : (s : State) (number : ℕ) → IsValid s → base_of s number ≤ flushed s
base_below s number valid = by_test (number == 0) refl
  where
    by_found : (found : Option Stream) → slice_get s.streams (number - 1) ≡ found → option_map_or (λ (stream : Stream). stream.base) found null_lsn ≤ flushed s
    by_found None is = omega arith
    by_found (Some stream) is =
        let each = All-get_or (λ (row : Stream). row.base ≤ flushed s) s.streams (number - 1) stream (slice_get_within s.streams (number - 1) stream is) valid.stable.bases in
        subst (λ (row : Stream). row.base ≤ flushed s) (get_or_from_slice_get s.streams (number - 1) stream stream is) each

    by_test : (b : Bool) → (number == 0) ≡ b → base_of s number ≤ flushed s
    by_test true is = rw is (omega arith)
    by_test false isnt = rw isnt (by_found (slice_get s.streams (number - 1)) refl)

-- ---- memory

pub waits_put : (n : ℕ) (records : List LogEntry) (entry : LogEntry) → n ≤ entry.lsn
    → filter (λ (e : LogEntry). nat_le n e.lsn) (records ++ entry ∷ []) ≡ filter (λ (e : LogEntry). nat_le n e.lsn) records ++ entry ∷ []
waits_put n records entry from =
    let t : nat_le n entry.lsn ≡ true = le-leb n entry.lsn from in
    let last : filter (λ (e : LogEntry). nat_le n e.lsn) (entry ∷ []) ≡ entry ∷ [] = rw t refl in
    filter-append (λ (e : LogEntry). nat_le n e.lsn) records (entry ∷ [])
    ∙ ap (λ (es : List LogEntry). filter (λ (e : LogEntry). nat_le n e.lsn) records ++ es) last

stable_put : (n : ℕ) (records : List LogEntry) (entry : LogEntry) → n ≤ entry.lsn
    → filter (λ (e : LogEntry). nat_lt e.lsn n) (records ++ entry ∷ []) ≡ filter (λ (e : LogEntry). nat_lt e.lsn n) records
stable_put n records entry from =
    let t : nat_lt entry.lsn n ≡ false = le-ltb entry.lsn n from in
    let last : filter (λ (e : LogEntry). nat_lt e.lsn n) (entry ∷ []) ≡ [] = rw t refl in
    filter-append (λ (e : LogEntry). nat_lt e.lsn n) records (entry ∷ [])
    ∙ ap (λ (es : List LogEntry). filter (λ (e : LogEntry). nat_lt e.lsn n) records ++ es) last ∙ nil_right (filter (λ (e : LogEntry). nat_lt e.lsn n) records)
  where
    nil_right : (es : List LogEntry) → es ++ [] ≡ es
    nil_right [] = refl
    nil_right (e ∷ es) = ap (λ (others : List LogEntry). e ∷ others) (nil_right es)

-- all heads lie below the next record
pub heads_below : (s : State) (lsn : ℕ) → IsValid s → frontier s.place ≤ lsn → All (λ (other : Head). other.lsn < lsn) (heads_of s)
heads_below s lsn valid above =
    All-map (λ (other : Head). other.lsn < lsn) head_of s.records
    (All-weaker (IsRecord s) (λ (entry : LogEntry). entry.lsn < lsn) (λ entry is. omega (arith, is.below, above)) s.records valid.records.records)

-- What a put record changes in memory: the queue, the heads and the state alone.
pub holds_put : (before after : Log) (fields : Fields) (bytes : List ℕ) → IsValid before.state.value → Holds before.state.value before
    → IsReadyFor before.state.value (length bytes) → frontier before.state.value.place ≤ next_lsn before.state.value (length bytes)
    → KeepsTables before.state.value (put before.state.value (unplaced fields bytes)) → BlocksGoOn → 1 ≤ before.archive.room
    → after.queue ≡ pushed before.queue fields bytes
    → after.tables.streams ≡ before.tables.streams
    → after.tables.heads ≡ before.tables.heads ++ head_of (record (unplaced fields bytes) { lsn = next_lsn before.state.value (length bytes) }) ∷ []
    → after.tables.low ≡ before.tables.low → after.areas ≡ before.areas → after.archive ≡ before.archive → after.policies ≡ before.policies
    → after.physical ≡ before.physical
    → after.state.value ≡ put before.state.value (unplaced fields bytes) → Holds after.state.value after
holds_put before after fields bytes valid holds ready above keeps go_on room queue streams heads low areas archive policies physical state =
    let s : State = before.state.value in
    let e : LogEntry = unplaced fields bytes in
    let t : State = with_put s e in
    let goes = goes_on s (length bytes) valid ready in
    let same : put s e ≡ t = put_is s e ready in
    let placed : LogEntry = record e { lsn = next_lsn s (length bytes) } in
    let stable : flushed t ≡ flushed s = flushed_put s e goes in
    let from : flushed s ≤ placed.lsn = omega (arith, flushed_below s valid, above) in
    let up : container_of (hold s) ≤ container_of (hold t) = subst (λ (u : State). container_of (hold s) ≤ container_of (hold u)) same keeps.hold in
    let pushed_place : (pushed before.queue fields bytes).place ≡ t.place =
    ap (λ (shape : Shape). (place_after shape before.queue.place (length bytes)).1) holds.shape ∙ ap (λ (p : Place). (place_after s.shape p (length bytes)).1) holds.place in
    let pushed_lsn : (place_after before.queue.shape before.queue.place (length bytes)).0 ≡ next_lsn s (length bytes) =
    next_lsn_is before.queue s (length bytes) holds.shape holds.place in
    let records : (pushed before.queue fields bytes).records ≡ unflushed t =
    ap (λ (lsn : ℕ). before.queue.records ++ (let p : LogEntry = record e { lsn = lsn } in p) ∷ []) pushed_lsn
    ∙ ap (λ (es : List LogEntry). es ++ placed ∷ []) holds.records ∙ sym (waits_put (flushed s) s.records placed from)
    ∙ ap (λ (n : ℕ). filter (λ (entry : LogEntry). nat_le n entry.lsn) (s.records ++ placed ∷ [])) (sym stable) in
    let all_heads : heads_of t ≡ heads_of s ++ head_of placed ∷ [] = map-append head_of s.records (placed ∷ []) in
    let ended : AreSealed before.tables.low (block_start t.place) before.archive.blocks (heads_of t) =
    subst (λ (hs : List Head). AreSealed before.tables.low (block_start t.place) before.archive.blocks hs) (sym all_heads)
    (subst (λ (n : ℕ). AreSealed before.tables.low n before.archive.blocks (heads_of s ++ head_of placed ∷ [])) (sym goes.start)
    (go_on.joined before.tables.low (block_start s.place) before.archive.blocks (heads_of s) (head_of placed) holds.sealed (omega (arith, above))
    (heads_below s placed.lsn valid above))) in
    let memory : Holds t after = record {
      shape = ap (λ (q : Queued). q.shape) queue ∙ holds.shape;
      buffers = ap (λ (q : Queued). q.buffers) queue ∙ holds.buffers;
      place = ap (λ (q : Queued). q.place) queue ∙ pushed_place;
      waiting = ap (λ (q : Queued). q.waiting) queue ∙ holds.waiting;
      records = ap (λ (q : Queued). q.records) queue ∙ records;
      streams = streams ∙ holds.streams;
      heads = heads ∙ ap (λ (hs : List Head). hs ++ head_of placed ∷ []) holds.heads ∙ sym all_heads;
      low = omega (arith, low, holds.low, up);
      areas = ap (λ a. a.areas) areas ∙ holds.areas;
      archive = ap (λ a. a.tail) archive ∙ holds.archive;
      sealed = rw (low, archive) ended;
      room = λ some. omega (arith, ap (λ a. a.room) archive, room);
      policies = policies ∙ holds.policies;
      containers = ap (λ (n : Newest). n.image.containers) physical ∙ holds.containers;
      image_shape = ap (λ (n : Newest). shape_of n.image) physical ∙ holds.image_shape;
      dedicated = ap (λ (n : Newest). n.image.dedicated) physical ∙ holds.dedicated;
      rows = ap (λ (n : Newest). length n.image.streams) physical ∙ holds.rows;
      listed = ap (λ (n : Newest). n.image.first + length n.image.files) physical ∙ holds.listed ∙ ap (λ (k : ℕ). k + 1) (sym goes.container);
      needed = omega (arith, ap (λ (n : Newest). n.image.first) physical, holds.needed, up);
    } in
    subst (λ (u : State). Holds u after) (sym (state ∙ same)) memory

-- ---- the disk

-- What is on the disk is that of the state with the record too.
pub stored_put : (s : State) (entry : LogEntry) (newest : Newest) (blocks : Blocks) → IsValid s → IsReadyFor s (length entry.bytes)
    → frontier s.place ≤ next_lsn s (length entry.bytes) → KeepsTables s (put s entry) → IsStored s newest blocks → IsStored (put s entry) newest blocks
stored_put s entry newest blocks valid ready above keeps stored =
    let t : State = with_put s entry in
    let goes = goes_on s (length entry.bytes) valid ready in
    let same : put s entry ≡ t = put_is s entry ready in
    let placed : LogEntry = record entry { lsn = next_lsn s (length entry.bytes) } in
    let up : container_of (hold s) ≤ container_of (hold t) = subst (λ (u : State). container_of (hold s) ≤ container_of (hold u)) same keeps.hold in
    let from : flushed s ≤ placed.lsn = omega (arith, flushed_below s valid, above) in
    let cuts : cut t ≡ cut s = ap (λ (n : ℕ). cut_at n t) (flushed_put s entry goes)
    ∙ ap (λ (es : List LogEntry). let u : State = record (cut s) { records = es } in u) (stable_put (flushed s) s.records placed from) in
    let is : IsStored t newest blocks = record {
      entries = stored.entries;
      log = stored.log;
      records = stored.records ∙ sym (ap (λ (u : State). records_from_container newest.image.first u.records) cuts);
      state = stored.state ∙ sym (ap (λ (u : State). let v : State = record u { records = stored.entries } in v) cuts);
      needed = omega (arith, stored.needed, up);
    } in
    subst (λ (u : State). IsStored u newest blocks) (sym same) is

-- The blocks that were read are its too: the record isn't in any of them.
pub kept_put : (s : State) (entry : LogEntry) (kept : Buffered) → IsValid s → IsReadyFor s (length entry.bytes) → AreKept s kept → AreKept (put s entry) kept
kept_put s entry kept valid ready are =
    let t : State = with_put s entry in
    let goes = goes_on s (length entry.bytes) valid ready in
    let same : put s entry ≡ t = put_is s entry ready in
    let placed : LogEntry = record entry { lsn = next_lsn s (length entry.bytes) } in
    let stable : flushed t ≡ flushed s = flushed_put s entry goes in
    let is : AreKept t kept = record {
      stable = λ at records there. omega (arith, are.stable at records there, stable);
      records = λ at records there other has here. ⊎_elim
          (λ (among : Contains s.records other). are.records at records there other among here)
          (λ (new : placed ≡ other).
          let at_new : block_place placed.lsn ≡ at = ap (λ (e : LogEntry). block_place e.lsn) new ∙ here in
          absurd (omega (arith, are.stable at records there, ap first_lsn at_new, goes.in_block, flushed_below s valid)))
          (Contains-push_cases s.records placed other has);
    } in
    subst (λ (u : State). AreKept u kept) (sym same) is

-- ---- the hold

-- one more number makes the least no greater
least_of_more : (n : ℕ) (ns more : List ℕ) → fold min n (ns ++ more) ≤ fold min n ns
least_of_more n [] more = least_up_to n more
  where
    least_up_to : (n : ℕ) (ns : List ℕ) → fold min n ns ≤ n
    least_up_to n [] = omega arith
    least_up_to n (m ∷ ns) = omega (arith, least_up_to (min n m) ns)
least_of_more n (m ∷ ns) more = least_of_more (min n m) ns more

least_with : (end other n : ℕ) (tail ns : List ℕ) → container_of n ≤ container_of end
    → container_of (least_or other (tail ++ (ns ++ n ∷ []))) ≤ container_of (least_or end (tail ++ ns))
least_with end other n [] [] le = le
least_with end other n [] (m ∷ ns) le = omega (arith, least_of_more m ns (n ∷ []))
least_with end other n (m ∷ tail) ns le =
    rw (← append_assoc tail ns (n ∷ [])) (omega (arith, least_of_more m (tail ++ ns) (n ∷ [])))

-- The record leaves the hold in its container: it is live, and in the place's container.
pub hold_put : (s : State) (entry : LogEntry) → IsValid s → IsReadyFor s (length entry.bytes) → frontier s.place ≤ next_lsn s (length entry.bytes)
    → container_of (hold (put s entry)) ≤ container_of (hold s)
hold_put s entry valid ready above =
    let t : State = with_put s entry in
    let goes = goes_on s (length entry.bytes) valid ready in
    let placed : LogEntry = record entry { lsn = next_lsn s (length entry.bytes) } in
    let live : is_live s placed ≡ true = le-leb (base_of s placed.stream) placed.lsn (omega (arith, base_below s placed.stream valid, flushed_below s valid, above)) in
    let one : filter (is_live s) (placed ∷ []) ≡ placed ∷ [] = rw live refl in
    let lsns : live_lsns t ≡ live_lsns s ++ placed.lsn ∷ [] =
    ap (λ (es : List LogEntry). map (λ (e : LogEntry). e.lsn) es) (filter-append (is_live s) s.records (placed ∷ []))
    ∙ map-append (λ (e : LogEntry). e.lsn) (filter (is_live s) s.records) (filter (is_live s) (placed ∷ []))
    ∙ ap (λ (es : List LogEntry). live_lsns s ++ map (λ (e : LogEntry). e.lsn) es) one in
    let held : container_of (least_or (frontier t.place) (option_to_list s.archive ++ (live_lsns s ++ placed.lsn ∷ []))) ≤ container_of (hold s) =
    least_with (frontier s.place) (frontier t.place) placed.lsn (option_to_list s.archive) (live_lsns s) (omega (arith, goes.in_block, (small_place s.shape s.place valid.ranges.shape valid.ranges.place).low)) in
    subst (λ (u : State). container_of (hold u) ≤ container_of (hold s)) (sym (put_is s entry ready))
    (subst (λ (ns : List ℕ). container_of (least_or (frontier t.place) (option_to_list s.archive ++ ns)) ≤ container_of (hold s)) (sym lsns) held)

-- So the log is open with the record.
pub open_put : (disk : DiskState) (before after : Log) (fields : Fields) (bytes : List ℕ) → IsIntact disk before → IsReadyFor before.state.value (length bytes)
    → frontier before.state.value.place ≤ next_lsn before.state.value (length bytes)
    → KeepsTables before.state.value (put before.state.value (unplaced fields bytes)) → IsPutInMemory before after
    → after.state.value ≡ put before.state.value (unplaced fields bytes) → Holds after.state.value after → IsOpen disk after.state.value after
open_put disk before after fields bytes intact ready above keeps same state holds =
    let s : State = before.state.value in
    let e : LogEntry = unplaced fields bytes in
    let opened = intact.opened in
    record {
      memory = holds;
      blocks = opened.blocks;
      stored = rw (state, same.physical) (stored_put s e before.physical opened.blocks intact.sound.valid ready above keeps opened.stored);
      files = λ tells. rw same.physical (opened.files tells);
      kept = λ tells. rw (state, same.buffers) (kept_put s e before.buffers intact.sound.valid ready (opened.kept tells));
      settled = opened.settled;
      forgotten = record {
        low = omega (arith, opened.forgotten.low, same.low, ap (λ (u : State). container_of (hold u)) state, hold_put s e intact.sound.valid ready above);
        ends = rw (same.low, same.archive) opened.forgotten.ends;
      };
    }

seal_whole : (s : State) → (seal s).broken ≡ s.broken
seal_whole s = elim (cases_Bool (nat_lt 0 s.place.records)) [ inl some ↦ rw some refl | inr none ↦ rw none refl ]

-- a record breaks no log
pub put_whole : (s : State) (entry : LogEntry) → (put s entry).broken ≡ s.broken
put_whole s entry = elim (cases_Bool (joins s.shape s.place (length entry.bytes))) [
  | inl join ↦ rw join refl
  | inr apart ↦ elim (cases_Bool (begins_here s.shape s.place (length entry.bytes))) [
    | inl begin ↦ rw (apart, begin) (seal_whole s)
    | inr beyond ↦ rw (apart, beyond) (seal_whole s)
  ]
]

-- A log that is open with a record that leaves it valid is intact.
pub intact_put : (disk : DiskState) (u : State) (log : Log) (entry : LogEntry) (kept : AreaTable) → u.broken ≡ false → IsWhole (put u entry)
    → log.state.value ≡ put u entry → IsOpenWith kept disk log → IsIntact disk log
intact_put disk u log entry kept unbroken whole to is = record {
  sound = record {
    valid = subst IsValid (sym to) whole.valid;
    storable = subst IsStorable (sym to) whole.storable;
    unbroken = is.unbroken;
    whole = ap (λ (v : State). v.broken) to ∙ put_whole u entry ∙ unbroken;
    holds = is.opened.memory;
  };
  opened = is.opened;
}
