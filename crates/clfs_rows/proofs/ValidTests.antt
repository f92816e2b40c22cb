-- Tests that decide whether a state is one that a log can be in.
use Rattle.clfs_rows.proofs.Words.{◌≡◌, ◌⊎◌, ℕ, true, ◌+◌, ◌*◌, ◌<◌, ◌≤◌, List, length, arith, All, AllPairs, IsSome, IfSome, map, null_lsn, container_of}
use Rattle.clfs_rows.proofs.Words.{IsClosed, block_end, frontier, Shape, Place, LogEntry, Restart, State, Area, Cursor, Stream, flushed, entry_at, IsValid}
use Rattle.std.proofs.Common.{◌%◌}
use Rattle.std.specs.Prelude.{◌≢◌, slice_index}
use Rattle.std.specs.List.{range_with_len}
use Rattle.std.specs.List.Sorted.{IsStrictlyIncreasing}
use Rattle.clfs_lsn.specs.Limits.{most_block_sectors, most_container_sectors, most_block_records, most_containers, most_write_buffers, greatest_rate}
use Rattle.clfs_lsn.specs.Lsn.{sequence_of}
use Rattle.clfs_lsn.specs.Size.{IsShape, longest, sectors}
use Rattle.clfs_lsn.specs.Place.{IsWithin, IsOpen}
use Rattle.clfs_model.specs.State.{stream_at}
use Rattle.clfs_model.specs.Live.{active}
use Rattle.clfs_model.specs.Space.{free, reserved}
use Rattle.clfs_model.specs.Flush.{block_start}
use Rattle.clfs_model.specs.Valid.{HasRanges, HasPolicies, AreDifferentAreas, IsArea, HasTables, IsRecord, open_sequences, HasRecords, HasStable, IsWaiting}
use Rattle.clfs_model.specs.Valid.{HasWaiting, HasSpace}
use Rattle.clfs_rows.proofs.Decisions.{Decision, like, both, either, implies, refuted, alike, equal, less, at_most, each, each_two, each_below, is_there}
use Rattle.clfs_rows.proofs.Decisions.{where_some}
use Rattle.clfs_rows.proofs.SameStates.{same_numbers, same_kinds}

abbrev IsShapeParts : Shape → Type 0
IsShapeParts shape = (1 ≤ shape.block_sectors) × ((shape.block_sectors ≤ most_block_sectors) ×
    ((2 * shape.block_sectors ≤ shape.container_sectors) × (shape.container_sectors ≤ most_container_sectors)))

pub is_shape_of_parts : (shape : Shape) → IsShapeParts shape → IsShape shape
is_shape_of_parts shape p = record {
  some_sectors = p.0;
  largest_block = p.1.0;
  two_blocks = p.1.1.0;
  largest_container = p.1.1.1;
}

pub parts_of_is_shape : (shape : Shape) → IsShape shape → IsShapeParts shape
parts_of_is_shape shape h = (h.some_sectors, (h.largest_block, (h.two_blocks, h.largest_container)))

abbrev pub is_shape : (shape : Shape) → Decision (IsShape shape)
is_shape shape = like (is_shape_of_parts shape) (parts_of_is_shape shape)
    (both (at_most 1 shape.block_sectors)
    (both (at_most shape.block_sectors most_block_sectors)
    (both (at_most (2 * shape.block_sectors) shape.container_sectors)
    (at_most shape.container_sectors most_container_sectors))))

abbrev IsOpenParts : Shape → Place → Type 0
IsOpenParts shape place = (1 ≤ place.records) × ((place.records ≤ most_block_records) ×
    ((1 ≤ sectors place.used) × (sectors place.used ≤ shape.block_sectors)))

pub is_open_of_parts : (shape : Shape) (place : Place) → IsOpenParts shape place → IsOpen shape place
is_open_of_parts shape place p = record {
  some_records = p.0;
  few_records = p.1.0;
  some_sectors = p.1.1.0;
  few_sectors = p.1.1.1;
}

pub parts_of_is_open : (shape : Shape) (place : Place) → IsOpen shape place → IsOpenParts shape place
parts_of_is_open shape place h = (h.some_records, (h.few_records, (h.some_sectors, h.few_sectors)))

abbrev pub is_open : (shape : Shape) (place : Place) → Decision (IsOpen shape place)
is_open shape place = like (is_open_of_parts shape place) (parts_of_is_open shape place)
    (both (at_most 1 place.records)
    (both (at_most place.records most_block_records)
    (both (at_most 1 (sectors place.used))
    (at_most (sectors place.used) shape.block_sectors))))

abbrev IsWithinParts : Shape → Place → Type 0
IsWithinParts shape place = (1 ≤ place.container) × ((place.offset % 512 ≡ 0) ×
    ((block_end place ≤ shape.container_sectors) × (IsClosed place ⊎ IsOpen shape place)))

pub is_within_of_parts : (shape : Shape) (place : Place) → IsWithinParts shape place → IsWithin shape place
is_within_of_parts shape place p = record {
  container = p.0;
  offset = p.1.0;
  end = p.1.1.0;
  block = p.1.1.1;
}

pub parts_of_is_within : (shape : Shape) (place : Place) → IsWithin shape place → IsWithinParts shape place
parts_of_is_within shape place h = (h.container, (h.offset, (h.end, h.block)))

abbrev pub is_within : (shape : Shape) (place : Place) → Decision (IsWithin shape place)
is_within shape place = like (is_within_of_parts shape place) (parts_of_is_within shape place)
    (both (at_most 1 place.container)
    (both (equal (place.offset % 512) 0)
    (both (at_most (block_end place) shape.container_sectors)
    (either (both (equal place.used 0) (equal place.records 0)) (is_open shape place)))))

abbrev HasRangesParts : State → Type 0
HasRangesParts s = (IsShape s.shape) × ((1 ≤ s.containers) × ((s.containers ≤ most_containers) ×
    ((1 ≤ s.buffers) × ((s.buffers ≤ most_write_buffers) × (IsWithin s.shape s.place)))))

pub has_ranges_of_parts : (s : State) → HasRangesParts s → HasRanges s
has_ranges_of_parts s p = record {
  shape = p.0;
  some_containers = p.1.0;
  few_containers = p.1.1.0;
  some_buffers = p.1.1.1.0;
  few_buffers = p.1.1.1.1.0;
  place = p.1.1.1.1.1;
}

pub parts_of_has_ranges : (s : State) → HasRanges s → HasRangesParts s
parts_of_has_ranges s h = (h.shape, (h.some_containers, (h.few_containers, (h.some_buffers, (h.few_buffers, h.place)))))

abbrev pub has_ranges : (s : State) → Decision (HasRanges s)
has_ranges s = like (has_ranges_of_parts s) (parts_of_has_ranges s)
    (both (is_shape s.shape)
    (both (at_most 1 s.containers)
    (both (at_most s.containers most_containers)
    (both (at_most 1 s.buffers)
    (both (at_most s.buffers most_write_buffers)
    (is_within s.shape s.place))))))

abbrev HasPoliciesParts : State → Type 0
HasPoliciesParts s = (IfSome s.maximum (λ most. (2 ≤ most) × (most ≤ most_containers))) ×
    ((IfSome s.minimum (λ least. (2 ≤ least) × (least ≤ most_containers))) ×
    ((IfSome s.maximum (λ most. IfSome s.minimum (λ least. least ≤ most))) × (IfSome s.growth (λ rate. (1 ≤ rate) × (rate ≤ greatest_rate)))))

pub has_policies_of_parts : (s : State) → HasPoliciesParts s → HasPolicies s
has_policies_of_parts s p = record {
  maximum = p.0;
  minimum = p.1.0;
  order = p.1.1.0;
  growth = p.1.1.1;
}

pub parts_of_has_policies : (s : State) → HasPolicies s → HasPoliciesParts s
parts_of_has_policies s h = (h.maximum, (h.minimum, (h.order, h.growth)))

abbrev pub has_policies : (s : State) → Decision (HasPolicies s)
has_policies s = like (has_policies_of_parts s) (parts_of_has_policies s)
    (both (where_some (λ most. both (at_most 2 most) (at_most most most_containers)) s.maximum)
    (both (where_some (λ least. both (at_most 2 least) (at_most least most_containers)) s.minimum)
    (both (where_some (λ most. where_some (λ least. at_most least most) s.minimum) s.maximum)
    (where_some (λ rate. both (at_most 1 rate) (at_most rate greatest_rate)) s.growth))))

abbrev IsAreaOfParts : State → Area → Type 0
IsAreaOfParts s area = (IsSome (stream_at s area.stream)) × ((area.largest ≤ longest s.shape) ×
    (AllPairs (λ (a b : Cursor). a.number ≢ b.number) area.cursors))

pub is_area_of_of_parts : (s : State) (area : Area) → IsAreaOfParts s area → IsArea s area
is_area_of_of_parts s area p = record {
  stream = p.0;
  largest = p.1.0;
  cursors = p.1.1;
}

pub parts_of_is_area_of : (s : State) (area : Area) → IsArea s area → IsAreaOfParts s area
parts_of_is_area_of s area h = (h.stream, (h.largest, h.cursors))

abbrev pub is_area_of : (s : State) (area : Area) → Decision (IsArea s area)
is_area_of s area = like (is_area_of_of_parts s area) (parts_of_is_area_of s area)
    (both (is_there (stream_at s area.stream))
    (both (at_most area.largest (longest s.shape))
    (each_two (λ (a b : Cursor). refuted (equal a.number b.number)) area.cursors)))

abbrev HasTablesParts : State → Type 0
HasTablesParts s = (AllPairs (λ (a b : Stream). a.name ≢ b.name) s.streams) × ((AllPairs AreDifferentAreas s.areas) ×
    ((All (IsArea s) s.areas) × (s.dedicated ≡ true → length s.streams ≤ 1)))

pub has_tables_of_parts : (s : State) → HasTablesParts s → HasTables s
has_tables_of_parts s p = record {
  names = p.0;
  numbers = p.1.0;
  areas = p.1.1.0;
  dedicated = p.1.1.1;
}

pub parts_of_has_tables : (s : State) → HasTables s → HasTablesParts s
parts_of_has_tables s h = (h.names, (h.numbers, (h.areas, h.dedicated)))

abbrev pub has_tables : (s : State) → Decision (HasTables s)
has_tables s = like (has_tables_of_parts s) (parts_of_has_tables s)
    (both (each_two (λ (a b : Stream). refuted (same_numbers a.name b.name)) s.streams)
    (both (each_two (λ (a b : Area). either (refuted (equal a.client b.client)) (refuted (equal a.number b.number))) s.areas)
    (both (each (is_area_of s) s.areas) (implies (alike s.dedicated true) (at_most (length s.streams) 1)))))

abbrev IsRecordParts : State → LogEntry → Type 0
IsRecordParts s entry = (IsSome (stream_at s entry.stream)) × ((null_lsn < entry.lsn) ×
    ((entry.lsn < frontier s.place) × (((entry.previous ≡ null_lsn) ⊎ (entry.previous < entry.lsn)) ×
    ((entry.undo_next ≡ null_lsn) ⊎ (entry.undo_next < entry.lsn)))))

pub is_record_of_parts : (s : State) (entry : LogEntry) → IsRecordParts s entry → IsRecord s entry
is_record_of_parts s entry p = record {
  stream = p.0;
  named = p.1.0;
  below = p.1.1.0;
  previous = p.1.1.1.0;
  undo_next = p.1.1.1.1;
}

pub parts_of_is_record : (s : State) (entry : LogEntry) → IsRecord s entry → IsRecordParts s entry
parts_of_is_record s entry h = (h.stream, (h.named, (h.below, (h.previous, h.undo_next))))

abbrev pub is_record : (s : State) (entry : LogEntry) → Decision (IsRecord s entry)
is_record s entry = like (is_record_of_parts s entry) (parts_of_is_record s entry)
    (both (is_there (stream_at s entry.stream))
    (both (less null_lsn entry.lsn)
    (both (less entry.lsn (frontier s.place))
    (both (either (equal entry.previous null_lsn) (less entry.previous entry.lsn))
    (either (equal entry.undo_next null_lsn) (less entry.undo_next entry.lsn))))))

pub rising_of : (xs : List ℕ) → ((k : ℕ) → k < length xs → k + 1 < length xs → slice_index xs k < slice_index xs (k + 1)) → IsStrictlyIncreasing xs
rising_of xs each k within = each k (omega arith) within

pub of_rising : (xs : List ℕ) → IsStrictlyIncreasing xs → (k : ℕ) → k < length xs → k + 1 < length xs → slice_index xs k < slice_index xs (k + 1)
of_rising xs rising k within next = rising k next

abbrev pub rises : (xs : List ℕ) → Decision (IsStrictlyIncreasing xs)
rises xs = like (rising_of xs) (of_rising xs) (each_below (λ k. implies (less (k + 1) (length xs)) (less (slice_index xs k) (slice_index xs (k + 1))))
    (length xs))

abbrev HasRecordsParts : State → Type 0
HasRecordsParts s = (IsStrictlyIncreasing (map (λ (entry : LogEntry). entry.lsn) s.records)) ×
    ((All (IsRecord s) s.records) × (open_sequences s ≡ range_with_len 0 s.place.records))

pub has_records_of_parts : (s : State) → HasRecordsParts s → HasRecords s
has_records_of_parts s p = record {
  rising = p.0;
  records = p.1.0;
  open_block = p.1.1;
}

pub parts_of_has_records : (s : State) → HasRecords s → HasRecordsParts s
parts_of_has_records s h = (h.rising, (h.records, h.open_block))

abbrev pub has_records : (s : State) → Decision (HasRecords s)
has_records s = like (has_records_of_parts s) (parts_of_has_records s)
    (both (rises (map (λ (entry : LogEntry). entry.lsn) s.records))
    (both (each (is_record s) s.records)
    (same_numbers (open_sequences s) (range_with_len 0 s.place.records))))

abbrev HasStableParts : State → Type 0
HasStableParts s = (All (λ (stream : Stream). stream.base ≤ flushed s) s.streams) ×
    ((All (λ (entry : LogEntry). entry.kind ≡ Restart → entry.lsn < flushed s) s.records) × (IfSome s.archive (λ tail. tail ≤ flushed s)))

pub has_stable_of_parts : (s : State) → HasStableParts s → HasStable s
has_stable_of_parts s p = record {
  bases = p.0;
  restarts = p.1.0;
  tail = p.1.1;
}

pub parts_of_has_stable : (s : State) → HasStable s → HasStableParts s
parts_of_has_stable s h = (h.bases, (h.restarts, h.tail))

abbrev pub has_stable : (s : State) → Decision (HasStable s)
has_stable s = like (has_stable_of_parts s) (parts_of_has_stable s)
    (both (each (λ (stream : Stream). at_most stream.base (flushed s)) s.streams)
    (both (each (λ (entry : LogEntry). implies (same_kinds entry.kind Restart) (less entry.lsn (flushed s))) s.records)
    (where_some (λ tail. at_most tail (flushed s)) s.archive)))

abbrev IsWaitingParts : State → ℕ → Type 0
IsWaitingParts s start = (container_of start ≡ s.place.container) × ((sequence_of start ≡ 0) ×
    ((IsSome (entry_at s start)) × (start < block_start s.place)))

pub is_waiting_of_parts : (s : State) (start : ℕ) → IsWaitingParts s start → IsWaiting s start
is_waiting_of_parts s start p = record {
  container = p.0;
  sequence = p.1.0;
  first = p.1.1.0;
  below = p.1.1.1;
}

pub parts_of_is_waiting : (s : State) (start : ℕ) → IsWaiting s start → IsWaitingParts s start
parts_of_is_waiting s start h = (h.container, (h.sequence, (h.first, h.below)))

abbrev pub is_waiting : (s : State) (start : ℕ) → Decision (IsWaiting s start)
is_waiting s start = like (is_waiting_of_parts s start) (parts_of_is_waiting s start)
    (both (equal (container_of start) s.place.container)
    (both (equal (sequence_of start) 0)
    (both (is_there (entry_at s start))
    (less start (block_start s.place)))))

abbrev HasWaitingParts : State → Type 0
HasWaitingParts s = (length s.waiting < s.buffers) × ((IsStrictlyIncreasing s.waiting) × (All (IsWaiting s) s.waiting))

pub has_waiting_of_parts : (s : State) → HasWaitingParts s → HasWaiting s
has_waiting_of_parts s p = record {
  few = p.0;
  rising = p.1.0;
  blocks = p.1.1;
}

pub parts_of_has_waiting : (s : State) → HasWaiting s → HasWaitingParts s
parts_of_has_waiting s h = (h.few, (h.rising, h.blocks))

abbrev pub has_waiting : (s : State) → Decision (HasWaiting s)
has_waiting s = like (has_waiting_of_parts s) (parts_of_has_waiting s)
    (both (less (length s.waiting) s.buffers)
    (both (rises s.waiting)
    (each (is_waiting s) s.waiting)))

abbrev HasSpaceParts : State → Type 0
HasSpaceParts s = (active s ≤ s.containers) × ((reserved s ≤ free s) × (0 < reserved s → 2 ≤ s.containers))

pub has_space_of_parts : (s : State) → HasSpaceParts s → HasSpace s
has_space_of_parts s p = record {
  active = p.0;
  room = p.1.0;
  two = p.1.1;
}

pub parts_of_has_space : (s : State) → HasSpace s → HasSpaceParts s
parts_of_has_space s h = (h.active, (h.room, h.two))

abbrev pub has_space : (s : State) → Decision (HasSpace s)
has_space s = like (has_space_of_parts s) (parts_of_has_space s)
    (both (at_most (active s) s.containers)
    (both (at_most (reserved s) (free s))
    (implies (less 0 (reserved s)) (at_most 2 s.containers))))

abbrev IsValidParts : State → Type 0
IsValidParts s = (HasRanges s) × ((HasPolicies s) × ((HasTables s) × ((HasRecords s) × ((HasStable s) × ((HasWaiting s) × (HasSpace s))))))

pub is_valid_of_parts : (s : State) → IsValidParts s → IsValid s
is_valid_of_parts s p = record {
  ranges = p.0;
  policies = p.1.0;
  tables = p.1.1.0;
  records = p.1.1.1.0;
  stable = p.1.1.1.1.0;
  waiting = p.1.1.1.1.1.0;
  space = p.1.1.1.1.1.1;
}

pub parts_of_is_valid : (s : State) → IsValid s → IsValidParts s
parts_of_is_valid s h = (h.ranges, (h.policies, (h.tables, (h.records, (h.stable, (h.waiting, h.space))))))

abbrev pub is_valid : (s : State) → Decision (IsValid s)
is_valid s = like (is_valid_of_parts s) (parts_of_is_valid s)
    (both (has_ranges s)
    (both (has_policies s)
    (both (has_tables s)
    (both (has_records s)
    (both (has_stable s)
    (both (has_waiting s)
    (has_space s)))))))
