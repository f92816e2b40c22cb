-- The numbers of a state that files can hold.
use Rattle.clfs_laws.proofs.Words.{◌≡◌, ℕ, ◌<◌, ◌≤◌, ◌^◌, sym, ap, subst, inl, inr, ◌⊎◌, arith, length, Option, Some, None, All, Any, IfSome, slice_index_or}
use Rattle.clfs_laws.proofs.Words.{◌==◌, eqb-true, All-weaker, All-from_recursion, null_lsn, longest, frontier, Place, LogEntry, State, Area, Cursor, Stream}
use Rattle.clfs_laws.proofs.Words.{flushed, cut, HasMovedBase, HasBlocks, IsCursor, IsAreaWithinLimits, IsStorable, EndsBlockOf, IsValid, IsRecord, IsWaiting}
use Rattle.clfs_laws.proofs.Among.{found, at_each}
use Rattle.clfs_laws.proofs.BlockSums.{EndsWithin, paid_last}
use Rattle.clfs_laws.proofs.Links.{base_stable}
use Rattle.clfs_laws.proofs.LsnOrder.{small_offset, few_records}
use Rattle.clfs_laws.proofs.ValidPlaces.{sound_of, flushed_below}

-- each number by itself
pub offset_fits : (s : State) → IsValid s → s.place.offset < 2 ^ 32
offset_fits s valid = omega (arith, small_offset s.shape s.place valid.ranges.shape valid.ranges.place)

pub frontier_fits : (s : State) → IsValid s → HasBlocks s → frontier s.place < 2 ^ 64
frontier_fits s valid blocks =
    omega (arith, blocks.container, small_offset s.shape s.place valid.ranges.shape valid.ranges.place, few_records s.shape s.place valid.ranges.place)

pub flushed_fits : (s : State) → IsValid s → HasBlocks s → flushed s < 2 ^ 64
flushed_fits s valid blocks = omega (arith, frontier_fits s valid blocks, flushed_below s valid.waiting)

pub lsns_fit : (s : State) → IsValid s → HasBlocks s → All (λ (entry : LogEntry). entry.lsn < 2 ^ 64) s.records
lsns_fit s valid blocks =
    let low = frontier_fits s valid blocks in
    All-weaker (IsRecord s) (λ (entry : LogEntry). entry.lsn < 2 ^ 64) (λ entry is. omega (arith, is.below, low)) s.records valid.records.records

-- a link lies below its record
link_fits : (link lsn most : ℕ) → lsn < most → (link ≡ null_lsn) ⊎ (link < lsn) → link < most
link_fits link lsn most low (inl null) = omega (arith, low, null)
link_fits link lsn most low (inr below) = omega (arith, low, below)

pub previous_fit : (s : State) → IsValid s → HasBlocks s → All (λ (entry : LogEntry). entry.previous < 2 ^ 64) s.records
previous_fit s valid blocks =
    let low = frontier_fits s valid blocks in
    All-weaker (IsRecord s) (λ (entry : LogEntry). entry.previous < 2 ^ 64)
    (λ entry is. link_fits entry.previous entry.lsn (2 ^ 64) (omega (arith, is.below, low)) is.previous)
    s.records valid.records.records

pub undo_next_fit : (s : State) → IsValid s → HasBlocks s → All (λ (entry : LogEntry). entry.undo_next < 2 ^ 64) s.records
undo_next_fit s valid blocks =
    let low = frontier_fits s valid blocks in
    All-weaker (IsRecord s) (λ (entry : LogEntry). entry.undo_next < 2 ^ 64)
    (λ entry is. link_fits entry.undo_next entry.lsn (2 ^ 64) (omega (arith, is.below, low)) is.undo_next)
    s.records valid.records.records

pub new_bases_fit : (s : State) → IsValid s → IsStorable s → All (λ (entry : LogEntry). entry.new_base < 2 ^ 64) s.records
new_bases_fit s valid storable =
    let low = flushed_fits s valid storable.blocks in
    All-weaker (HasMovedBase s) (λ (entry : LogEntry). entry.new_base < 2 ^ 64)
    (λ entry is. let base = base_stable s entry.stream (sound_of s valid) in omega (arith, is.moved, base, low)) s.records storable.bases

pub lengths_fit : (s : State) → IsValid s → HasBlocks s → All (λ (entry : LogEntry). length entry.bytes ≤ longest s.shape) s.records
lengths_fit s valid blocks =
    All-from_recursion (λ (entry : LogEntry). length entry.bytes ≤ longest s.shape) s.records (paid_last s.shape s.records valid.ranges.shape blocks.laid).short

-- every block ends within its container
pub ends_fit : (s : State) → IsValid s → HasBlocks s → All (EndsWithin s.shape.container_sectors s.records) s.records
ends_fit s valid blocks =
    All-from_recursion (EndsWithin s.shape.container_sectors s.records) s.records (paid_last s.shape s.records valid.ranges.shape blocks.laid).ends

pub bases_fit : (s : State) → IsValid s → HasBlocks s → All (λ (stream : Stream). stream.base < 2 ^ 64) s.streams
bases_fit s valid blocks =
    let low = flushed_fits s valid blocks in
    All-weaker (λ (stream : Stream). stream.base ≤ flushed s) (λ (stream : Stream). stream.base < 2 ^ 64)
    (λ stream is. omega (arith, is, low)) s.streams valid.stable.bases

-- by whether archiving is on
tail_by : (archive : Option ℕ) (n m : ℕ) → n < m → IfSome archive (λ tail. tail ≤ n) → IfSome archive (λ tail. tail < m)
tail_by None n m low is = tt
tail_by (Some tail) n m low is = omega (arith, low, is)

pub tail_fits : (s : State) → IsValid s → HasBlocks s → IfSome s.archive (λ tail. tail < 2 ^ 64)
tail_fits s valid blocks = tail_by s.archive (flushed s) (2 ^ 64) (flushed_fits s valid blocks) valid.stable.tail

pub waiting_fit : (s : State) → IsValid s → HasBlocks s → All (λ (start : ℕ). start < 2 ^ 64) s.waiting
waiting_fit s valid blocks =
    let low = frontier_fits s valid blocks in
    All-weaker (IsWaiting s) (λ (start : ℕ). start < 2 ^ 64) (λ start is. omega (arith, is.below, low)) s.waiting valid.waiting.blocks

-- a cursor is at a record
cursor_fits : (s : State) (area : Area) (cursor : Cursor) → IsValid s → HasBlocks s → IsCursor s area cursor → cursor.last < 2 ^ 64
cursor_fits s area cursor valid blocks is =
    let f = found (λ (e : LogEntry). e.lsn == cursor.last) s.records is.entry is.there in
    let at : is.entry.lsn ≡ cursor.last = eqb-true is.entry.lsn cursor.last f.passes in
    let low = at_each (λ (entry : LogEntry). entry.lsn < 2 ^ 64) s.records is.entry (lsns_fit s valid blocks) f.among in
    omega (arith, at, low)

pub cursors_fit : (s : State) → IsValid s → IsStorable s → All (λ (area : Area). All (λ (cursor : Cursor). cursor.last < 2 ^ 64) area.cursors) s.areas
cursors_fit s valid storable =
    All-weaker (IsAreaWithinLimits s) (λ (area : Area). All (λ (cursor : Cursor). cursor.last < 2 ^ 64) area.cursors)
    (λ area is. All-weaker (IsCursor s area) (λ (cursor : Cursor). cursor.last < 2 ^ 64)
    (λ cursor has. cursor_fits s area cursor valid storable.blocks has) area.cursors is.cursors)
    s.areas storable.limits.areas

-- the place that a crash leaves has an offset that fits
pub survivor_low : (s t x : State) → IsValid t → HasBlocks t → (x.place ≡ (cut s).place) ⊎ Any (EndsBlockOf t.records x.place) t.records
    → x.place.offset < 2 ^ 32
survivor_low s t x valid blocks (inl same) = let at : x.place.offset ≡ (cut s).place.offset = ap (λ (place : Place). place.offset) same in omega (arith, at)
survivor_low s t x valid blocks (inr ends) =
    by_block ends.1 (ends_fit t valid blocks ends.0 ends.1 ends.2) (subst (EndsBlockOf t.records x.place) (sym ends.3) ends.4)
  where
    by_block : (entry : LogEntry) → EndsWithin t.shape.container_sectors t.records (slice_index_or t.records ends.0 entry)
        → EndsBlockOf t.records x.place (slice_index_or t.records ends.0 entry) → x.place.offset < 2 ^ 32
    by_block entry within (inl behind) = omega (arith, behind.1, within, valid.ranges.shape.largest_container)
    by_block entry within (inr next) = omega (arith, next.1)
