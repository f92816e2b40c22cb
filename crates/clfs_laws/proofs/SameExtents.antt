-- The same is to be archived of states that are the same.
use Rattle.clfs_laws.proofs.Words.{◌≡◌, ℕ, ◌+◌, ◌-◌, ◌*◌, ◌≤◌, Bool, true, refl, sym, ap, ◌∙◌, inl, inr, arith, List, [], ◌∷◌, length, zero, suc, Option}
use Rattle.clfs_laws.proofs.Words.{Some, None, filter, nat_le, nat_lt, ◌&&◌, ◌==◌, slice_get, sum_by, AllByRecursion, range_with_len, filter_map, last_or}
use Rattle.clfs_laws.proofs.Words.{option_map, option_map_or, option_to_list, cases_Bool, eqb-true, container_of, offset_of, size, sectors, LogEntry, Extent}
use Rattle.clfs_laws.proofs.Words.{State, hold, flushed, IsSame, is_in_block, end_of_block, extent_in, extents_from, extents}
use Rattle.clfs_model.specs.Archive.{archived_in}
use Rattle.clfs_laws.proofs.HoldOrder.{hold_below_archive}
use Rattle.clfs_laws.proofs.LsnOrder.{both_true}
use Rattle.clfs_laws.proofs.SameRecords.{with_records, records_from, passed_same, passes_each, from_same}

-- records that are the same from a container on
abbrev AreSameFrom : ℕ → List LogEntry → List LogEntry → Type 0
AreSameFrom at records others = records_from at records ≡ records_from at others

-- a block that isn't below it ends at one place by both
end_same : (at lsn : ℕ) (records others : List LogEntry) → AreSameFrom at records others → container_of at ≤ container_of lsn
    → end_of_block others lsn ≡ end_of_block records lsn
end_same at lsn records others same up =
    let p : LogEntry → Bool = λ (entry : LogEntry). is_in_block entry.lsn lsn in
    let above : (entry : LogEntry) → p entry ≡ true → container_of at ≤ container_of entry.lsn =
    λ entry is. let here = eqb-true (container_of entry.lsn) (container_of lsn) (both_true _ _ is).0 in omega (arith, here, up) in
    let both = passed_same at p records others same (passes_each at p records above) (passes_each at p others above) in
    ap (λ (entries : List LogEntry). offset_of lsn + 512 * sectors (16 + sum_by (λ (entry : LogEntry). size (length entry.bytes)) entries)) (sym both)

-- the test for a record of a flushed block of a container, at or above the tail
abbrev is_archived : ℕ → ℕ → ℕ → LogEntry → Bool
is_archived stable tail container entry = (container_of entry.lsn == container) && nat_le tail entry.lsn && nat_lt entry.lsn stable

-- it tells the record's container
archived_container : (stable tail container : ℕ) (entry : LogEntry) → is_archived stable tail container entry ≡ true
    → container_of entry.lsn ≡ container
archived_container stable tail container entry is = eqb-true (container_of entry.lsn) container (both_true _ _ (both_true _ _ is).0).0

archived_all : (stable tail container : ℕ) (records : List LogEntry)
    → AllByRecursion (λ (entry : LogEntry). container_of entry.lsn ≡ container) (filter (is_archived stable tail container) records)
archived_all stable tail container [] = tt
archived_all stable tail container (entry ∷ entries) = elim (cases_Bool (is_archived stable tail container entry)) [
  | inl passes ↦ rw passes (archived_container stable tail container entry passes, archived_all stable tail container entries)
  | inr fails ↦ rw fails (archived_all stable tail container entries)
]

-- the extent of some records, by all records
abbrev extent_by : List LogEntry → LogEntry → LogEntry → Extent
extent_by records first last = record { container = container_of first.lsn; low = offset_of first.lsn; high = end_of_block records last.lsn }

abbrev extent_of : List LogEntry → List LogEntry → Option Extent
extent_of records archived = option_map
    (λ (first : LogEntry). extent_by records first (option_map_or (λ (last : LogEntry). last) (last_or None archived) first)) (slice_get archived 0)

-- the last of some records has what all have
last_is : (P : LogEntry → Type 0) (first before : LogEntry) (entries : List LogEntry) → P before → AllByRecursion P entries
    → P (option_map_or (λ (last : LogEntry). last) (last_or (Some before) entries) first)
last_is P first before [] is all = is
last_is P first before (entry ∷ entries) is all = last_is P first entry entries all.0 all.1

-- records of one container have the same extent by both
extent_of_same : (at container : ℕ) (records others archived : List LogEntry) → AreSameFrom at records others → container_of at ≤ container
    → AllByRecursion (λ (entry : LogEntry). container_of entry.lsn ≡ container) archived → extent_of others archived ≡ extent_of records archived
extent_of_same at container records others [] same up all = refl
extent_of_same at container records others (first ∷ archived) same up all =
    let last : LogEntry = option_map_or (λ (last : LogEntry). last) (last_or (Some first) archived) first in
    let here : container_of last.lsn ≡ container = last_is (λ (entry : LogEntry). container_of entry.lsn ≡ container) first first archived all.0 all.1 in
    let ends = end_same at last.lsn records others same (omega (arith, here, up)) in
    ap (λ (high : ℕ). let e : Extent = record { container = container_of first.lsn; low = offset_of first.lsn; high = high } in Some e) ends

-- the extent of a container that isn't below the hold's
extent_in_same : (at tail container : ℕ) (s : State) (records : List LogEntry) → AreSameFrom at s.records records → container_of at ≤ container
    → extent_in (with_records records s) tail container ≡ extent_in s tail container
extent_in_same at tail container s records same up =
    let p : LogEntry → Bool = is_archived (flushed s) tail container in
    let above : (entry : LogEntry) → p entry ≡ true → container_of at ≤ container_of entry.lsn =
    λ entry is. let here = archived_container (flushed s) tail container entry is in omega (arith, here, up) in
    let both : archived_in s tail container ≡ archived_in (with_records records s) tail container =
    passed_same at p s.records records same (passes_each at p s.records above) (passes_each at p records above) in
    ap (extent_of records) (sym both)
    ∙ extent_of_same at container s.records records (archived_in s tail container) same up (archived_all (flushed s) tail container s.records)

-- two functions that agree from a number on give the same over a range from there on
filter_map_same : (f g : ℕ → Option Extent) (least from count : ℕ) → least ≤ from → ((n : ℕ) → least ≤ n → f n ≡ g n)
    → filter_map f (range_with_len from count) ≡ filter_map g (range_with_len from count)
filter_map_same f g least from zero up each = refl
filter_map_same f g least from (suc count) up each =
    rw (each from up, filter_map_same f g least (from + 1) count (omega (arith, up)) each) refl

-- the extents, by whether archiving is on
extents_by : (at : ℕ) (s : State) (records : List LogEntry) (archive : Option ℕ) → AreSameFrom at s.records records
    → ((tail : ℕ) → archive ≡ Some tail → container_of at ≤ container_of tail)
    → option_map_or (extents_from (with_records records s)) archive [] ≡ option_map_or (extents_from s) archive []
extents_by at s records None same up = refl
extents_by at s records (Some tail) same up =
    filter_map_same (extent_in (with_records records s) tail) (extent_in s tail) (container_of tail) (container_of tail)
    (s.place.container + 1 - container_of tail) (omega arith)
    (λ container above. extent_in_same at tail container s records same (let low = up tail refl in omega (arith, low, above)))

-- the hold is at most the tail
hold_below_tail : (s : State) (tail : ℕ) (archive : Option ℕ) → AllByRecursion (λ lsn. hold s ≤ lsn) (option_to_list archive) → archive ≡ Some tail
    → hold s ≤ tail
hold_below_tail s tail None all is = absurd (cc)
hold_below_tail s tail (Some other) all is = let same : other ≡ tail = cc in omega (arith, same, all.0)

-- so the extents are the same
pub extents_same : (s : State) (records : List LogEntry) → IsSame s (with_records records s) → extents (with_records records s) ≡ extents s
extents_same s records same =
    extents_by (hold s) s records s.archive (from_same s (with_records records s) same).records
    (λ tail is. let below = hold_below_tail s tail s.archive (hold_below_archive s) is in omega (arith, below))
