-- What follows of records whose LSNs rise from one on and stay below another.
use Rattle.clfs_recover.proofs.Words.{◌≡◌, ◌⊎◌, inl, inr, ⊎_elim, ℕ, zero, suc, ◌+◌, ◌-◌, ◌%◌, ◌^◌, ◌<◌, ◌≤◌, Bool, ◌&&◌, eqb, List, [], ◌∷◌, length, map}
use Rattle.clfs_recover.proofs.Words.{refl, ◌∙◌, ap, subst, arith, slice_index, AllByRecursion, filter, cases_Bool, eqb-true, eqb-false, lsn_number}
use Rattle.clfs_recover.proofs.Words.{container_of, offset_of, sequence_of, size, frontier, LogEntry, Place, Shape, before_all, behind, LiesBehind, LieInBlocks}
use Rattle.std.specs.List.Sorted.{IsStrictlyIncreasing}
use Rattle.std.proofs.lemmas.Bool.{and_parts}
use Rattle.clfs_recover.proofs.LaidBlocks.{RiseWithin}

-- the lower LSN is at most the higher one
reaches : (low high : ℕ) (entries : List LogEntry) → RiseWithin low high entries → low ≤ high
reaches low high [] rise = rise
reaches low high (entry ∷ entries) rise = let rest = reaches (entry.lsn + 1) high entries rise.1 in omega (arith, rise.0, rest)

-- all lie below the higher one
pub all_below : (low high : ℕ) (entries : List LogEntry) → RiseWithin low high entries → AllByRecursion (λ (entry : LogEntry). entry.lsn < high) entries
all_below low high [] rise = tt
all_below low high (entry ∷ entries) rise =
    (let rest = reaches (entry.lsn + 1) high entries rise.1 in omega (arith, rest), all_below (entry.lsn + 1) high entries rise.1)

-- and at or above the lower one
pub all_above : (low high : ℕ) (entries : List LogEntry) → RiseWithin low high entries → AllByRecursion (λ (entry : LogEntry). low ≤ entry.lsn) entries
all_above low high entries rise = from low low entries (omega arith) rise
  where
    from : (least low : ℕ) (entries : List LogEntry) → least ≤ low → RiseWithin low high entries → AllByRecursion (λ (entry : LogEntry). least ≤ entry.lsn) entries
    from least low [] le rise = tt
    from least low (entry ∷ entries) le rise = (omega (arith, le, rise.0), from least (entry.lsn + 1) entries (omega (arith, le, rise.0)) rise.1)

-- they rise strictly
pub all_rise : (low high : ℕ) (entries : List LogEntry) → RiseWithin low high entries → IsStrictlyIncreasing (map (λ (entry : LogEntry). entry.lsn) entries)
all_rise low high [] rise k within = absurd (omega (arith, within))
all_rise low high (entry ∷ []) rise k within = absurd (omega (arith, within))
all_rise low high (entry ∷ next ∷ entries) rise zero within = omega (arith, rise.1.0)
all_rise low high (entry ∷ next ∷ entries) rise (suc k) within =
    let lsns : List ℕ = map (λ (e : LogEntry). e.lsn) (entry ∷ next ∷ entries) in
    let further : suc (k + 1) ≡ suc k + 1 = omega arith in
    subst (λ (n : ℕ). slice_index lsns (suc k) < slice_index lsns n) further (all_rise (entry.lsn + 1) high (next ∷ entries) rise.1 k (omega (arith, within)))

-- the test that a record is of a block
abbrev pub is_of_block : ℕ → ℕ → LogEntry → Bool
is_of_block container offset entry = eqb (container_of entry.lsn) container && eqb (offset_of entry.lsn) offset

-- none is of a block that begins above them all
pub none_of_block : (container offset : ℕ) (entries : List LogEntry) → offset % 512 ≡ 0 → offset < 2 ^ 32
    → AllByRecursion (λ (entry : LogEntry). entry.lsn < lsn_number container offset 0) entries → filter (is_of_block container offset) entries ≡ []
none_of_block container offset [] whole low all = refl
none_of_block container offset (entry ∷ entries) whole low all = elim (cases_Bool (is_of_block container offset entry)) [
  | inl inside ↦ absurd (
      let parts = and_parts (eqb (container_of entry.lsn) container) (eqb (offset_of entry.lsn) offset) inside in
      let of_container : container_of entry.lsn ≡ container = eqb-true (container_of entry.lsn) container parts.0 in
      let of_offset : offset_of entry.lsn ≡ offset = eqb-true (offset_of entry.lsn) offset parts.1 in
      omega (arith, of_container, of_offset, all.0))
  | inr outside ↦ rw outside (none_of_block container offset entries whole low all.1)
]

-- ---- sequences

-- after a record the next one of its block has the LSN next to its own
next_lsn : (place : Place) (entry : LogEntry) → LiesBehind place entry → frontier (behind place entry) ≡ entry.lsn + 1
next_lsn place entry lies = elim (cases_Bool (eqb (sequence_of entry.lsn) 0)) [
  | inl first ↦ rw first (let none = eqb-true (sequence_of entry.lsn) 0 first in omega (arith, none))
  | inr other ↦ rw other (by_case (eqb-false (sequence_of entry.lsn) 0 other) lies)
]
  where
    by_case : (sequence_of entry.lsn ≡ 0 → ⊥) → LiesBehind place entry
        → frontier (record place { used = place.used + size (length entry.bytes); records = place.records + 1 }) ≡ entry.lsn + 1
    by_case other (inl joins) = let at = joins.1 in omega (arith, at)
    by_case other (inr (inl begins)) = absurd (other (omega (arith, begins)))
    by_case other (inr (inr further)) = absurd (other (let at = further.1 in omega (arith, at)))

-- the LSNs of records
abbrev pub lsns_of : List LogEntry → List ℕ
lsns_of entries = map (λ (entry : LogEntry). entry.lsn) entries

-- each record but the first begins a block, or has the LSN next to that of the one before it
numbered : (shape : Shape) (place : Place) (entries : List LogEntry) (i : ℕ) → LieInBlocks shape place entries → suc i < length entries
    → (sequence_of (slice_index (lsns_of entries) (suc i)) ≡ 0) ⊎ (slice_index (lsns_of entries) (suc i) ≡ slice_index (lsns_of entries) i + 1)
numbered shape place [] i laid within = absurd (omega (arith, within))
numbered shape place (entry ∷ []) i laid within = absurd (omega (arith, within))
numbered shape place (entry ∷ next ∷ entries) zero laid within = by_case laid.1.1.0
  where
    by_case : LiesBehind (behind place entry) next → (sequence_of next.lsn ≡ 0) ⊎ (next.lsn ≡ entry.lsn + 1)
    by_case (inl joins) = inr (joins.1 ∙ next_lsn place entry laid.0)
    by_case (inr (inl begins)) = inl (omega (arith, begins))
    by_case (inr (inr further)) = inl (let at = further.1 in omega (arith, at))
numbered shape place (entry ∷ next ∷ entries) (suc i) laid within =
    numbered shape (behind place entry) (next ∷ entries) i laid.1.1 (omega (arith, within))

-- and the first begins one
first_begins : (shape : Shape) (entries : List LogEntry) → LieInBlocks shape before_all entries → 0 < length entries
    → sequence_of (slice_index (lsns_of entries) 0) ≡ 0
first_begins shape [] laid some = absurd (omega (arith, some))
first_begins shape (entry ∷ entries) laid some = by_case laid.0
  where
    by_case : LiesBehind before_all entry → sequence_of entry.lsn ≡ 0
    by_case (inl joins) = absurd (let none = joins.0 in omega (arith, none))
    by_case (inr (inl begins)) = omega (arith, begins)
    by_case (inr (inr further)) = let at = further.1 in omega (arith, at)

-- in a block sequences are 0, 1 and so on
pub sequences : (shape : Shape) (entries : List LogEntry) (i : ℕ) → LieInBlocks shape before_all entries → i < length entries
    → (sequence_of (slice_index (lsns_of entries) i) ≡ 0)
    ⊎ ((1 ≤ i) × (slice_index (lsns_of entries) i ≡ slice_index (lsns_of entries) (i - 1) + 1))
sequences shape entries zero laid within = inl (first_begins shape entries laid within)
sequences shape entries (suc i) laid within = ⊎_elim (λ first. inl first) (λ (next : slice_index (lsns_of entries) (suc i) ≡ slice_index (lsns_of entries) i + 1).
    inr (omega arith, next ∙ (let at : i ≡ suc i - 1 = omega arith in ap (λ (k : ℕ). slice_index (lsns_of entries) k + 1) at)))
    (numbered shape before_all entries i laid within)
