-- Files can hold the fresh state, and the flushed part of a state that they can hold.
use Rattle.clfs_laws.proofs.Words.{◌≡◌, ℕ, ◌%◌, ◌<◌, ◌≤◌, Bool, refl, sym, ap, ◌∙◌, subst, inl, inr, ◌⊎◌, arith, List, [], ◌∷◌, ◌++◌, Option, Some, None, All}
use Rattle.clfs_laws.proofs.Words.{IsSome, nat_lt, ◌==◌, AllByRecursion, cases_Bool, lt-ltb, le-ltb, ltb-true, ltb-false, eqb-true, All-filter}
use Rattle.clfs_laws.proofs.Words.{All-from_recursion, container_of, offset_of, sequence_of, IsShape, IsWithin, IsClosed, IsOpen, sealed, frontier, block_end}
use Rattle.clfs_laws.proofs.Words.{Place, Shape, LogEntry, State, Stream, fresh, block_start, first_or, flushed, cut, entry_at, name_fault, before_all}
use Rattle.clfs_laws.proofs.Words.{behind, behind_all, LiesBehind, LieInBlocks, GoesOnAt, HasMovedBase, HasBlocks, IsAreaWithinLimits, IsStorable, IsValid}
use Rattle.clfs_laws.proofs.Words.{IsWaiting}
use Rattle.clfs_laws.proofs.Among.{IsAmong, found, among_recursion}
use Rattle.clfs_laws.proofs.BlockOrder.{laid_front, laid_rest}
use Rattle.clfs_laws.proofs.FallingLists.{Rises, rises, below_lsn, all_below}
use Rattle.clfs_laws.proofs.LsnOrder.{small_offset, few_records}
use Rattle.clfs_laws.proofs.Links as of_links
use Rattle.clfs_laws.proofs.StorableBases.{bases_kept}
use Rattle.clfs_laws.proofs.SurvivingRecords.{BeginsBelow, none_below}
use Rattle.clfs_laws.proofs.SurvivorCuts.{same_places}
use Rattle.clfs_laws.proofs.ValidCuts.{flushed_block}
use Rattle.clfs_laws.proofs.ValidPlaces.{sound_of, opened_first}

-- a log that has just been made
pub storable_fresh : (shape : Shape) (dedicated : Bool) (containers buffers : ℕ) → IsStorable (fresh shape dedicated containers buffers)
storable_fresh shape dedicated containers buffers = let s = fresh shape dedicated containers buffers in record {
  bases = All-from_recursion (HasMovedBase s) [] tt;
  blocks = record { laid = tt; place = inr (inr (omega arith, refl)); container = omega arith };
  limits = record {
    names = All-from_recursion (λ (stream : Stream). name_fault stream.name ≡ None) [] tt;
    few_streams = omega arith;
    few_areas = λ client. omega arith;
    areas = All-from_recursion (IsAreaWithinLimits s) [] tt;
  };
}

-- records that rise, parted at the LSN of one of them
pub record IsParted (lsn : ℕ) (entries : List LogEntry) : Type 0 where
  pub first : LogEntry
  pub more : List LogEntry
  pub is : entries ≡ below_lsn lsn entries ++ first ∷ more
  pub at : first.lsn ≡ lsn

-- records that rise, parted at the first
first_part : (first : LogEntry) (entries : List LogEntry) → Rises (first ∷ entries) → IsParted first.lsn (first ∷ entries)
first_part first entries rising =
    let none : below_lsn first.lsn entries ≡ [] = none_below first.lsn entries (above first entries rising.0) in
    record {
      first = first;
      more = entries;
      is = rw (le-ltb first.lsn first.lsn (omega arith)) (rw none refl);
      at = refl;
    }
  where
    above : (first : LogEntry) (entries : List LogEntry) → AllByRecursion (λ (other : LogEntry). first.lsn < other.lsn) entries
        → AllByRecursion (λ (other : LogEntry). first.lsn ≤ other.lsn) entries
    above first [] all = tt
    above first (entry ∷ entries) all = (omega (arith, all.0), above first entries all.1)

-- at any of them
pub parted : (lsn : ℕ) (entries : List LogEntry) (entry : LogEntry) → Rises entries → IsAmong entry entries → entry.lsn ≡ lsn → IsParted lsn entries
parted lsn [] entry rising among at = absurd among
parted lsn (first ∷ entries) entry rising (inl same) at =
    let here : first.lsn ≡ lsn = ap (λ (e : LogEntry). e.lsn) same ∙ at in
    let F : ℕ → Type 0 = λ n. IsParted n (first ∷ entries) in
    subst F here (first_part first entries rising)
parted lsn (first ∷ entries) entry rising (inr among) at =
    let above : first.lsn < entry.lsn = among_recursion (λ (e : LogEntry). first.lsn < e.lsn) entries entry rising.0 among in
    let rest = parted lsn entries entry rising.1 among at in
    record {
      first = rest.first;
      more = rest.more;
      is = rw (lt-ltb first.lsn lsn (omega (arith, above, at))) (ap (λ (es : List LogEntry). first ∷ es) rest.is);
      at = rest.at;
    }

-- the numbers of a place after some records
pub record IsLow (place : Place) : Type 0 where
  pub offset : place.offset % 512 ≡ 0
  pub end : block_end place ≤ 16384
  pub few : place.records ≤ 511

-- a place within its container has such numbers
low_within : (shape : Shape) (place : Place) → IsShape shape → IsWithin shape place → IsLow place
low_within shape place is within =
    record { offset = within.offset; end = omega (arith, within.end, is.largest_container); few = few_records shape place within }

-- and so has the place after records that lie in blocks
pub low_all : (shape : Shape) (place : Place) (entries : List LogEntry) → IsShape shape → IsLow place → LieInBlocks shape place entries
    → IsLow (behind_all place entries)
low_all shape place [] is low laid = low
low_all shape place (entry ∷ entries) is low laid = low_all shape (behind place entry) entries is (low_within shape (behind place entry) is laid.1.0) laid.1.1

-- from the first record of all on
pub low_last : (shape : Shape) (entries : List LogEntry) → IsShape shape → LieInBlocks shape before_all entries
    → IsLow (behind_all before_all entries)
low_last shape entries is laid = low_all shape before_all entries is (record { offset = refl; end = omega arith; few = omega arith }) laid

-- a log whose first lost record begins a block goes on there
begins_there : (last : Place) (first : LogEntry) → IsLow last → sequence_of first.lsn ≡ 0 → LiesBehind last first
    → GoesOnAt last (record { container = container_of first.lsn; offset = offset_of first.lsn; used = 0; records = 0 })
begins_there last first low begins (inl joins) = absurd (omega (arith, begins, joins.0, joins.1, low.offset, low.few))
begins_there last first low begins (inr (inl at)) =
    inr (inl (same_places (record { container = container_of first.lsn; offset = offset_of first.lsn; used = 0; records = 0 }) (sealed last)
    (omega (arith, at, low.end)) (omega (arith, at, low.end)) refl refl))
begins_there last first low begins (inr (inr further)) =
    inr (inr (
      further.0,
      same_places (record { container = container_of first.lsn; offset = offset_of first.lsn; used = 0; records = 0 })
          (record { container = container_of first.lsn; offset = 0; used = 0; records = 0 }) refl (omega (arith, further.1)) refl refl,
    ))

-- what is there
some_of : {A : Type 0} (found : Option A) → IsSome found → (x : A) × (found ≡ Some x)
some_of None some = absurd (cc)
some_of (Some x) some = (x, refl)

-- the flushed part goes on at the flushed LSN, where the first record that is lost lies
cut_begins : (s : State) → IsValid s → LieInBlocks s.shape before_all s.records → sequence_of (flushed s) ≡ 0 → IsSome (entry_at s (flushed s))
    → GoesOnAt (behind_all before_all (cut s).records) (cut s).place
cut_begins s valid laid begins some =
    let f = some_of (entry_at s (flushed s)) some in
    let entry : LogEntry = f.0 in
    let is = found (λ (e : LogEntry). e.lsn == flushed s) s.records entry f.1 in
    let parts = parted (flushed s) s.records entry (rises s.records valid.records.rising) is.among (eqb-true entry.lsn (flushed s) is.passes) in
    let front : List LogEntry = below_lsn (flushed s) s.records in
    let last : Place = behind_all before_all front in
    let L : List LogEntry → Type 0 = LieInBlocks s.shape before_all in
    let all : LieInBlocks s.shape before_all (front ++ parts.first ∷ parts.more) = subst L parts.is laid in
    let lies = (laid_rest s.shape before_all front (parts.first ∷ parts.more) all).0 in
    let low = low_last s.shape front valid.ranges.shape (laid_front s.shape before_all front (parts.first ∷ parts.more) all) in
    let G : ℕ → Type 0 = λ n. GoesOnAt last (record { container = container_of n; offset = offset_of n; used = 0; records = 0 }) in
    subst G parts.at (begins_there last parts.first low (omega (arith, begins, parts.at)) lies)

-- or where nothing is lost
cut_whole : (s : State) → IsValid s → HasBlocks s → flushed s ≡ block_start s.place → s.place.records ≡ 0
    → GoesOnAt (behind_all before_all (cut s).records) (cut s).place
cut_whole s valid blocks at none =
    let low = small_offset s.shape s.place valid.ranges.shape valid.ranges.place in
    let used = closed_used s.shape s.place valid.ranges.place.block none in
    let place : s.place ≡ (cut s).place =
    same_places s.place (cut s).place (omega (arith, at, low)) (omega (arith, at, low, valid.ranges.place.offset)) used none in
    let above : frontier s.place ≡ flushed s = omega (arith, at, none) in
    let B : ℕ → Type 0 = λ n. AllByRecursion (λ (entry : LogEntry). entry.lsn < n) s.records in
    let all : (cut s).records ≡ s.records = all_below (flushed s) s.records (subst B above (of_links.all_below s (sound_of s valid))) in
    let G : List LogEntry → Type 0 = λ entries. GoesOnAt (behind_all before_all entries) (cut s).place in
    subst G (sym all) (subst (GoesOnAt (behind_all before_all s.records)) place blocks.place)
  where
    closed_used : (shape : Shape) (place : Place) → IsClosed place ⊎ IsOpen shape place → place.records ≡ 0 → place.used ≡ 0
    closed_used shape place (inl closed) none = closed.0
    closed_used shape place (inr opened) none = absurd (omega (arith, opened.some_records, none))

-- by what waits
cut_goes_by : (s : State) (waiting : List ℕ) → s.waiting ≡ waiting → IsValid s → HasBlocks s
    → GoesOnAt (behind_all before_all (cut s).records) (cut s).place
cut_goes_by s [] none valid blocks =
    let is : flushed s ≡ block_start s.place = ap (first_or (block_start s.place)) none in
    let begins = (flushed_block s valid).sequence in
    elim (cases_Bool (nat_lt 0 s.place.records)) [
      | inl some ↦
          let first = opened_first s (sound_of s valid) (ltb-true 0 s.place.records some) in
          let F : ℕ → Type 0 = λ n. IsSome (entry_at s n) in
          cut_begins s valid blocks.laid begins (subst F (sym is) first)
      | inr empty ↦ cut_whole s valid blocks is (omega (arith, ltb-false 0 s.place.records empty))
    ]
cut_goes_by s (start ∷ rest) some valid blocks =
    let is : flushed s ≡ start = ap (first_or (block_start s.place)) some in
    let begins = (flushed_block s valid).sequence in
    let F : List ℕ → Type 0 = All (IsWaiting s) in
    let waits : IsWaiting s start = (subst F some valid.waiting.blocks) 0 start (omega arith) in
    let G : ℕ → Type 0 = λ n. IsSome (entry_at s n) in
    cut_begins s valid blocks.laid begins (subst G (sym is) waits.first)

-- the flushed part goes on after its last record
pub cut_goes_on : (s : State) → IsValid s → HasBlocks s → GoesOnAt (behind_all before_all (cut s).records) (cut s).place
cut_goes_on s valid blocks = cut_goes_by s s.waiting refl valid blocks

-- of records that rise those below an LSN are the first
pub below_front : (lsn : ℕ) (entries : List LogEntry) → Rises entries → BeginsBelow lsn (below_lsn lsn entries) entries
below_front lsn [] rising = record { more = []; is = refl; above = tt }
below_front lsn (entry ∷ entries) rising = elim (cases_Bool (nat_lt entry.lsn lsn)) [
  | inl below ↦
      let rest = below_front lsn entries rising.1 in
      rw below (record { more = rest.more; is = ap (λ (es : List LogEntry). entry ∷ es) rest.is; above = rest.above })
  | inr above ↦
      let at_least : lsn ≤ entry.lsn = ltb-false entry.lsn lsn above in
      let all = above_all lsn entry entries at_least rising.0 in
      let none : below_lsn lsn entries ≡ [] = none_below lsn entries all in
      rw (above, none) (record { more = entry ∷ entries; is = refl; above = (at_least, all) })
]
  where
    above_all : (lsn : ℕ) (entry : LogEntry) (entries : List LogEntry) → lsn ≤ entry.lsn
        → AllByRecursion (λ (other : LogEntry). entry.lsn < other.lsn) entries
        → AllByRecursion (λ (other : LogEntry). lsn ≤ other.lsn) entries
    above_all lsn entry [] fits all = tt
    above_all lsn entry (other ∷ others) fits all = (omega (arith, fits, all.0), above_all lsn entry others fits all.1)

-- the flushed part of a log
pub storable_cut : (s : State) → IsValid s → IsStorable s → IsStorable (cut s)
storable_cut s valid storable =
    let t : State = cut s in
    let p : LogEntry → Bool = λ entry. nat_lt entry.lsn (flushed s) in
    let front = below_front (flushed s) s.records (rises s.records valid.records.rising) in
    let L : List LogEntry → Type 0 = LieInBlocks s.shape before_all in
    let block = flushed_block s valid in
    record {
      bases = bases_kept s t t.records (λ number. omega arith) (All-filter p (HasMovedBase s) s.records storable.bases);
      blocks = record {
        laid = laid_front s.shape before_all t.records front.more (subst L front.is storable.blocks.laid);
        place = cut_goes_on s valid storable.blocks;
        container = omega (arith, block.container, storable.blocks.container);
      };
      limits = record {
        names = storable.limits.names;
        few_streams = storable.limits.few_streams;
        few_areas = λ client. omega arith;
        areas = All-from_recursion (IsAreaWithinLimits t) [] tt;
      };
    }
