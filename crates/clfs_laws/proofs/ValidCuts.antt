-- The fresh state is valid, and so is the flushed part of a valid state.
use Rattle.clfs_laws.proofs.Words.{◌≡◌, ℕ, ◌/◌, ◌<◌, ◌≤◌, Bool, true, refl, sym, ap, subst, inl, inr, arith, List, [], ◌∷◌, Option, Some, None, filter, map}
use Rattle.clfs_laws.proofs.Words.{IfSome, nat_lt, AllByRecursion, IsStrictlyIncreasing, cases_Bool, ltb-true, All-weaker, All-filter, All-from_recursion}
use Rattle.clfs_laws.proofs.Words.{recursion_from_All, lsn_number, container_of, offset_of, sequence_of, IsShape, Shape, LogEntry, Restart, State, Stream}
use Rattle.clfs_laws.proofs.Words.{fresh, hold, is_live, block_start, first_or, flushed, cut, IsValid, IsArea, IsRecord, IsWaiting}
use Rattle.std.proofs.lemmas.List.Kept.{IsStrictlyIncreasing-filter}
use Rattle.clfs_laws.proofs.LsnOrder.{small_offset, none_of_block}
use Rattle.clfs_laws.proofs.HoldOrder.{hold_later, hold_below_archive, hold_below_live, active_later}
use Rattle.clfs_laws.proofs.ValidStreams.{hold_flushed}

-- a log that has just been made
pub valid_fresh : (shape : Shape) (dedicated : Bool) (containers buffers : ℕ) → IsShape shape → 1 ≤ containers → containers ≤ 256 → 1 ≤ buffers → buffers ≤ 64
    → IsValid (fresh shape dedicated containers buffers)
valid_fresh shape dedicated containers buffers is some few some_buffers few_buffers = let s = fresh shape dedicated containers buffers in record {
  ranges = record {
    shape = is;
    some_containers = some;
    few_containers = few;
    some_buffers = some_buffers;
    few_buffers = few_buffers;
    place = record { container = omega arith; offset = refl; end = omega arith; block = inl (refl, refl) };
  };
  policies = record { maximum = tt; minimum = tt; order = tt; growth = tt };
  tables = record {
    names = λ i j d below within. absurd (omega (arith, within));
    numbers = λ i j d below within. absurd (omega (arith, within));
    areas = All-from_recursion (IsArea s) [] tt;
    dedicated = λ _. omega arith;
  };
  records = record {
    rising = λ k within. absurd (omega (arith, within));
    records = All-from_recursion (IsRecord s) [] tt;
    open_block = refl;
  };
  stable = record {
    bases = All-from_recursion (λ (stream : Stream). stream.base ≤ flushed s) [] tt;
    restarts = All-from_recursion (λ (entry : LogEntry). entry.kind ≡ Restart → entry.lsn < flushed s) [] tt;
    tail = tt;
  };
  waiting = record {
    few = omega (arith, some_buffers);
    rising = λ k within. absurd (omega (arith, within));
    blocks = All-from_recursion (IsWaiting s) [] tt;
  };
  space = record { active = omega (arith, some); room = omega arith; two = λ none. absurd (omega (arith, none)) };
}

-- the parts of the LSN up to which a log is on the disk
pub record IsBlockOf (s : State) (lsn : ℕ) : Type 0 where
  pub container : container_of lsn ≡ s.place.container
  pub sequence : sequence_of lsn ≡ 0
  pub below : lsn ≤ block_start s.place

flushed_by : (s : State) (waiting : List ℕ) → s.waiting ≡ waiting → IsValid s → IsBlockOf s (flushed s)
flushed_by s [] none valid =
    let is : flushed s ≡ block_start s.place = ap (first_or (block_start s.place)) none in
    let low = small_offset s.shape s.place valid.ranges.shape valid.ranges.place in
    subst (IsBlockOf s) (sym is) (record { container = omega (arith, low); sequence = omega (arith, valid.ranges.place.offset); below = omega arith })
flushed_by s (start ∷ rest) some valid =
    let is : flushed s ≡ start = ap (first_or (block_start s.place)) some in
    let F : List ℕ → Type 0 = AllByRecursion (IsWaiting s) in
    let first = (subst F some (recursion_from_All (IsWaiting s) s.waiting valid.waiting.blocks)).0 in
    subst (IsBlockOf s) (sym is) (record { container = first.container; sequence = first.sequence; below = omega (arith, first.below) })

pub flushed_block : (s : State) → IsValid s → IsBlockOf s (flushed s)
flushed_block s valid = flushed_by s s.waiting refl valid

filter_lsns : (bound : ℕ) (entries : List LogEntry) → filter (λ n. nat_lt n bound) (map (λ (entry : LogEntry). entry.lsn) entries)
    ≡ map (λ (entry : LogEntry). entry.lsn) (filter (λ (entry : LogEntry). nat_lt entry.lsn bound) entries)
filter_lsns bound [] = refl
filter_lsns bound (entry ∷ entries) = elim (cases_Bool (nat_lt entry.lsn bound)) [
  | inl below ↦ rw below (ap (λ ns. entry.lsn ∷ ns) (filter_lsns bound entries))
  | inr above ↦ rw above (filter_lsns bound entries)
]

pub kept_below : (bound : ℕ) (entries : List LogEntry) → AllByRecursion (λ (entry : LogEntry). entry.lsn < bound) (filter (λ (entry : LogEntry). nat_lt entry.lsn bound) entries)
kept_below bound [] = tt
kept_below bound (entry ∷ entries) = elim (cases_Bool (nat_lt entry.lsn bound)) [
  | inl below ↦ rw below (ltb-true entry.lsn bound below, kept_below bound entries)
  | inr above ↦ rw above (kept_below bound entries)
]

pub kept_live : (s : State) (p : LogEntry → Bool) (entries : List LogEntry) → AllByRecursion (λ (entry : LogEntry). is_live s entry ≡ true → hold s ≤ entry.lsn) entries
    → AllByRecursion (λ (entry : LogEntry). is_live s entry ≡ true → hold s ≤ entry.lsn) (filter p entries)
kept_live s p [] all = tt
kept_live s p (entry ∷ entries) all = elim (cases_Bool (p entry)) [
  | inl passes ↦ rw passes (all.0, kept_live s p entries all.1)
  | inr fails ↦ rw fails (kept_live s p entries all.1)
]

-- two conditions of the records that are kept
pub record IsKept (s : State) (bound : ℕ) (entry : LogEntry) : Type 0 where
  pub is : IsRecord s entry
  pub below : entry.lsn < bound

all_both : (s : State) (bound : ℕ) (entries : List LogEntry) → AllByRecursion (IsRecord s) entries → AllByRecursion (λ (entry : LogEntry). entry.lsn < bound) entries
    → AllByRecursion (IsKept s bound) entries
all_both s bound [] first second = tt
all_both s bound (entry ∷ entries) first second = (record { is = first.0; below = second.0 }, all_both s bound entries first.1 second.1)

-- the flushed part is flushed up to the same LSN
pub flushed_cut : (s : State) → IsValid s → flushed (cut s) ≡ flushed s
flushed_cut s valid = let block = flushed_block s valid in omega (arith, block.sequence)

-- the flushed part of a log
pub valid_cut : (s : State) → IsValid s → IsValid (cut s)
valid_cut s valid =
    let t = cut s in
    let f : ℕ = flushed s in
    let block = flushed_block s valid in
    let low = small_offset s.shape s.place valid.ranges.shape valid.ranges.place in
    let at : lsn_number (container_of f) (offset_of f) 0 ≡ f = flushed_cut s valid in
    let offset_low : offset_of f ≤ s.place.offset = omega (arith, block.container, block.below, low) in
    let end_low : s.place.offset / 512 ≤ s.shape.container_sectors = omega (arith, valid.ranges.place.end) in
    let p : LogEntry → Bool = λ entry. nat_lt entry.lsn f in
    let below = kept_below f s.records in
    let is_record = recursion_from_All (IsRecord s) (filter p s.records) (All-filter p (IsRecord s) s.records valid.records.records) in
    let kept = All-from_recursion (IsKept s f) t.records (all_both s f t.records is_record below) in
    let later = hold_later (hold s) t (let held = hold_flushed s valid in omega (arith, held, at)) (hold_below_archive s) (kept_live s p s.records (hold_below_live s)) in
    let used = active_later t.place (hold s) (hold t) later in
    record {
      ranges = record {
        shape = valid.ranges.shape;
        some_containers = valid.ranges.some_containers;
        few_containers = valid.ranges.few_containers;
        some_buffers = valid.ranges.some_buffers;
        few_buffers = valid.ranges.few_buffers;
        place = record {
          container = omega (arith, block.container, valid.ranges.place.container);
          offset = omega arith;
          end = omega (arith, offset_low, end_low);
          block = inl (refl, refl);
        };
      };
      policies = record { maximum = valid.policies.maximum; minimum = valid.policies.minimum; order = valid.policies.order; growth = valid.policies.growth };
      tables = record {
        names = valid.tables.names;
        numbers = λ i j d less within. absurd (omega (arith, within));
        areas = All-from_recursion (IsArea t) [] tt;
        dedicated = valid.tables.dedicated;
      };
      records = record {
        rising = subst IsStrictlyIncreasing (filter_lsns f s.records) (IsStrictlyIncreasing-filter (λ n. nat_lt n f) (map (λ (entry : LogEntry). entry.lsn) s.records) valid.records.rising);
        records = All-weaker (IsKept s f) (IsRecord t)
            (λ entry has. record { stream = has.is.stream; named = has.is.named; below = omega (arith, has.below, at); previous = has.is.previous; undo_next = has.is.undo_next })
            t.records kept;
        open_block = ap (map (λ (entry : LogEntry). sequence_of entry.lsn)) (none_of_block (container_of f) (offset_of f) t.records (omega arith) (omega (arith, offset_low, low))
            (recursion_from_All (λ (entry : LogEntry). entry.lsn < lsn_number (container_of f) (offset_of f) 0) t.records
            (All-weaker (IsKept s f) (λ (entry : LogEntry). entry.lsn < lsn_number (container_of f) (offset_of f) 0) (λ entry has. omega (arith, has.below, at)) t.records kept)));
      };
      stable = record {
        bases = All-weaker (λ (stream : Stream). stream.base ≤ f) (λ (stream : Stream). stream.base ≤ flushed t) (λ stream is. omega (arith, is, at)) s.streams valid.stable.bases;
        restarts = All-weaker (IsKept s f) (λ (entry : LogEntry). entry.kind ≡ Restart → entry.lsn < flushed t) (λ entry has restart. omega (arith, has.below, at)) t.records kept;
        tail = tail_at s.archive (omega (arith, at)) valid.stable.tail;
      };
      waiting = record {
        few = omega (arith, valid.ranges.some_buffers);
        rising = λ k within. absurd (omega (arith, within));
        blocks = All-from_recursion (IsWaiting t) [] tt;
      };
      space = record { active = omega (arith, used, block.container, valid.space.active); room = omega arith; two = λ none. absurd (omega (arith, none)) };
    }
  where
    tail_at : {m n : ℕ} (archive : Option ℕ) → m ≤ n → IfSome archive (λ tail. tail ≤ m) → IfSome archive (λ tail. tail ≤ n)
    tail_at None more is = tt
    tail_at (Some tail) more is = omega (arith, is, more)
