-- A log of which the base of a stream moved, in memory and on the disk.
use Rattle.clfs_manager.proofs.Words.{◌≡◌, ◌≢◌, ⊎_elim, ℕ, ◌+◌, ◌-◌, ◌^◌, ◌<◌, ◌≤◌, suc, Bool, true, false, refl, sym, ap, subst, ◌∙◌, inl, inr, List, []}
use Rattle.clfs_manager.proofs.Words.{◌∷◌, length, map, arith, All, Contains, Option, Some, None, is_some, ◌&&◌, ◌==◌, nat_lt, cases_Bool, cases_lt, eqb-true}
use Rattle.clfs_manager.proofs.Words.{le-leb, nat_tests, length-set, All-head, All-tail, All-map, All-weaker, All-contains_itself, head_of, lsn_number}
use Rattle.clfs_manager.proofs.Words.{null_lsn, container_of, Head, LogEntry, IsImage, IsName, current, flag, row_in, BaseImage, Row, State, Stream, heads_of}
use Rattle.clfs_manager.proofs.Words.{hold, is_live, live, live_at, base_of, set_base, Buffered, Blocks, IsLogWith, stored_state, with_row_base, AreSealed}
use Rattle.clfs_manager.proofs.Words.{BlockEnd, base_in, with_base, IsStored, AreKept}
use Rattle.std.specs.Prelude.{◌||◌}
use Rattle.std.specs.List.{last_or}
use Rattle.std.proofs.lemmas.Bool.{cases_eq}
use Rattle.std.proofs.lemmas.List.{get_or-set_same, get_or-set_other}
use Rattle.clfs_base.specs.Layout.{version_two, most_dedicated}
use Rattle.clfs_base.specs.Spelling.{AreRows}
use Rattle.clfs_model.specs.Live.{last_live, lsn_or_null}
use Rattle.clfs_model.specs.Refusals.{is_base}
use Rattle.clfs_physical.specs.Changes.{with_base as row_bases}
use Rattle.clfs_manager.proofs.Among.{contains_all, found, here, there}
use Rattle.clfs_manager.proofs.Extents.{told_later}
use Rattle.clfs_manager.proofs.Reached.{hold_below_live}

-- ---- the new base

-- a base that moved lies at or below what all lie at or below
pub moved_below : (top number base : ℕ) (streams : List Stream) → 1 ≤ number → number ≤ length streams
    → All (λ (stream : Stream). stream.base ≤ top) (set_base number base streams) → base ≤ top
moved_below top number base [] some within all = absurd (omega (arith, some, within))
moved_below top number base (stream ∷ streams) some within all = elim (cases_Bool (number == 1)) [
  | inl is ↦
      let moved : All (λ (stream : Stream). stream.base ≤ top) (record stream { base = base } ∷ streams) = rw is at all in
      All-head (λ (stream : Stream). stream.base ≤ top) (record stream { base = base }) streams moved
  | inr isnt ↦
      let others : All (λ (stream : Stream). stream.base ≤ top) (stream ∷ set_base (number - 1) base streams) = rw isnt at all in
      let low : 2 ≤ number = grind (arith, nat_tests, isnt, some) in
      moved_below top (number - 1) base streams (omega (arith, low)) (omega (arith, within))
      (All-tail (λ (stream : Stream). stream.base ≤ top) stream (set_base (number - 1) base streams) others)
]

pub length_set_base : (number base : ℕ) (streams : List Stream) → length (set_base number base streams) ≡ length streams
length_set_base number base [] = refl
length_set_base number base (stream ∷ streams) = elim (cases_Bool (number == 1)) [
  | inl is ↦ rw is refl
  | inr isnt ↦ rw isnt (ap suc (length_set_base (number - 1) base streams))
]

both_true : (a b : Bool) → (a && b) ≡ true → (a ≡ true) × (b ≡ true)
both_true true true is = (refl, refl)
both_true true false is = absurd (cc is)
both_true false b is = absurd (cc is)

either_true : (a b : Bool) → (a || b) ≡ true → a ≡ false → b ≡ true
either_true true b is isnt = absurd (cc isnt)
either_true false b is isnt = is

-- a live record of a stream lies at or above its base
live_from_base : (s : State) (stream : ℕ) (entry : LogEntry) → Contains (live s stream) entry → base_of s stream ≤ entry.lsn
live_from_base s stream entry is =
    let passes = (contains_all (λ (e : LogEntry). (e.stream == stream) && is_live s e) s.records entry is).1 in
    let both = both_true (entry.stream == stream) (is_live s entry) passes in
    let own : entry.stream ≡ stream = eqb-true entry.stream stream both.0 in
    let from : base_of s entry.stream ≤ entry.lsn = grind (arith, nat_tests, both.1) in
    subst (λ (number : ℕ). base_of s number ≤ entry.lsn) own from

from_last : {X : Type 0} (x : X) (xs : List X) (y : X) → last_or (Some x) xs ≡ Some y → Contains (x ∷ xs) y
from_last x [] y is = let same : x ≡ y = cc is in subst (Contains (x ∷ [])) same (here x [])
from_last x (z ∷ zs) y is = there x y (z ∷ zs) (from_last z zs y is)

last_among : {X : Type 0} (xs : List X) (y : X) → last_or None xs ≡ Some y → Contains xs y
last_among [] y is = absurd (cc is)
last_among (x ∷ xs) y is = from_last x xs y is

-- So a base moves up alone.
pub base_is_up : (s : State) (stream base : ℕ) → is_base s stream base ≡ true → base_of s stream ≤ base
base_is_up s stream base is = by_live (live_at s stream base) refl
  where
    behind : (o : Option LogEntry) → last_or None (live s stream) ≡ o → (nat_lt null_lsn (lsn_or_null o) && (base == lsn_or_null o + 1)) ≡ true
        → base_of s stream ≤ base
    behind None at both = let low = (both_true (nat_lt null_lsn null_lsn) (base == null_lsn + 1) both).0 in absurd (cc low)
    behind (Some entry) at both =
        let next : base ≡ entry.lsn + 1 = eqb-true base (entry.lsn + 1) (both_true (nat_lt null_lsn entry.lsn) (base == entry.lsn + 1) both).1 in
        omega (arith, next, live_from_base s stream entry (last_among (live s stream) entry at))

    by_live : (o : Option LogEntry) → live_at s stream base ≡ o → base_of s stream ≤ base
    by_live (Some entry) at =
        let among = found (λ (e : LogEntry). e.lsn == base) (live s stream) entry at in
        let same : entry.lsn ≡ base = eqb-true entry.lsn base among.1 in
        subst (λ (n : ℕ). base_of s stream ≤ n) same (live_from_base s stream entry among.0)
    by_live None at =
        let last : (false || (nat_lt null_lsn (last_live s stream) && (base == last_live s stream + 1))) ≡ true =
        subst (λ (o : Option LogEntry). (is_some o || (nat_lt null_lsn (last_live s stream) && (base == last_live s stream + 1))) ≡ true) at is in
        behind (last_or None (live s stream)) refl last

-- ---- what is needed no more

start_below : (n : ℕ) → lsn_number (container_of n) 0 0 ≤ n
start_below n = omega arith

-- each record that lies in a container below the hold's is dead
pub dead_below : (s : State) → All (λ (head : Head). head.lsn < lsn_number (container_of (hold s)) 0 0 → head.lsn < base_in s.streams head.stream) (heads_of s)
dead_below s =
    let low : ℕ = lsn_number (container_of (hold s)) 0 0 in
    All-map (λ (head : Head). head.lsn < low → head.lsn < base_in s.streams head.stream) head_of s.records
    (All-weaker (Contains s.records) (λ (entry : LogEntry). entry.lsn < low → entry.lsn < base_of s entry.stream) dead s.records (All-contains_itself s.records))
  where
    dead : (entry : LogEntry) → Contains s.records entry → entry.lsn < lsn_number (container_of (hold s)) 0 0 → entry.lsn < base_of s entry.stream
    dead entry among below = elim (cases_lt entry.lsn (base_of s entry.stream)) [
      | inl is ↦ is
      | inr from ↦
          let alive : is_live s entry ≡ true = le-leb (base_of s entry.stream) entry.lsn from in
          absurd (omega (arith, hold_below_live s entry among alive, below, start_below (hold s)))
    ]

-- the same as memory has the streams and the heads
pub dead_in : (s : State) (streams : List Stream) (heads : List Head) (low : ℕ) → streams ≡ s.streams → heads ≡ heads_of s
    → low ≡ lsn_number (container_of (hold s)) 0 0 → All (λ (head : Head). head.lsn < low → head.lsn < base_in streams head.stream) heads
dead_in s streams heads low of_streams of_heads of_low =
    subst (λ (n : ℕ). All (λ (head : Head). head.lsn < n → head.lsn < base_in streams head.stream) heads) (sym of_low)
    (subst (λ (rows : List Stream). All (λ (head : Head). head.lsn < lsn_number (container_of (hold s)) 0 0 → head.lsn < base_in rows head.stream) heads) (sym of_streams)
    (subst (λ (all : List Head). All (λ (head : Head). head.lsn < lsn_number (container_of (hold s)) 0 0 → head.lsn < base_in s.streams head.stream) all) (sym of_heads)
    (dead_below s)))

-- ends of blocks that are told from an LSN on are told from every later one on
pub sealed_later : (low high next : ℕ) (blocks : List BlockEnd) (heads : List Head) → low ≤ high → AreSealed low next blocks heads
    → AreSealed high next blocks heads
sealed_later low high next blocks heads le are =
    record { told = told_later low high next blocks heads le are.told; below = are.below; start = are.start }

-- ---- the copy

-- a copy with the base of a stream moved, and another turn, of the version that is written
abbrev pub moved : ℕ → ℕ → ℕ → BaseImage → BaseImage
moved stream base turn image = record (with_row_base stream base image) { version = 2; turn = turn }

-- the rows keep their names
name_kept : (stream base : ℕ) (rows : List Row) (i : ℕ) → i < length rows → (row_in (row_bases stream base rows) i).name ≡ (row_in rows i).name
name_kept stream base rows i within = ⊎_elim
    (λ (same : i ≡ stream - 1). subst (λ (k : ℕ). (row_in (row_bases stream base rows) k).name ≡ (row_in rows k).name) (sym same)
    (ap (λ (r : Row). r.name) (get_or-set_same rows (stream - 1) _ _ (omega (arith, within, same)))))
    (λ (apart : i ≢ stream - 1). ap (λ (r : Row). r.name) (get_or-set_other rows (stream - 1) i _ _ apart))
    (cases_eq i (stream - 1))

moved_rows : (room stream base : ℕ) (rows : List Row) → base < 2 ^ 64 → AreRows room rows → AreRows room (row_bases stream base rows)
moved_rows room stream base rows few are = record {
  named = λ i within. subst (IsName room) (sym (name_kept stream base rows i (near i within))) (are.named i (near i within));
  different = λ i j below within same. are.different i j below (near j within)
      (sym (name_kept stream base rows i (omega (arith, below, near j within))) ∙ same ∙ name_kept stream base rows j (near j within));
  bases = λ i within. ⊎_elim
      (λ (same : i ≡ stream - 1). subst (λ (k : ℕ). (row_in (row_bases stream base rows) k).base < 2 ^ 64) (sym same)
      (subst (λ (r : Row). r.base < 2 ^ 64) (sym (get_or-set_same rows (stream - 1) _ _ (omega (arith, near i within, same)))) few))
      (λ (apart : i ≢ stream - 1). subst (λ (r : Row). r.base < 2 ^ 64) (sym (get_or-set_other rows (stream - 1) i _ _ apart)) (are.bases i (near i within)))
      (cases_eq i (stream - 1));
}
  where
    near : (i : ℕ) → i < length (row_bases stream base rows) → i < length rows
    near i within = omega (arith, within, length-set rows (stream - 1) (record (row_in rows (stream - 1)) { base = base }))

-- It is one that a log can have.
pub moved_image : (image : BaseImage) (stream base turn : ℕ) → IsImage (current image) → turn ≤ 2 → base < 2 ^ 64
    → IsImage (moved stream base turn image)
moved_image image stream base turn is of_turn few = record {
  version = refl;
  turn = of_turn;
  shape = is.shape;
  some_containers = is.some_containers;
  containers_made = is.containers_made;
  few_made = is.few_made;
  first = is.first;
  some_listed = is.some_listed;
  few_listed = is.few_listed;
  last_id = is.last_id;
  maximum = is.maximum;
  minimum = is.minimum;
  growth = is.growth;
  tail = is.tail;
  dedicated = subst (λ (n : ℕ). flag image.dedicated ≤ most_dedicated version_two n)
      (sym (length-set image.streams (stream - 1) (record (row_in image.streams (stream - 1)) { base = base }))) is.dedicated;
  files = is.files;
  few_streams = omega (arith, is.few_streams, length-set image.streams (stream - 1) (record (row_in image.streams (stream - 1)) { base = base }));
  rows = moved_rows version_two.longest_name stream base image.streams few is.rows;
}

-- Of a state that is stored a base is moved, in the copy too.
pub base_stored : (s : State) (slot : ℕ) (image : BaseImage) (blocks : Blocks) (stream base : ℕ)
    → (stored : IsStored s (record { slot = slot; image = image }) blocks) → image.first ≤ container_of (hold (with_base stream base s))
    → IsLogWith (with_row_base stream base image) (map blocks image.files) stored.entries
    → stored_state (with_row_base stream base image) (map blocks image.files) stored.entries s.buffers
    ≡ record (stored_state image (map blocks image.files) stored.entries s.buffers) {
      streams = set_base stream base (stored_state image (map blocks image.files) stored.entries s.buffers).streams;
    }
    → IsStored (with_base stream base s) (record { slot = slot; image = with_row_base stream base image }) blocks
base_stored s slot image blocks stream base stored low log state = record {
  entries = stored.entries;
  log = log;
  records = stored.records;
  state = state ∙ ap (λ (u : State). record u { streams = set_base stream base u.streams }) stored.state;
  needed = low;
}

-- the blocks that are kept are the state's still
pub kept_moved : (s : State) (stream base : ℕ) (kept : Buffered) → AreKept s kept → AreKept (with_base stream base s) kept
kept_moved s stream base kept are = record { stable = are.stable; records = are.records }
