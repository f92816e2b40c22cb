-- A log that goes on in its next container: the copy without the low containers, the file that it takes, and what memory and the disk have then.
use Rattle.clfs_manager.proofs.Words.{◌≡◌, ℕ, ◌+◌, ◌-◌, ◌%◌, ◌<◌, ◌≤◌, Bool, true, false, refl, sym, ap, subst, ◌∙◌, arith, List, [], ◌∷◌, ◌++◌, length, map}
use Rattle.clfs_manager.proofs.Words.{drop, All, filter, nat_lt, nat_le, ◌==◌, eqb-true, All-map, All-weaker, lsn_number, container_of, offset_of, IsClosed}
use Rattle.clfs_manager.proofs.Words.{head_of, Head, LogEntry, AreSealed, BlocksGoOn, BaseImage, IsImage, current, Buffered, turned, State, block_start}
use Rattle.clfs_manager.proofs.Words.{flushed, cut, heads_of, hold, IsValid, IsRecord, Newest, Blocks, with_blocks, low_of, Queued, IsLogWith, stored_state}
use Rattle.clfs_manager.proofs.Words.{records_from_container, from_container, shape_of, Holds, unflushed, IsStored, AreKept, MayTurnTo, Log}
use Rattle.std.proofs.Common.{length-drop}
use Rattle.std.proofs.lemmas.List.{get_or-drop}
use Rattle.clfs_base.specs.Spelling.{AreFiles}
use Rattle.clfs_queue.specs.Queued as queues
use Rattle.clfs_manager.proofs.Numbers.{hold_within}
use Rattle.clfs_manager.proofs.Opened.{none_from}
use Rattle.clfs_manager.proofs.SplitRecords.{all_below}

-- ---- the copy

-- the copy that lists no low containers, by its version and its turn
pub record IsLow (first : ℕ) (now : Newest) : Type 0 where
  pub version : ℕ
  pub turn : ℕ
  pub fits : IsImage (record now.image { version = version })
  pub few : turn ≤ 2
  pub is : (low_of first now).image ≡ from_container first (record now.image { version = version; turn = turn })

pub low_is : (first : ℕ) (now : Newest) → IsImage now.image → IsImage (current now.image) → IsLow first now
low_is first now is_image is_current = by_test (first == now.image.first) refl
  where
    part : ℕ → ℕ → BaseImage
    part f k = record now.image { first = f; files = drop k now.image.files }

    by_test : (b : Bool) → (first == now.image.first) ≡ b → IsLow first now
    by_test true is =
        let same : now.image.first ≡ first = sym (eqb-true first now.image.first is) in
        let none : 0 ≡ first - now.image.first = omega (arith, same) in
        record { version = now.image.version; turn = now.image.turn; fits = is_image; few = is_image.turn; is = rw is (ap (λ f. part f 0) same ∙ ap (part first) none) }
    by_test false isnt = record { version = 2; turn = (now.image.turn + 1) % 3; fits = is_current; few = omega arith; is = rw isnt refl }

fewer_files : (made gone : ℕ) (files : List ℕ) → AreFiles made files → AreFiles made (drop gone files)
fewer_files made gone files are = record {
  from_one = λ i within. omega (arith, get_or-drop gone files i 0, are.from_one (gone + i) (near i within));
  to_last = λ i within. omega (arith, get_or-drop gone files i 0, are.to_last (gone + i) (near i within));
  different = λ i j below within same. are.different (gone + i) (gone + j) (omega (arith, below)) (near j within)
      (sym (get_or-drop gone files i 0) ∙ same ∙ get_or-drop gone files j 0);
}
  where
    near : (i : ℕ) → i < length (drop gone files) → gone + i < length files
    near i within = omega (arith, within, length-drop gone files)

-- it is one that a log can have
pub low_image : (image : BaseImage) (first turn : ℕ) → IsImage image → turn ≤ 2 → image.first ≤ first → first + 1 ≤ image.first + length image.files
    → IsImage (from_container first (record image { turn = turn }))
low_image image first turn is few from some = record {
  version = is.version;
  turn = few;
  shape = is.shape;
  some_containers = is.some_containers;
  containers_made = is.containers_made;
  few_made = is.few_made;
  first = omega (arith, is.first, from);
  some_listed = omega (arith, length-drop (first - image.first) image.files, from, some);
  few_listed = omega (arith, length-drop (first - image.first) image.files, is.few_listed);
  last_id = omega (arith, length-drop (first - image.first) image.files, is.last_id, from, some);
  maximum = is.maximum;
  minimum = is.minimum;
  growth = is.growth;
  tail = is.tail;
  dedicated = is.dedicated;
  files = fewer_files image.files_made (first - image.first) image.files is.files;
  few_streams = is.few_streams;
  rows = is.rows;
}

pub turned_image : (image : BaseImage) (turn : ℕ) → IsImage image → turn ≤ 2 → IsImage (record image { turn = turn })
turned_image image turn is few = record {
  version = is.version;
  turn = few;
  shape = is.shape;
  some_containers = is.some_containers;
  containers_made = is.containers_made;
  few_made = is.few_made;
  first = is.first;
  some_listed = is.some_listed;
  few_listed = is.few_listed;
  last_id = is.last_id;
  maximum = is.maximum;
  minimum = is.minimum;
  growth = is.growth;
  tail = is.tail;
  dedicated = is.dedicated;
  files = is.files;
  few_streams = is.few_streams;
  rows = is.rows;
}

-- What the low copy has of a log whose hold lies in its first container.
pub record HasLow (s : State) (low : BaseImage) : Type 0 where
  pub first : low.first ≡ container_of (hold s)
  pub listed : low.first + length low.files ≡ s.place.container + 1
  pub containers : low.containers ≡ s.containers
  pub shape : shape_of low ≡ s.shape
  pub dedicated : low.dedicated ≡ s.dedicated
  pub rows : length low.streams ≡ length s.streams

pub has_low : (s : State) (first version turn : ℕ) (log : Log) → IsValid s → Holds s log → first ≡ container_of (hold s)
    → HasLow s (from_container first (record log.physical.image { version = version; turn = turn }))
has_low s first version turn log valid holds is_first = record {
  first = is_first;
  listed = omega (arith, holds.listed, holds.needed, hold_within s valid, is_first, length-drop (first - log.physical.image.first) log.physical.image.files);
  containers = holds.containers;
  shape = holds.image_shape;
  dedicated = holds.dedicated;
  rows = holds.rows;
}

-- ---- the disk

-- all records lie below the next block, where nothing waits
pub all_before : (s : State) → IsValid s → IsClosed s.place → All (λ (entry : LogEntry). entry.lsn < block_start s.place) s.records
all_before s valid closed =
    All-weaker (IsRecord s) (λ (entry : LogEntry). entry.lsn < block_start s.place) (λ entry is. omega (arith, is.below, closed.1)) s.records valid.records.records

flushed_start : (s : State) → s.waiting ≡ [] → flushed s ≡ block_start s.place
flushed_start s none = rw none refl

-- all of them are on the disk
all_stable : (s : State) (n : ℕ) → All (λ (entry : LogEntry). entry.lsn < block_start s.place) s.records → block_start s.place ≤ n
    → filter (λ (entry : LogEntry). nat_lt entry.lsn n) s.records ≡ s.records
all_stable s n all up = all_below n s.records
    (All-weaker (λ (entry : LogEntry). entry.lsn < block_start s.place) (λ (entry : LogEntry). entry.lsn < n) (λ entry is. omega (arith, is, up)) s.records all)

-- the flushed part of the turned state is that of the state, but for the place
pub cut_turned : (s : State) → IsValid s → MayTurnTo s
    → cut (turned s) ≡ record (cut s) { place = record { container = s.place.container + 1; offset = 0; used = 0; records = 0 } }
cut_turned s valid may =
    let all = all_before s valid may.closed in
    let here : filter (λ (entry : LogEntry). nat_lt entry.lsn (flushed s)) s.records ≡ s.records =
    all_stable s (flushed s) all (omega (arith, flushed_start s may.waiting)) in
    let start : ℕ = lsn_number (s.place.container + 1) 0 0 in
    let there : filter (λ (entry : LogEntry). nat_lt entry.lsn start) s.records ≡ s.records =
    all_stable s start all (omega (arith, valid.ranges.place.end, valid.ranges.shape.largest_container)) in
    let F : ℕ → List ℕ → State = λ n waiting. cut (record (turned s) { waiting = waiting }) in
    let at : State → ℕ → ℕ → List LogEntry → State = λ u c o es. record u {
      records = es;
      place = record { container = c; offset = o; used = 0; records = 0 };
      waiting = [];
      areas = [];
      broken = false;
    } in
    let begins : flushed (turned s) ≡ start = rw may.waiting refl in
    ap (λ (n : ℕ). at s (container_of n) (offset_of n) (filter (λ (entry : LogEntry). nat_lt entry.lsn n) s.records)) begins
    ∙ ap (λ (es : List LogEntry). at s (container_of start) (offset_of start) es) (there ∙ sym here)
    ∙ ap (λ (c : ℕ). at s c (offset_of start) (filter (λ (entry : LogEntry). nat_lt entry.lsn (flushed s)) s.records)) container
    ∙ ap (λ (o : ℕ). at s (s.place.container + 1) o (filter (λ (entry : LogEntry). nat_lt entry.lsn (flushed s)) s.records)) offset
  where
    container : container_of (lsn_number (s.place.container + 1) 0 0) ≡ s.place.container + 1
    container = omega arith

    offset : offset_of (lsn_number (s.place.container + 1) 0 0) ≡ 0
    offset = omega arith

-- a further container, listed after the others, has the turned state
pub taken_stored : (s : State) (slot turn file : ℕ) (low : BaseImage) (blocks : Blocks) → IsValid s → MayTurnTo s → HasLow s low
    → (entries : List LogEntry) → entries ≡ records_from_container low.first (cut s).records
    → stored_state low (map blocks low.files) entries s.buffers ≡ record (cut s) { records = entries }
    → IsLogWith (record low { version = 2; turn = turn; files = low.files ++ file ∷ [] }) (map (with_blocks file [] blocks) (low.files ++ file ∷ [])) entries
    → stored_state (record low { version = 2; turn = turn; files = low.files ++ file ∷ [] }) (map (with_blocks file [] blocks) (low.files ++ file ∷ [])) entries s.buffers
    ≡ record (stored_state low (map blocks low.files) entries s.buffers) {
      place = record { container = low.first + length low.files; offset = 0; used = 0; records = 0 };
    }
    → IsStored (turned s) (record { slot = slot; image = record low { version = 2; turn = turn; files = low.files ++ file ∷ [] } }) (with_blocks file [] blocks)
taken_stored s slot turn file low blocks valid may has entries records state log after =
    let cuts = cut_turned s valid may in
    record {
      entries = entries;
      log = log;
      records = records ∙ sym (ap (λ (u : State). records_from_container low.first u.records) cuts);
      state = after
          ∙ ap (λ (c : ℕ). let u : State = record (stored_state low (map blocks low.files) entries s.buffers) {
            place = record { container = c; offset = 0; used = 0; records = 0 };
          } in u) has.listed
          ∙ ap (λ (u : State). let v : State = record u { place = record { container = s.place.container + 1; offset = 0; used = 0; records = 0 } } in v) state
          ∙ sym (ap (λ (u : State). let v : State = record u { records = entries } in v) cuts);
      needed = omega (arith, has.first, may.hold);
    }

-- the blocks that were read are the turned state's too
pub kept_turned : (s : State) (kept : Buffered) → IsValid s → MayTurnTo s → AreKept s kept → AreKept (turned s) kept
kept_turned s kept valid may are = record {
  stable = λ at records there. omega (
    arith,
    are.stable at records there,
    flushed_start s may.waiting,
    flushed_start (turned s) may.waiting,
    valid.ranges.place.end,
    valid.ranges.shape.largest_container,
  );
  records = are.records;
}

-- ---- memory

pub holds_turned : (before after : Log) → IsValid before.state.value → Holds before.state.value before → MayTurnTo before.state.value → BlocksGoOn
    → after.queue ≡ record before.queue { place = queues.turned before.queue.place } → after.tables ≡ before.tables → after.areas ≡ before.areas
    → after.archive ≡ before.archive → after.policies ≡ before.policies → after.state.value ≡ turned before.state.value
    → after.physical.image.first ≡ container_of (hold before.state.value)
    → after.physical.image.first + length after.physical.image.files ≡ before.state.value.place.container + 1 + 1
    → after.physical.image.containers ≡ before.state.value.containers → shape_of after.physical.image ≡ before.state.value.shape
    → after.physical.image.dedicated ≡ before.state.value.dedicated
    → length after.physical.image.streams ≡ length before.state.value.streams → Holds after.state.value after
holds_turned before after valid holds may go_on queue tables areas archive policies state first listed containers shape dedicated rows =
    let s : State = before.state.value in
    let t : State = turned s in
    let all = all_before s valid may.closed in
    let start : ℕ = lsn_number (s.place.container + 1) 0 0 in
    let begins : flushed t ≡ start = flushed_start t may.waiting in
    let up : block_start s.place ≤ start = omega (arith, valid.ranges.place.end, valid.ranges.shape.largest_container) in
    let none : (n : ℕ) → block_start s.place ≤ n → filter (λ (entry : LogEntry). nat_le n entry.lsn) s.records ≡ [] = λ n le. none_from n s.records
    (All-weaker (λ (entry : LogEntry). entry.lsn < block_start s.place) (λ (entry : LogEntry). entry.lsn < n) (λ entry is. omega (arith, is, le)) s.records all) in
    let before_none : unflushed s ≡ [] = none (flushed s) (omega (arith, flushed_start s may.waiting)) in
    let after_none : unflushed t ≡ [] = none (flushed t) (omega (arith, begins, up)) in
    let heads : All (λ (head : Head). head.lsn < block_start s.place) (heads_of s) =
    All-map (λ (head : Head). head.lsn < block_start s.place) head_of s.records all in
    let ended : AreSealed before.tables.low start before.archive.blocks (heads_of s) =
    go_on.moved before.tables.low (block_start s.place) start before.archive.blocks (heads_of s) holds.sealed up (omega arith) heads in
    let memory : Holds t after = record {
      shape = ap (λ (q : Queued). q.shape) queue ∙ holds.shape;
      buffers = ap (λ (q : Queued). q.buffers) queue ∙ holds.buffers;
      place = ap (λ (q : Queued). q.place) queue ∙ ap queues.turned holds.place;
      waiting = ap (λ (q : Queued). q.waiting) queue ∙ holds.waiting;
      records = ap (λ (q : Queued). q.records) queue ∙ holds.records ∙ before_none ∙ sym after_none;
      streams = ap (λ t. t.streams) tables ∙ holds.streams;
      heads = ap (λ t. t.heads) tables ∙ holds.heads;
      low = omega (arith, ap (λ t. t.low) tables, holds.low, may.hold);
      areas = ap (λ a. a.areas) areas ∙ holds.areas;
      archive = ap (λ a. a.tail) archive ∙ holds.archive;
      sealed = rw (ap (λ t. t.low) tables, ap (λ a. a.blocks) archive) ended;
      room = λ some. absurd (omega (arith, some));
      policies = policies ∙ holds.policies;
      containers = containers;
      image_shape = shape;
      dedicated = dedicated;
      rows = rows;
      listed = listed;
      needed = omega (arith, first, may.hold);
    } in
    subst (λ (u : State). Holds u after) (sym state) memory
