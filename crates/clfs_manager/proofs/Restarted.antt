-- A log that ended in a restart area, once that is on the disk and the base of its stream has moved.
use Rattle.clfs_manager.proofs.Words.{◌≡◌, ℕ, ◌+◌, ◌≤◌, Bool, true, false, refl, sym, ap, subst, ◌∙◌, inl, inr, List, [], ◌∷◌, ◌++◌, length, map, arith, All}
use Rattle.clfs_manager.proofs.Words.{◌==◌, cases_Bool, eqb-true, All-append, All-cons, All-nil, DiskState, IsSettled, Buffered, total, BaseImage, IsLaid}
use Rattle.clfs_manager.proofs.Words.{null_lsn, lsn_number, container_of, LogEntry, Place, State, Stream, rebased, block_start, flush, flushed, hold, base_of}
use Rattle.clfs_manager.proofs.Words.{set_base, IsStorable, IsValid, Newest, Blocks, HaveMore, stored_state, file_at_end, stored_place, IsNumber, base_in}
use Rattle.clfs_manager.proofs.Words.{KeepsOthers, StoredAfter, HasGroup, IsLaidLog, WrittenAfter, Holds, unflushed, IsStored, IsOpen, AreKept, EndsInRestart}
use Rattle.clfs_manager.proofs.Words.{rebased_streams, IsYetToForget, Log}
use Rattle.clfs_manager.proofs.ClosedPlace.{closed_place, flush_is, is_closed_of, starts_at}
use Rattle.clfs_manager.proofs.FlushedLog.{done, hold_closed, stored_with}
use Rattle.clfs_manager.proofs.LaterHold.{higher_bases, hold_later}
use Rattle.clfs_manager.proofs.MovedBase.{length_set_base}
use Rattle.clfs_manager.proofs.ReadKeeps.{tells_before}
use Rattle.clfs_manager.proofs.Settled.{stays_settled}

-- the state after a restart area, by its fields
abbrev pub finished : ℕ → ℕ → State → State
finished stream base s = record (done s) { streams = rebased_streams stream base s.streams }

pub rebased_is : (stream base : ℕ) (s : State) → rebased stream base (flush s) ≡ finished stream base s
rebased_is stream base s = ap (rebased stream base) (flush_is s) ∙ with_streams (base == null_lsn) refl
  where
    with_streams : (none : Bool) → (base == null_lsn) ≡ none → rebased stream base (done s) ≡ finished stream base s
    with_streams true is = rw is refl
    with_streams false is = rw is refl

-- ---- the hold

pub hold_finished : (s : State) (stream base : ℕ) → IsLaid s → IsLaid (done s) → IsNumber s.streams stream
    → ((base == null_lsn) ≡ false → base_of s stream ≤ base) → container_of (hold s) ≤ container_of (hold (finished stream base s))
hold_finished s stream base laid laid_done number up =
    let later = hold_later (done s) (rebased_streams stream base s.streams) laid_done (λ n. higher_bases stream base s.streams n number.0 up) in
    omega (arith, later, hold_closed s laid.ranges)

pub streams_long : (stream base : ℕ) (streams : List Stream) → length (rebased_streams stream base streams) ≡ length streams
streams_long stream base streams = elim (cases_Bool (base == null_lsn)) [
  | inl none ↦ rw none refl
  | inr there ↦ rw there (length_set_base stream base streams)
]

-- ---- the disk

-- What the group of records leaves on the disk, by the laws of groups: no base of an older one moves, and that of the last.
pub record GroupLaws (image : BaseImage) (buffers : ℕ) : Type 0 where
  pub state : (old new : Blocks) (more : List (List ℕ)) (entries others : List LogEntry) → HaveMore image more old new
      → All (λ (entry : LogEntry). entry.new_base ≡ 0) others
      → stored_state image (map new image.files) (entries ++ others) buffers
      ≡ record (stored_state image (map old image.files) entries buffers) {
        records = entries ++ others;
        place = record (stored_place image (map old image.files)) { offset = total (old (file_at_end image)) + total more };
      }
  pub moved : (old new : Blocks) (more : List (List ℕ)) (entries others : List LogEntry) (entry : LogEntry) → HaveMore image more old new
      → All (λ (other : LogEntry). other.new_base ≡ 0) others → 1 ≤ entry.stream → entry.stream ≤ length image.streams
      → base_of (stored_state image (map old image.files) entries buffers) entry.stream ≤ entry.new_base
      → stored_state image (map new image.files) (entries ++ (others ++ entry ∷ [])) buffers
      ≡ record (stored_state image (map old image.files) entries buffers) {
        records = entries ++ (others ++ entry ∷ []);
        place = record (stored_place image (map old image.files)) { offset = total (old (file_at_end image)) + total more };
        streams = set_base entry.stream entry.new_base (stored_state image (map old image.files) entries buffers).streams;
      }

still_last : (others : List LogEntry) (entry : LogEntry) → All (λ (other : LogEntry). other.new_base ≡ 0) others → entry.new_base ≡ 0
    → All (λ (other : LogEntry). other.new_base ≡ 0) (others ++ entry ∷ [])
still_last others entry all last = All-append (λ (other : LogEntry). other.new_base ≡ 0) others (entry ∷ []) all
    (All-cons (λ (other : LogEntry). other.new_base ≡ 0) entry [] last (All-nil (λ (other : LogEntry). other.new_base ≡ 0)))

-- the state that the disk has once the group is there
pub state_of_group : (s : State) (newest : Newest) (before after : Blocks) (stream base : ℕ) (stored : IsStored s newest before)
    → (group : HasGroup s newest.image before after stored.entries) → GroupLaws newest.image s.buffers → EndsInRestart s stream base
    → IsNumber s.streams stream → length newest.image.streams ≡ length s.streams → ((base == null_lsn) ≡ false → base_of s stream ≤ base)
    → stored_state newest.image (map after newest.image.files) (stored.entries ++ unflushed s) s.buffers
    ≡ record (stored_state newest.image (map before newest.image.files) stored.entries s.buffers) {
      records = stored.entries ++ unflushed s;
      place = record (stored_place newest.image (map before newest.image.files)) { offset = total (before (file_at_end newest.image)) + total group.more };
      streams = rebased_streams stream base s.streams;
    }
state_of_group s newest before after stream base stored group laws last number rows up =
    subst (λ (waits : List LogEntry). stored_state image (map after image.files) (stored.entries ++ waits) s.buffers
    ≡ record own { records = stored.entries ++ waits; place = behind; streams = rebased_streams stream base s.streams }) (sym last.records)
    (by_base (base == null_lsn) refl)
  where
    image : BaseImage
    image = newest.image

    own : State
    own = stored_state newest.image (map before newest.image.files) stored.entries s.buffers

    behind : Place
    behind = record (stored_place newest.image (map before newest.image.files)) { offset = total (before (file_at_end newest.image)) + total group.more }

    all : List LogEntry
    all = stored.entries ++ (last.others ++ last.entry ∷ [])

    by_base : (none : Bool) → (base == null_lsn) ≡ none
        → stored_state newest.image (map after newest.image.files) all s.buffers
        ≡ record own { records = all; place = behind; streams = rebased_streams stream base s.streams }
    by_base true is =
        let null : base ≡ 0 = eqb-true base 0 is in
        rw is (laws.state before after group.more stored.entries (last.others ++ last.entry ∷ []) group.have
        (still_last last.others last.entry last.still (last.moves ∙ null))
        ∙ ap (λ (streams : List Stream). record own { records = all; place = behind; streams = streams }) (ap (λ (t : State). t.streams) stored.state))
    by_base false is =
        let some : 1 ≤ last.entry.stream = omega (arith, last.own, number.0) in
        let few : last.entry.stream ≤ length newest.image.streams = omega (arith, last.own, number.1, rows) in
        let streams : own.streams ≡ s.streams = ap (λ (t : State). t.streams) stored.state in
        let low : base_of own last.entry.stream ≤ last.entry.new_base =
        rw (last.own, last.moves) (subst (λ (ss : List Stream). base_in ss stream ≤ base) (sym streams) (up is)) in
        rw is (laws.moved before after group.more stored.entries last.others last.entry group.have last.still some few low
        ∙ ap (λ (n : ℕ). record own { records = all; place = behind; streams = set_base n last.entry.new_base own.streams }) last.own
        ∙ ap (λ (n : ℕ). record own { records = all; place = behind; streams = set_base stream n own.streams }) last.moves
        ∙ ap (λ (ss : List Stream). record own { records = all; place = behind; streams = set_base stream base ss }) streams)

pub stored_finished : (old new : DiskState) (s : State) (stream base : ℕ) (before after : Newest) → IsLaid s → IsLaid (done s)
    → before.image.first + length before.image.files ≡ s.place.container + 1 → 1 ≤ length before.image.files
    → length before.image.streams ≡ length s.streams → GroupLaws before.image s.buffers → EndsInRestart s stream base → IsNumber s.streams stream
    → ((base == null_lsn) ≡ false → base_of s stream ≤ base) → after ≡ before → WrittenAfter old new s before after
    → StoredAfter old new s (finished stream base s) before after
stored_finished old new s stream base before after laid laid_done listed some rows laws last number up same written = λ blocks stored.
    let to = written blocks stored in
    let all : Blocks = to.0 in
    let group : HasGroup s before.image blocks all stored.entries = to.1.0 in
    let held = hold_finished s stream base laid laid_done number up in
    let is : IsStored (finished stream base s) before all =
    stored_with s before blocks all (rebased_streams stream base s.streams) laid listed some stored group
    (state_of_group s before blocks all stream base stored group laws last number rows up) (omega (arith, stored.needed, held)) in
    (all, (rw same is, to.1.1))

-- ---- memory

-- what is on the disk only grows
flushed_finished : (s : State) → IsLaid s → flushed s ≤ block_start (closed_place s.place)
flushed_finished s laid = omega (arith, (starts_at s laid.ranges laid.waiting).below, (is_closed_of s.shape s.place laid.ranges.place).start)

kept_finished : (s : State) (stream base : ℕ) (kept : Buffered) → IsLaid s → AreKept s kept → AreKept (finished stream base s) kept
kept_finished s stream base kept laid are = record {
  stable = λ place records there. omega (arith, are.stable place records there, flushed_finished s laid);
  records = are.records;
}

-- A log that has the flushed state, with the base moved in its tables.
pub holds_finished : (s : State) (stream base : ℕ) (before moved : Log) → IsLaid s → IsLaid (done s) → IsNumber s.streams stream
    → ((base == null_lsn) ≡ false → base_of s stream ≤ base) → Holds (done s) before → before.physical.image.first ≤ container_of (hold s)
    → before.tables.low ≤ lsn_number (container_of (hold s)) 0 0
    → moved.tables.streams ≡ rebased_streams stream base before.tables.streams → moved.tables.heads ≡ before.tables.heads
    → moved.tables.low ≡ before.tables.low → moved ≡ record before { tables = moved.tables; state = moved.state }
    → Holds (finished stream base s) moved
holds_finished s stream base before moved laid laid_done number up holds first below streams heads low same =
    let held = hold_finished s stream base laid laid_done number up in
    let physical : moved.physical ≡ before.physical = ap (λ (l : Log). l.physical) same in
    let queue : moved.queue ≡ before.queue = ap (λ (l : Log). l.queue) same in
    let archive : moved.archive ≡ before.archive = ap (λ (l : Log). l.archive) same in
    record {
      shape = ap (λ q. q.shape) queue ∙ holds.shape;
      buffers = ap (λ q. q.buffers) queue ∙ holds.buffers;
      place = ap (λ q. q.place) queue ∙ holds.place;
      waiting = ap (λ q. q.waiting) queue ∙ holds.waiting;
      records = ap (λ q. q.records) queue ∙ holds.records;
      streams = streams ∙ ap (rebased_streams stream base) holds.streams;
      heads = heads ∙ holds.heads;
      low = omega (arith, low, below, held);
      areas = ap (λ (l : Log). l.areas.areas) same ∙ holds.areas;
      archive = ap (λ a. a.tail) archive ∙ holds.archive;
      sealed = rw (low, archive) holds.sealed;
      room = λ some. rw archive (holds.room some);
      policies = ap (λ (l : Log). l.policies) same ∙ holds.policies;
      containers = ap (λ (n : Newest). n.image.containers) physical ∙ holds.containers;
      image_shape = rw physical holds.image_shape;
      dedicated = rw physical holds.dedicated;
      rows = ap (λ (n : Newest). length n.image.streams) physical ∙ holds.rows ∙ sym (streams_long stream base s.streams);
      listed = ap (λ (n : Newest). n.image.first + length n.image.files) physical ∙ holds.listed;
      needed = omega (arith, ap (λ (n : Newest). n.image.first) physical, first, held);
    }

-- It is intact once memory forgets, by what the disk has.
pub finished_to_forget : (old new : DiskState) (before after : Log) (stream base : ℕ) → IsLaid before.state.value → before.broken ≡ false
    → before.state.value.broken ≡ false → IsOpen old before.state.value before
    → IsValid (finished stream base before.state.value) → IsStorable (finished stream base before.state.value)
    → after.state.value ≡ finished stream base before.state.value → Holds (finished stream base before.state.value) after
    → after.broken ≡ before.broken → after.buffers ≡ before.buffers
    → StoredAfter old new before.state.value (finished stream base before.state.value) before.physical after.physical
    → (IsSettled old → IsSettled new) → new.nature ≡ old.nature → IsYetToForget new after
finished_to_forget old new before after stream base laid unbroken whole opened valid storable state holds broken buffers stored settled nature =
    let s : State = before.state.value in
    let to = stored opened.blocks opened.stored in
    let held : Holds after.state.value after = subst (λ (u : State). Holds u after) (sym state) holds in
    record {
      sound = record {
        valid = rw state valid;
        storable = rw state storable;
        unbroken = broken ∙ unbroken;
        whole = ap (λ (u : State). u.broken) state ∙ whole;
        holds = held;
      };
      blocks = to.0;
      stored = subst (λ (u : State). IsStored u after.physical to.0) (sym state) to.1.0;
      files = λ told. let earlier = tells_before old new nature told in to.1.1 earlier false (opened.files earlier);
      kept = λ told. rw (buffers, state) (kept_finished s stream base before.buffers laid (opened.kept (tells_before old new nature told)));
      settled = stays_settled old new nature settled opened.settled;
    }

-- What a log that ends in a restart area is given: that, and what its flush leaves.
pub record IsFinished (old new : DiskState) (before written : Log) (stream base : ℕ) : Type 0 where
  pub laid : IsLaidLog before
  pub opened : IsOpen old before.state.value before
  pub flushed : IsLaid (flush before.state.value)
  pub some : 1 ≤ length before.physical.image.files
  pub laws : GroupLaws before.physical.image before.state.value.buffers
  pub last : EndsInRestart before.state.value stream base
  pub number : IsNumber before.state.value.streams stream
  pub up : (base == null_lsn) ≡ false → base_of before.state.value stream ≤ base
  pub state : written.state.value ≡ flush before.state.value
  pub holds : Holds written.state.value written
  pub same : KeepsOthers before written
  pub on_disk : WrittenAfter old new before.state.value before.physical written.physical

laid_done : (s : State) → IsLaid (flush s) → IsLaid (done s)
laid_done s laid = subst IsLaid (flush_is s) laid

pub stored_by_group : (old new : DiskState) (before written : Log) (stream base : ℕ) → IsFinished old new before written stream base
    → StoredAfter old new before.state.value (finished stream base before.state.value) before.physical written.physical
stored_by_group old new before written stream base is =
    let s : State = before.state.value in
    let holds = is.laid.holds in
    stored_finished old new s stream base before.physical written.physical is.laid.laid (laid_done s is.flushed) holds.listed is.some holds.rows is.laws is.last
    is.number is.up is.same.physical is.on_disk

-- Once the base has moved in memory it is so.
pub moved_to_forget : (old new : DiskState) (before written moved : Log) (stream base : ℕ) → IsFinished old new before written stream base
    → IsValid (rebased stream base (flush before.state.value)) → IsStorable (rebased stream base (flush before.state.value))
    → moved.tables.streams ≡ rebased_streams stream base written.tables.streams → moved.tables.heads ≡ written.tables.heads
    → moved.tables.low ≡ written.tables.low → moved ≡ record written { tables = moved.tables; state = moved.state }
    → moved.state.value ≡ rebased stream base written.state.value → (IsSettled old → IsSettled new) → new.nature ≡ old.nature → IsYetToForget new moved
moved_to_forget old new before written moved stream base is valid storable streams heads low same told settled nature =
    let s : State = before.state.value in
    let holds = is.laid.holds in
    let fields = rebased_is stream base s in
    let flushed_is : written.state.value ≡ done s = is.state ∙ flush_is s in
    let state : moved.state.value ≡ finished stream base s = told ∙ ap (rebased stream base) is.state ∙ fields in
    let physical : moved.physical ≡ written.physical = ap (λ (l : Log). l.physical) same in
    let stored : StoredAfter old new s (finished stream base s) before.physical moved.physical =
    subst (λ (n : Newest). StoredAfter old new s (finished stream base s) before.physical n) (sym physical)
    (stored_by_group old new before written stream base is) in
    let memory : Holds (finished stream base s) moved =
    holds_finished s stream base written moved is.laid.laid (laid_done s is.flushed) is.number is.up
    (subst (λ (u : State). Holds u written) flushed_is is.holds)
    (omega (arith, ap (λ (n : Newest). n.image.first) is.same.physical, holds.needed))
    (omega (arith, ap (λ t. t.low) is.same.tables, holds.low)) streams heads low same in
    finished_to_forget old new before moved stream base is.laid.laid is.laid.unbroken is.laid.whole is.opened (subst IsValid fields valid)
    (subst IsStorable fields storable) state memory (ap (λ (l : Log). l.broken) same ∙ is.same.broken)
    (ap (λ (l : Log). l.buffers) same ∙ is.same.buffers) stored settled nature
