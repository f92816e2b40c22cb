-- A log whose open block was sealed, and what stays of a log where what is on the disk stays.
use Rattle.clfs_manager.proofs.Words.{◌≡◌, ℕ, ◌+◌, ◌≤◌, true, false, refl, sym, ap, subst, ◌∙◌, arith, List, [], ◌∷◌, ◌++◌, length, length-append, Result, Ok}
use Rattle.clfs_manager.proofs.Words.{Err, OnOk, OnErr, IsErr, filter, nat_lt, nat_le, slice_index, lt-ltb, le-ltb, leb-true, nat_tests, container_of}
use Rattle.clfs_manager.proofs.Words.{offset_of, sealed, LogEntry, Place, AreSealed, Buffered, DiskState, IsSettled, Failed, IsWhole, KeepsTables, State}
use Rattle.clfs_manager.proofs.Words.{block_start, first_or, seal, flush, flushed, cut, heads_of, hold, fills_buffers, Newest, Blocks, Queued}
use Rattle.clfs_manager.proofs.Words.{records_from_container, shape_of, Told, KeepsOthers, StoredAfter, Holds, IsStored, AreKept, IsIntact, WritesDisk, Log}
use Rattle.clfs_queue.specs.Queued as queues
use Rattle.clfs_manager.specs.Flushing.{EndsBlock}
use Rattle.clfs_manager.specs.Putting.{KeepsRoom}
use Rattle.clfs_manager.proofs.Intact.{intact_flushed, writes_then}

-- ---- what is on the disk stays

-- what is below an LSN, as the flushed part of a state
abbrev pub cut_at : ℕ → State → State
cut_at n s = record s {
  records = filter (λ (entry : LogEntry). nat_lt entry.lsn n) s.records;
  place = record { container = container_of n; offset = offset_of n; used = 0; records = 0 };
  waiting = [];
  areas = [];
  broken = false;
}

-- Another place, and other blocks that wait, are none of the disk's where as much is on it.
pub stored_placed : (s : State) (waiting : List ℕ) (place : Place) (newest : Newest) (blocks : Blocks)
    → flushed (record s { waiting = waiting; place = place }) ≡ flushed s
    → container_of (hold s) ≤ container_of (hold (record s { waiting = waiting; place = place }))
    → IsStored s newest blocks → IsStored (record s { waiting = waiting; place = place }) newest blocks
stored_placed s waiting place newest blocks same up stored =
    let t : State = record s { waiting = waiting; place = place } in
    let cuts : cut t ≡ cut s = ap (λ (n : ℕ). cut_at n t) same in
    record {
      entries = stored.entries;
      log = stored.log;
      records = stored.records ∙ sym (ap (λ (u : State). from_first newest u.records) cuts);
      state = stored.state ∙ sym (ap (λ (u : State). let v : State = record u { records = stored.entries } in v) cuts);
      needed = omega (arith, stored.needed, up);
    }
  where
    from_first : Newest → List LogEntry → List LogEntry
    from_first newest entries = records_from_container newest.image.first entries

pub kept_placed : (s : State) (waiting : List ℕ) (place : Place) (kept : Buffered) → flushed (record s { waiting = waiting; place = place }) ≡ flushed s
    → AreKept s kept → AreKept (record s { waiting = waiting; place = place }) kept
kept_placed s waiting place kept same are =
    record { stable = λ at records is. omega (arith, are.stable at records is, same); records = are.records }

-- ---- sealing

-- a block that fills the buffers is written with all others
pub seal_is_flush : (s : State) → fills_buffers s ≡ true → 1 ≤ s.place.records → seal s ≡ flush s
seal_is_flush s fills open_block =
    let some : nat_lt 0 s.place.records ≡ true = lt-ltb 0 s.place.records open_block in
    let full : nat_lt (length (s.waiting ++ block_start s.place ∷ [])) s.buffers ≡ false =
    le-ltb (length (s.waiting ++ block_start s.place ∷ [])) s.buffers
    (omega (arith, leb-true s.buffers (length s.waiting + 1) fills, length-append s.waiting (block_start s.place ∷ []))) in
    rw (some, full) refl

-- one that doesn't waits
pub seal_waits : (s : State) → fills_buffers s ≡ false → 1 ≤ s.place.records
    → seal s ≡ record s { waiting = s.waiting ++ block_start s.place ∷ []; place = sealed s.place }
seal_waits s fills open_block =
    let some : nat_lt 0 s.place.records ≡ true = lt-ltb 0 s.place.records open_block in
    let room : nat_lt (length (s.waiting ++ block_start s.place ∷ [])) s.buffers ≡ true =
    grind (arith, nat_tests, fills, length-append s.waiting (block_start s.place ∷ [])) in
    rw (some, room) refl

first_behind : (other start : ℕ) (starts : List ℕ) → first_or other (starts ++ start ∷ []) ≡ first_or start starts
first_behind other start [] = refl
first_behind other start (first ∷ starts) = refl

-- the queue's open block waits as the state's does
pub queue_waits : (q : Queued) → 1 ≤ q.place.records
    → queues.seal q ≡ record q { waiting = q.waiting ++ block_start q.place ∷ []; place = sealed q.place }
queue_waits q open_block = let some : nat_lt 0 q.place.records ≡ true = lt-ltb 0 q.place.records open_block in rw some refl

-- The log whose open block has ended has the sealed state.
pub intact_sealed : (disk : DiskState) (before after : Log) (told : Told State) → IsIntact disk before → fills_buffers before.state.value ≡ false
    → 1 ≤ before.state.value.place.records → IsWhole (seal before.state.value) → KeepsTables before.state.value (seal before.state.value)
    → container_of (hold (seal before.state.value)) ≡ container_of (hold before.state.value) → EndsBlock before after → told.value ≡ seal before.state.value → IsIntact disk (record after { state = told })
intact_sealed disk before after told intact fills open_block whole keeps stays ended is =
    let s : State = before.state.value in
    let sound = intact.sound in
    let holds = sound.holds in
    let t : State = record s { waiting = s.waiting ++ block_start s.place ∷ []; place = sealed s.place } in
    let same : seal s ≡ t = seal_waits s fills open_block in
    let to : told.value ≡ t = is ∙ same in
    let queue : after.queue ≡ record before.queue { waiting = before.queue.waiting ++ block_start before.queue.place ∷ []; place = sealed before.queue.place } =
    ended.queue ∙ queue_waits before.queue (omega (arith, open_block, ap (λ (p : Place). p.records) holds.place)) in
    let up : container_of (hold s) ≤ container_of (hold t) = subst (λ (u : State). container_of (hold s) ≤ container_of (hold u)) same keeps.hold in
    let stable : flushed t ≡ flushed s = first_behind (block_start (sealed s.place)) (block_start s.place) s.waiting in
    let place : after.queue.place ≡ sealed s.place = ap (λ (q : Queued). q.place) queue ∙ ap sealed holds.place in
    let memory : Holds t (record after { state = told }) = record {
      shape = ap (λ (q : Queued). q.shape) queue ∙ holds.shape;
      buffers = ap (λ (q : Queued). q.buffers) queue ∙ holds.buffers;
      place = place;
      waiting = ap (λ (q : Queued). q.waiting) queue ∙ ap (λ (w : List ℕ). w ++ block_start before.queue.place ∷ []) holds.waiting
          ∙ ap (λ (p : Place). s.waiting ++ block_start p ∷ []) holds.place;
      records = ap (λ (q : Queued). q.records) queue ∙ holds.records ∙ ap (λ (n : ℕ). filter (λ (entry : LogEntry). nat_le n entry.lsn) s.records) (sym stable);
      streams = ap (λ t. t.streams) ended.tables ∙ holds.streams;
      heads = ap (λ t. t.heads) ended.tables ∙ holds.heads;
      low = omega (arith, ap (λ t. t.low) ended.tables, holds.low, up);
      areas = ap (λ a. a.areas) ended.areas ∙ holds.areas;
      archive = ended.tail ∙ holds.archive;
      sealed = rw (ap (λ t. t.low) ended.tables) (subst (λ (p : Place). AreSealed before.tables.low (block_start p) after.archive.blocks (heads_of s)) place ended.sealed);
      room = λ some. absurd (omega (arith, some));
      policies = ended.policies ∙ holds.policies;
      containers = ap (λ (n : Newest). n.image.containers) ended.physical ∙ holds.containers;
      image_shape = ap (λ (n : Newest). shape_of n.image) ended.physical ∙ holds.image_shape;
      dedicated = ap (λ (n : Newest). n.image.dedicated) ended.physical ∙ holds.dedicated;
      rows = ap (λ (n : Newest). length n.image.streams) ended.physical ∙ holds.rows;
      listed = ap (λ (n : Newest). n.image.first + length n.image.files) ended.physical ∙ holds.listed;
      needed = omega (arith, ap (λ (n : Newest). n.image.first) ended.physical, holds.needed, up);
    } in
    let held : Holds told.value (record after { state = told }) = subst (λ (u : State). Holds u (record after { state = told })) (sym to) memory in
    record {
      sound = record {
        valid = rw is whole.valid;
        storable = rw is whole.storable;
        unbroken = ended.broken ∙ sound.unbroken;
        whole = ap (λ (u : State). u.broken) to ∙ sound.whole;
        holds = held;
      };
      opened = record {
        memory = held;
        blocks = intact.opened.blocks;
        stored = rw (to, ended.physical) (stored_placed s (s.waiting ++ block_start s.place ∷ []) (sealed s.place) before.physical intact.opened.blocks stable up intact.opened.stored);
        files = λ tells. rw ended.physical (intact.opened.files tells);
        kept = λ tells. rw (to, ended.buffers) (kept_placed s (s.waiting ++ block_start s.place ∷ []) (sealed s.place) before.buffers stable (intact.opened.kept tells));
        settled = intact.opened.settled;
        forgotten = rw to (record {
          low = omega (
            arith,
            intact.opened.forgotten.low,
            ap (λ t. t.low) ended.tables,
            ap (λ (u : State). container_of (hold u)) same,
            stays,
          );
          ends = rw (ap (λ t. t.low) ended.tables) (ended.few intact.opened.forgotten.ends);
        });
      };
    }

-- A log that was written out is intact, by what that answers.
pub flushed_intact : (result : Result (Unit {0}) Failed) (old new : DiskState) (before after : Log) → IsIntact old before → IsWhole (flush before.state.value)
    → OnOk result (after.state.value ≡ flush before.state.value) → OnOk result (Holds after.state.value after) → OnOk result (KeepsOthers before after)
    → OnOk result (StoredAfter old new before.state.value after.state.value before.physical after.physical) → OnOk result (IsSettled old → IsSettled new)
    → new.nature ≡ old.nature → OnOk result (IsIntact new after)
flushed_intact (Ok value) old new before after intact whole state holds keeps stored settled nature =
    intact_flushed old new before after intact whole.valid whole.storable state holds keeps stored settled nature
flushed_intact (Err error) old new before after intact whole state holds keeps stored settled nature = tt

pub room_flushed : (before after : Log) → KeepsOthers before after → KeepsRoom 1 before after
room_flushed before after keeps =
    record { heads = λ place. omega (arith, ap (λ t. slice_index t.room place) keeps.tables); areas = keeps.areas; ends = keeps.room }

pub on_ok_by : {V A B : Type 0} (result : Result V Failed) → (A → B) → OnOk result A → OnOk result B
on_ok_by (Ok value) f is = f is
on_ok_by (Err error) f is = tt

pub on_ok_of : {V A B C : Type 0} (result : Result V Failed) → (A → B → C) → OnOk result A → OnOk result B → OnOk result C
on_ok_of (Ok value) f is also = f is also
on_ok_of (Err error) f is also = tt

pub on_err_by : {V A B : Type 0} (result : Result V Failed) → (A → B) → OnErr result A → OnErr result B
on_err_by (Ok value) f is = tt
on_err_by (Err error) f is = f is

-- What a function does to the disk after one that was done.
pub writes_after : {A : Type 0} (result : Result A Failed) (value : A) (other : Type 0) (a b d : DiskState) → result ≡ Ok value → WritesDisk (IsErr result) a b
    → WritesDisk other b d → WritesDisk other a d
writes_after {A} result value other a b d was first second =
    writes_then (IsErr result) other a b d (λ f. let wrong = subst (λ (r : Result A Failed). IsErr r) was f in cc wrong) first second
