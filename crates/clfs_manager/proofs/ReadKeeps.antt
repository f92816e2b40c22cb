-- A call that reads keeps a log open: the disk's files stay, and in memory the areas and the blocks that were read alone change.
use Rattle.clfs_manager.proofs.Words.{◌≡◌, ℕ, true, false, refl, sym, ap, ◌∙◌, subst, List, arith, IsErrOf, LogEntry, Files, Unchanged, DiskState, Nature}
use Rattle.clfs_manager.proofs.Words.{TellsContents, IsSteady, Passes, Rises, AreWhole, newest_of, Refusal, Area, State, happened_of_refusal, Fine, AreaTable}
use Rattle.clfs_manager.proofs.Words.{area_at, change_area, change_first, is_area, Buffered, Gives, ReadRefusal, Newest, Blocks, Stores, Told, Holds, IsSound}
use Rattle.clfs_manager.proofs.Words.{IsStored, AreKept, IsOpen, IsLeft, LeavesState, OnlyReads, refused_as, Log}
use Rattle.std.proofs.Common.{Ok, Err}
use Rattle.std.specs.Prelude.{◌≤◌}
use Rattle.clfs_disk.specs.State.{raised}
use Rattle.clfs_model.specs.declared.refusal.Refusal.TheVariants as refusals
use Rattle.clfs_buffers.specs.declared.refusal.ReadRefusal.TheVariants as reads
use Rattle.clfs_manager.proofs.Settled.{settled_by_reading, stays_settled}

-- ---- what the files have

-- files that hold what they held are the same log
pub stores_same : (newest : Newest) (blocks : Blocks) (old new : Files) → Unchanged old new → Stores false newest blocks old → Stores false newest blocks new
stores_same newest blocks old new same stores = record {
  newest = ap newest_of (same 0) ∙ stores.newest;
  holds = record {
    made = λ whole. absurd (cc whole);
    opens = λ file lists. subst (λ (bytes : List ℕ). AreWhole newest.image.container_sectors bytes (blocks file)) (sym (same file)) (stores.holds.opens file lists);
  };
}

pub tells_before : (old new : DiskState) → new.nature ≡ old.nature → TellsContents new → TellsContents old
tells_before old new nature tells = subst (λ (n : Nature). n.tells_contents ≡ true) nature tells

-- ---- what memory has

-- with other areas the same log is stored
stored_areas : (s : State) (areas : List Area) (newest : Newest) (blocks : Blocks) → IsStored s newest blocks → IsStored (record s { areas = areas }) newest blocks
stored_areas s areas newest blocks stored = record {
  entries = stored.entries;
  log = stored.log;
  records = stored.records;
  state = stored.state;
  needed = stored.needed;
}

-- and the same blocks are kept
kept_areas : (s : State) (areas : List Area) (kept : Buffered) → AreKept s kept → AreKept (record s { areas = areas }) kept
kept_areas s areas kept are = record { stable = are.stable; records = are.records }

-- memory has the state with the areas that it has
holds_areas : (s : State) (areas : AreaTable) (told : Told State) (log : Log) → Holds s log → Holds (record s { areas = areas.areas }) (record log { areas = areas; state = told })
holds_areas s areas told log holds = record {
  shape = holds.shape;
  buffers = holds.buffers;
  place = holds.place;
  waiting = holds.waiting;
  records = holds.records;
  streams = holds.streams;
  heads = holds.heads;
  low = holds.low;
  areas = refl;
  archive = holds.archive;
  sealed = holds.sealed;
  room = holds.room;
  policies = holds.policies;
  containers = holds.containers;
  image_shape = holds.image_shape;
  dedicated = holds.dedicated;
  rows = holds.rows;
  listed = holds.listed;
  needed = holds.needed;
}

holds_buffers : (s : State) (kept : Buffered) (log : Log) → Holds s log → Holds s (record log { buffers = kept })
holds_buffers s kept log holds = record {
  shape = holds.shape;
  buffers = holds.buffers;
  place = holds.place;
  waiting = holds.waiting;
  records = holds.records;
  streams = holds.streams;
  heads = holds.heads;
  low = holds.low;
  areas = holds.areas;
  archive = holds.archive;
  sealed = holds.sealed;
  room = holds.room;
  policies = holds.policies;
  containers = holds.containers;
  image_shape = holds.image_shape;
  dedicated = holds.dedicated;
  rows = holds.rows;
  listed = holds.listed;
  needed = holds.needed;
}

-- ---- an open log

-- over a disk whose files stayed, with other blocks that are the state's
pub open_buffers : (old new : DiskState) (s : State) (log : Log) (kept : Buffered) → Unchanged old.files new.files → Passes Unchanged old new
    → (TellsContents old → AreKept s kept) → IsOpen old s log → IsOpen new s (record log { buffers = kept })
open_buffers old new s log kept same time are is = record {
  memory = holds_buffers s kept log is.memory;
  blocks = is.blocks;
  stored = is.stored;
  files = λ tells. stores_same log.physical is.blocks old.files new.files same (is.files (tells_before old new time.nature tells));
  kept = λ tells. are (tells_before old new time.nature tells);
  settled = stays_settled old new time.nature (settled_by_reading old new same time) is.settled;
  forgotten = record { low = is.forgotten.low; ends = is.forgotten.ends };
}

-- over the same disk
pub open_kept : (disk : DiskState) (s : State) (log : Log) (kept : Buffered) → (TellsContents disk → AreKept s kept) → IsOpen disk s log
    → IsOpen disk s (record log { buffers = kept })
open_kept disk s log kept are is = record {
  memory = holds_buffers s kept log is.memory;
  blocks = is.blocks;
  stored = is.stored;
  files = is.files;
  kept = are;
  settled = is.settled;
  forgotten = record { low = is.forgotten.low; ends = is.forgotten.ends };
}

-- with other areas, which the state has too
pub open_areas : (disk : DiskState) (s : State) (log : Log) (areas : AreaTable) (told : Told State) → IsOpen disk s log
    → IsOpen disk (record s { areas = areas.areas }) (record log { areas = areas; state = told })
open_areas disk s log areas told is = record {
  memory = holds_areas s areas told log is.memory;
  blocks = is.blocks;
  stored = stored_areas s areas.areas log.physical is.blocks is.stored;
  files = is.files;
  kept = λ tells. kept_areas s areas.areas log.buffers (is.kept tells);
  settled = is.settled;
  forgotten = record { low = is.forgotten.low; ends = is.forgotten.ends };
}

-- ---- exits

-- a log that read a block is left open
pub left_buffers : (old new : DiskState) (log after : Log) → after ≡ record log { buffers = after.buffers } → Unchanged old.files new.files → Passes Unchanged old new
    → (TellsContents old → AreKept log.state.value after.buffers) → IsSound log → IsOpen old log.state.value log → IsLeft new after
left_buffers old new log after is same time are sound open_is = subst (IsLeft new) (sym is) (record {
  broken = sound.whole ∙ sym sound.unbroken;
  whole = λ unbroken. open_buffers old new log.state.value log after.buffers same time are open_is;
})

-- a log whose state is broken with it is left so
pub broken_left : (disk : DiskState) (log : Log) → log.state.value.broken ≡ true → log.broken ≡ true → IsLeft disk log
broken_left disk log state broken = record {
  broken = state ∙ sym broken;
  whole = λ unbroken. let clash = sym broken ∙ unbroken in absurd (cc clash);
}

-- one that is refused a record is left open or broken
pub left_refused : (refusal : Refusal) (disk : DiskState) (old new : Log) → IsLeft disk old → LeavesState refusal old.state.value new.state.value
    → (refusal ≡ refusals.NoMemory → new ≡ old) → ((refusal ≡ refusals.NoMemory → ⊥) → new.broken ≡ true) → IsLeft disk new
left_refused refusals.NoMemory disk old new is leaves memory broken = subst (IsLeft disk) (sym (memory refl)) is
left_refused refusals.DiskFault disk old new is leaves memory broken = broken_left disk new (ap (λ (s : State). s.broken) leaves) (broken (λ e. cc e))
left_refused (refusals.Damaged container offset at) disk old new is leaves memory broken = broken_left disk new (ap (λ (s : State). s.broken) leaves) (broken (λ e. cc e))
left_refused _ disk old new is leaves memory broken = absurd leaves

-- time stands still where nothing is asked of a disk
pub still : (disk : DiskState) → Passes Unchanged disk disk
still disk = record {
  later = omega arith;
  past = λ moment image le at. at;
  kept = λ moment image le at. at;
  images = λ moment image after until at. absurd (omega (arith, after, until));
  faults = omega arith;
  nature = refl;
}

-- and no call is made of it, so two at most
pub none_called : (calls : ℕ) → raised 0 calls ≤ raised 2 calls
none_called calls = omega arith

-- the disk is left as it was by a refusal that tells nothing of it
pub quiet : {A : Type 0} (refusal : Refusal) (disk : DiskState) → happened_of_refusal refusal ≡ Fine → OnlyReads {A = A} (Err refusal) disk disk
quiet {A} refusal disk fine = record {
  same = λ file. refl;
  time = still disk;
  damage = λ tells container offset at is. let same : refusal ≡ refusals.Damaged container offset at = cc is in not_damaged container offset at same;
  cause = λ is. let same : refusal ≡ refusals.DiskFault = cc is in absurd (not_fault same);
  steady = λ steady. (λ is. let same : refusal ≡ refusals.DiskFault = cc is in not_fault same, refl);
}
  where
    not_fault : refusal ≡ refusals.DiskFault → ⊥
    not_fault is = let clash = sym (ap happened_of_refusal is) ∙ fine in cc clash

    not_damaged : (container offset at : ℕ) → refusal ≡ refusals.Damaged container offset at → ⊥
    not_damaged container offset at is = let clash = sym (ap happened_of_refusal is) ∙ fine in cc clash

-- a refusal of a block is none to read the disk differently
pub refused_reads : (lsn : ℕ) (told : Refusal) (refusal : ReadRefusal) (entry : LogEntry) (old new : DiskState) → told ≡ refused_as lsn refusal
    → Unchanged old.files new.files → Passes Unchanged old new → (TellsContents old → Gives {A = LogEntry} (Err refusal) (Ok entry))
    → (IsErrOf {T = LogEntry} (Err refusal) reads.DiskFault → Rises old.faults new.faults)
    → (IsSteady old → (IsErrOf {T = LogEntry} (Err refusal) reads.DiskFault → ⊥) × (new.faults ≡ old.faults))
    → OnlyReads {A = LogEntry} (Err told) old new
refused_reads lsn told refusal entry old new is same time gives cause steady = record {
  same = same;
  time = time;
  damage = λ tells container offset at e. let one : told ≡ refusals.Damaged container offset at = cc e in
      not_damaged refusal container offset at (sym is ∙ one) (gives tells);
  cause = λ e. let one : told ≡ refusals.DiskFault = cc e in cause (fault refusal (sym is ∙ one));
  steady = λ calm. (λ e. let one : told ≡ refusals.DiskFault = cc e in (steady calm).0 (fault refusal (sym is ∙ one)), (steady calm).1);
}
  where
    not_damaged : (r : ReadRefusal) (container offset at : ℕ) → refused_as lsn r ≡ refusals.Damaged container offset at → Gives {A = LogEntry} (Err r) (Ok entry) → ⊥
    not_damaged reads.DiskFault container offset at e there = cc e
    not_damaged reads.NoMemory container offset at e there = cc e
    not_damaged (reads.Damaged byte) container offset at e there = cc there

    fault : (r : ReadRefusal) → refused_as lsn r ≡ refusals.DiskFault → IsErrOf {T = LogEntry} (Err r) reads.DiskFault
    fault reads.DiskFault e = refl
    fault reads.NoMemory e = absurd (cc e)
    fault (reads.Damaged byte) e = absurd (cc e)

-- a log whose areas change with its state's is left as before
pub left_areas : (disk : DiskState) (log : Log) (areas : AreaTable) (told : Told State) → told.value ≡ record log.state.value { areas = areas.areas } → IsLeft disk log
    → IsLeft disk (record log { areas = areas; state = told })
left_areas disk log areas told is left = record {
  broken = ap (λ (s : State). s.broken) is ∙ left.broken;
  whole = λ unbroken. subst (λ (s : State). IsOpen disk s (record log { areas = areas; state = told })) (sym is)
      (open_areas disk log.state.value log areas told (left.whole unbroken));
}

-- one area changes in memory as in the state
pub changed_alike : (s t : State) (old new : List Area) (place client number : ℕ) (change : Area → Area) → old ≡ s.areas
    → client ≡ (area_at place old).client → number ≡ (area_at place old).number
    → new ≡ change_first (is_area (area_at place old).client (area_at place old).number) change old → t ≡ change_area change client number s
    → t ≡ record s { areas = new }
changed_alike s t old new place client number change of_s of_client of_number of_new is =
    let same : change_first (is_area client number) change s.areas ≡ change_first (is_area (area_at place old).client (area_at place old).number) change old
    = λ i. change_first (is_area (of_client i) (of_number i)) change (sym of_s i) in
    is ∙ ap (λ (areas : List Area). record s { areas = areas }) (same ∙ sym of_new)

-- a log of which one part alone changed has the others
pub areas_stay : (log after : Log) (kept : Buffered) → after ≡ record log { buffers = kept } → after.areas.areas ≡ log.areas.areas
areas_stay log after kept is = ap (λ (l : Log). l.areas.areas) is

pub state_stays : (log after : Log) (kept : Buffered) → after ≡ record log { buffers = kept } → after.state.value ≡ log.state.value
state_stays log after kept is = ap (λ (l : Log). l.state.value) is
