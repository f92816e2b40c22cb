-- A log whose number of containers was changed, in memory and on the disk.
use Rattle.clfs_manager.proofs.Words.{◌≡◌, ℕ, ◌+◌, ◌-◌, true, false, max, refl, sym, ap, subst, ◌∙◌, map, length, arith, Ok, length-drop, container_of}
use Rattle.clfs_manager.proofs.Words.{DiskState, TellsContents, IsSettled, IsSteady, Later, Rises, BaseImage, Buffered, State, hold, with_containers, IsValid}
use Rattle.clfs_manager.proofs.Words.{next_copy, Newest, Blocks, AreMade, Stores, Queued, IsLogWith, stored_state, shape_of, Tabled, StandByBlocks}
use Rattle.clfs_manager.proofs.Words.{HaveByFile, Holds, IsStored, IsOpen, AreKept, ResizesLog, IsIntact, WritesDisk, Log}
use Rattle.clfs_physical.specs.Changes.{with_containers as counting}
use Rattle.clfs_physical.specs.declared.change.Change.TheVariants as changes
use Rattle.clfs_manager.specs.Sizes.{ChangesSize}
use Rattle.clfs_manager.proofs.Crashes.{crash_still}
use Rattle.clfs_manager.proofs.Intact.{made_in, stores_whole, whole_of_stores, writes_nothing}
use Rattle.clfs_manager.proofs.KeptFiles.{counts_none}
use Rattle.clfs_manager.proofs.Numbers.{hold_within}
use Rattle.clfs_manager.proofs.ReadKeeps.{tells_before}
use Rattle.clfs_manager.proofs.Settled.{stays_settled}

-- a copy that counts so many containers, and has another turn, of the version that is written
abbrev pub sized : ℕ → ℕ → BaseImage → BaseImage
sized containers turn image = record image { version = 2; turn = turn; containers = containers; files_made = max image.files_made containers }

pub sized_stored : (s : State) (slot : ℕ) (image : BaseImage) (blocks : Blocks) (containers turn : ℕ)
    → (stored : IsStored s (record { slot = slot; image = image }) blocks)
    → IsLogWith (sized containers turn image) (map blocks image.files) stored.entries
    → stored_state (sized containers turn image) (map blocks image.files) stored.entries s.buffers
    ≡ record (stored_state image (map blocks image.files) stored.entries s.buffers) { containers = containers }
    → IsStored (with_containers containers s) (record { slot = slot; image = sized containers turn image }) blocks
sized_stored s slot image blocks containers turn stored log state = record {
  entries = stored.entries;
  log = log;
  records = stored.records;
  state = state ∙ ap (λ (u : State). record u { containers = containers }) stored.state;
  needed = stored.needed;
}

-- the blocks that were read are the state's still
pub kept_sized : (s : State) (containers : ℕ) (kept : Buffered) → AreKept s kept → AreKept (with_containers containers s) kept
kept_sized s containers kept are = record { stable = are.stable; records = are.records }

-- what memory has of the state once the next copy counts so many containers
pub holds_sized : (before after : Log) (slot first containers : ℕ) → IsValid before.state.value → Holds before.state.value before
    → after.state.value ≡ with_containers containers before.state.value
    → after.physical ≡ record { slot = slot; image = counting containers (next_copy first changes.Listing before.physical.image) }
    → first ≡ container_of (hold before.state.value) → ChangesSize before after → Holds after.state.value after
holds_sized before after slot first containers valid holds state newest is_first same =
    let image = before.physical.image in
    subst (λ (t : State). Holds t after) (sym state) (record {
      shape = ap (λ (q : Queued). q.shape) same.queue ∙ holds.shape;
      buffers = ap (λ (q : Queued). q.buffers) same.queue ∙ holds.buffers;
      place = ap (λ (q : Queued). q.place) same.queue ∙ holds.place;
      waiting = ap (λ (q : Queued). q.waiting) same.queue ∙ holds.waiting;
      records = ap (λ (q : Queued). q.records) same.queue ∙ holds.records;
      streams = ap (λ (t : Tabled). t.streams) same.tables ∙ holds.streams;
      heads = ap (λ (t : Tabled). t.heads) same.tables ∙ holds.heads;
      low = rw same.tables holds.low;
      areas = rw same.areas holds.areas;
      archive = rw same.archive holds.archive;
      sealed = rw (same.tables, same.archive) holds.sealed;
      room = rw same.archive holds.room;
      policies = same.policies ∙ holds.policies;
      containers = ap (λ (n : Newest). n.image.containers) newest;
      image_shape = ap (λ (n : Newest). shape_of n.image) newest ∙ holds.image_shape;
      dedicated = ap (λ (n : Newest). n.image.dedicated) newest ∙ holds.dedicated;
      rows = ap (λ (n : Newest). length n.image.streams) newest ∙ holds.rows;
      listed = ap (λ (n : Newest). n.image.first + length n.image.files) newest
          ∙ omega (arith, holds.listed, holds.needed, is_first, hold_within before.state.value valid, length-drop (first - image.first) image.files);
      needed = omega (arith, ap (λ (n : Newest). n.image.first) newest, is_first);
    })

-- How the disk is left by a call after which the newest copy, this one or another, lists the same open blocks, unless the disk failed.
pub writes_sized : (fault : Type 0) (old new : DiskState) (before : Log) (after : Newest) → IsOpen old before.state.value before
    → Later old new → (fault → Rises old.faults new.faults)
    → ((fault → ⊥) → TellsContents old → (blocks : Blocks) → Stores true before.physical blocks old.files → Stores true after blocks new.files)
    → (IsSteady old → AreMade before.physical.image old.files → (fault → ⊥) × (new.faults ≡ old.faults))
    → WritesDisk fault old new
writes_sized fault old new before after is time cause written steady = record {
  time = time;
  cause = cause;
  whole = λ none tells whole.
      let made = made_in old before.state.value before is tells whole in
      whole_of_stores after is.blocks new.files (written none tells is.blocks (stores_whole before.physical is.blocks old.files (is.files tells) made));
  steady = λ calm tells whole. steady calm (made_in old before.state.value before is tells whole);
}

-- A log whose files may have grown, and which is as before.
pub intact_grown : (old new : DiskState) (log : Log) → IsIntact old log → new.nature ≡ old.nature → (IsSettled old → IsSettled new)
    → ((blocks : Blocks) → Stores false log.physical blocks old.files → Stores false log.physical blocks new.files) → IsIntact new log
intact_grown old new log intact nature settled stores = record {
  sound = intact.sound;
  opened = record {
    memory = intact.opened.memory;
    blocks = intact.opened.blocks;
    stored = intact.opened.stored;
    files = λ tells. stores intact.opened.blocks (intact.opened.files (tells_before old new nature tells));
    kept = λ tells. intact.opened.kept (tells_before old new nature tells);
    settled = stays_settled old new nature settled intact.opened.settled;
    forgotten = intact.opened.forgotten;
  };
}

-- a log that has its size already
pub resizes_nothing : {A : Type 0} (value : A) → StandByBlocks → HaveByFile → (disk : DiskState) (log : Log) (further : State) → IsIntact disk log
    → log.state.value ≡ further → ResizesLog (Ok value) further disk disk log log
resizes_nothing value stands by_file disk log further intact same = record {
  state = same;
  intact = intact;
  same = record { tables = refl; areas = refl; archive = refl; policies = refl; queue = refl; buffers = refl; broken = refl };
  broken = λ f. absurd (cc f);
  no_memory = λ f. absurd (cc f);
  kept = λ f. absurd (cc f);
  writes = writes_nothing _ disk (λ f. cc f);
  moments = λ asked s before behind. crash_still stands by_file disk log intact asked s before;
  old_size = λ f. absurd (cc f);
  files = λ fine. counts_none disk disk log log intact.sound.unbroken refl;
}
