-- What archiving a log answers, and how it leaves the log.
use Rattle.std.specs.Prelude.{◌≡◌, ℕ, ◌+◌, ◌*◌, ◌<◌, ◌≤◌, false, List, [], ◌∷◌, ◌++◌, length, slice_index, take, drop, Option, Some, None, Result, Ok, Err}
use Rattle.std.specs.List.{flat_map}
use Rattle.clfs_lsn.specs.Format.{sector_bytes}
use Rattle.clfs_lsn.specs.Lsn.{lsn_number, container_of}
use Rattle.clfs_lsn.specs.declared.shape.Shape.{Shape}
use Rattle.clfs_lsn.specs.declared.entry.LogEntry.{LogEntry}
use Rattle.clfs_disk.specs.Files.{Files, Unchanged}
use Rattle.clfs_disk.specs.State.{DiskState, TellsContents, IsSteady, Passes, Rises}
use Rattle.clfs_container.specs.OpenBlocks.{AreWhole, total}
use Rattle.clfs_block.specs.Records.{block_records}
use Rattle.clfs_block.specs.declared.head.BlockRefusal.TheVariants as blocks
use Rattle.clfs_base.specs.declared.image.BaseImage.{BaseImage}
use Rattle.clfs_base.specs.declared.refusal.NewestRefusal.{NewestRefusal}
use Rattle.clfs_base.specs.Reading.{IsReadCopy, IsUsedSlot}
use Rattle.clfs_model.specs.declared.refusal.Refusal.{Refusal}
use Rattle.clfs_model.specs.declared.refusal.Refusal.TheVariants as refusals
use Rattle.clfs_model.specs.declared.state.State.{State}
use Rattle.clfs_model.specs.Flush.{flushed}
use Rattle.clfs_model.specs.Step.{with_broken}
use Rattle.clfs_recover.specs.Files.{StandsFor, without_copy}
use Rattle.clfs_recover.specs.Stored.{stored_in}
use Rattle.clfs_recover.specs.Walk.{shape_of}
use Rattle.clfs_recover.specs.declared.refusal.LoadRefusal.{LoadRefusal}
use Rattle.clfs_recover.specs.declared.refusal.LoadRefusal.TheVariants as loading
use Rattle.clfs_archive_form.specs.Form.{IsArchiveOf}
use Rattle.clfs_archive_form.specs.Drafting.{most_archive}
use Rattle.clfs_restore.specs.declared.refusal.ArchiveRefusal.{ArchiveRefusal}
use Rattle.clfs_restore.specs.declared.refusal.ArchiveRefusal.TheVariants.{Log, TooLong, NoMemory}

-- A log that was just loaded: it isn't broken, nobody has an area of it, nothing of it waits to be written, and where the disk tells what its files
-- hold they stand for it.
pub record IsJustLoaded (disk : DiskState) (s : State) : Type 0 where
  pub unbroken : s.broken ≡ false
  pub no_areas : s.areas ≡ []
  pub nothing_waits : s.waiting ≡ []
  pub nothing_open : s.place.records ≡ 0
  pub stands : TellsContents disk → StandsFor disk.files s

-- the same log when all of it that is on the disk was archived: the archive tail lies at its flushed LSN
abbrev pub all_archived : State → State
all_archived s = record s { archive = Some (flushed s) }

-- the flushed LSN, as the refusal of an archive tail tells it
abbrev pub stable_of : Refusal → Option ℕ
stable_of (refusals.ArchiveTailInvalid lsn tail stable) = Some stable
stable_of _ = None

-- Why a log's files aren't read, as archiving tells it: a base file without an open slot is damage at its first byte.
abbrev pub refused_as : LoadRefusal → ArchiveRefusal
refused_as loading.NoBase = Log (refusals.Damaged 0 0 0)
refused_as (loading.Damaged container offset at) = Log (refusals.Damaged container offset at)
refused_as loading.DiskFault = Log refusals.DiskFault
refused_as loading.NoMemory = NoMemory

-- why a call of the log's is refused, as archiving tells it
abbrev pub of_log : Refusal → ArchiveRefusal
of_log refusals.NoMemory = NoMemory
of_log refusal = Log refusal

-- How a part of archiving leaves the log and its disk, as it is refused or not: the log is as before, but broken after a fault of the disk, which is told
-- only where the disk failed in it; and no file changes.
pub record Reads (refusal : Option ArchiveRefusal) (s t : State) (old new : DiskState) : Type 0 where
  pub kept : (refusal ≡ Some (Log refusals.DiskFault) → ⊥) → t ≡ s
  pub broken : refusal ≡ Some (Log refusals.DiskFault) → t ≡ with_broken s
  pub same : Unchanged old.files new.files
  pub time : Passes Unchanged old new
  pub cause : refusal ≡ Some (Log refusals.DiskFault) → Rises old.faults new.faults
  pub steady : IsSteady old → (refusal ≡ Some (Log refusals.DiskFault) → ⊥) × (new.faults ≡ old.faults)

-- why what is read of files is refused
abbrev pub IsOfReading : ArchiveRefusal → Type 0
IsOfReading (Log refusals.DiskFault) = Unit {0}
IsOfReading (Log (refusals.Damaged container offset at)) = Unit {0}
IsOfReading (Log refusal) = ⊥
IsOfReading (TooLong bytes) = ⊥
IsOfReading NoMemory = Unit {0}

-- Why archiving is refused: archiving is off; a file isn't read; what is read is damaged, which it never is over a disk that tells what its files hold;
-- or the archive has more bytes than it may have. Because memory ran out any other answer may be missing.
abbrev pub IsCause : DiskState → State → ArchiveRefusal → Type 0
IsCause disk s (Log refusals.Ephemeral) = s.archive ≡ None
IsCause disk s (Log refusals.DiskFault) = Unit {0}
IsCause disk s (Log (refusals.Damaged container offset at)) = TellsContents disk → ⊥
IsCause disk s (Log refusal) = ⊥
IsCause disk s (TooLong bytes) = (most_archive < bytes)
    × (TellsContents disk → (archive : List ℕ) × IsArchiveOf disk.files archive × (length archive ≡ bytes))
IsCause disk s NoMemory = Unit {0}

-- ---- where damage is told

-- At a byte of a container some bytes, as many as a container has at most, are no block of that place, and this is the first wrong one.
pub record IsWrongAt (shape : Shape) (streams container offset at : ℕ) : Type 0 where
  pub bytes : List ℕ
  pub few : length bytes ≤ sector_bytes * shape.container_sectors
  pub wrong : block_records shape streams (lsn_number container offset 0) (drop offset bytes) ≡ Err (blocks.BadByte at)

-- Damage is told at such a byte, in one of so many containers from one on.
abbrev pub TellsContainer : Shape → ℕ → ℕ → ℕ → ArchiveRefusal → Type 0
TellsContainer shape streams from count (Log (refusals.Damaged container offset at)) =
    (from ≤ container) × (container < from + count) × IsWrongAt shape streams container offset at
TellsContainer shape streams from count _ = Unit {0}

-- Damage is told at such a byte, in a container that a base copy lists, from that of its archive tail on.
abbrev pub TellsArchived : BaseImage → ArchiveRefusal → Type 0
TellsArchived image (Log (refusals.Damaged container offset at)) =
    (image.first ≤ container) × (container_of image.tail ≤ container) × (container < image.first + length image.files)
    × IsWrongAt (shape_of image) (length image.streams) container offset at
TellsArchived image _ = Unit {0}

-- by the newest base copy, or by why there is none
abbrev pub TellsBy : ArchiveRefusal → Result (ℕ × BaseImage) NewestRefusal → Type 0
TellsBy refusal (Ok (slot, image)) = TellsArchived image refusal
TellsBy refusal (Err reason) = refusal ≡ refused_as (without_copy reason)

-- Damage that archiving meets is told by a base copy that some bytes spell and by those of a container, or by bytes that spell no copy. That they are those
-- that the disk gave can't be said of a disk that doesn't tell what its files hold, and over another none is met.
pub record IsDamageMet (refusal : ArchiveRefusal) : Type 0 where
  pub newest : Result (ℕ × BaseImage) NewestRefusal
  pub copy : IsReadCopy newest
  pub told : TellsBy refusal newest

-- so where damage is told
abbrev pub TellsDamage : ArchiveRefusal → Type 0
TellsDamage (Log (refusals.Damaged container offset at)) = IsDamageMet (Log (refusals.Damaged container offset at))
TellsDamage _ = Unit {0}

-- ---- the parts of an archive

-- The slot that counts was read, or there is none.
abbrev pub GivesSlot : Result ℕ ArchiveRefusal → Result ℕ NewestRefusal → Type 0
GivesSlot (Ok slot) read = read ≡ Ok slot
GivesSlot (Err refusal) read = (cause : NewestRefusal) × (read ≡ Err cause)

-- The slot that counts is told by some bytes of each of the two, or why none does.
abbrev pub TellsSlot : Result ℕ ArchiveRefusal → Type 0
TellsSlot (Ok slot) = IsUsedSlot (Ok slot)
TellsSlot (Err refusal) = (reason : NewestRefusal) × IsUsedSlot (Err reason) × (refusal ≡ refused_as (without_copy reason))

-- The newest base copy was read. A fault of the disk, or out of memory, may come in its place; any other refusal says that there is none.
abbrev pub GivesCopy : Result BaseImage ArchiveRefusal → Result (ℕ × BaseImage) NewestRefusal → Type 0
GivesCopy (Ok image) read = (slot : ℕ) × (read ≡ Ok (slot, image))
GivesCopy (Err (Log refusals.DiskFault)) read = Unit {0}
GivesCopy (Err NoMemory) read = Unit {0}
GivesCopy (Err refusal) read = (cause : NewestRefusal) × (read ≡ Err cause)

-- All blocks of a container were read, of which its piece has the bytes in front.
abbrev pub GivesBlocks : Result ℕ ArchiveRefusal → List ℕ → List (List ℕ) → Type 0
GivesBlocks (Ok end) piece blocks = (end ≡ total blocks) × (take end piece ≡ flat_map (λ (block : List ℕ). block) blocks)
GivesBlocks (Err (Log refusals.DiskFault)) piece blocks = Unit {0}
GivesBlocks (Err NoMemory) piece blocks = Unit {0}
GivesBlocks (Err refusal) piece blocks = ⊥

-- The archive goes on with these bytes, unless the disk fails or memory is wanted.
abbrev pub GoesOn : {A : Type 0} → Result A ArchiveRefusal → List ℕ → List ℕ → List ℕ → Type 0
GoesOn (Ok value) old new more = new ≡ old ++ more
GoesOn (Err (Log refusals.DiskFault)) old new more = Unit {0}
GoesOn (Err NoMemory) old new more = Unit {0}
GoesOn (Err refusal) old new more = ⊥

-- Files with these numbers have blocks, whose records are read of them in a log of this shape with so many streams; their containers have the ids from
-- one on.
pub record AreReadable (shape : Shape) (streams from : ℕ) (files : Files) (numbers : List ℕ) (blocks : ℕ → List (List ℕ)) : Type 0 where
  pub whole : (i : ℕ) → i < length numbers → AreWhole shape.container_sectors (files (slice_index numbers i)) (blocks (slice_index numbers i))
  pub read : (i : ℕ) → i < length numbers
      → (entries : List LogEntry) × (stored_in shape streams (from + i) 0 (blocks (slice_index numbers i)) ≡ Ok entries)

-- containers with ids from one on, and their blocks
abbrev pub pieces_from : ℕ → List (List (List ℕ)) → List (ℕ × List (List ℕ))
pieces_from id [] = []
pieces_from id (here ∷ others) = (id, here) ∷ pieces_from (id + 1) others
