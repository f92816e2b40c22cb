-- What restoring a log of archives answers and leaves, and when the log comes to be there.
use Rattle.std.specs.Prelude.{◌≡◌, ◌⊎◌, ℕ, ◌+◌, ◌-◌, ◌*◌, ◌<◌, ◌≤◌, List, ◌++◌, length, Option, Some, Ok, Err}
use Rattle.clfs_lsn.specs.Format.{sector_bytes}
use Rattle.clfs_lsn.specs.Lsn.{container_of}
use Rattle.clfs_disk.specs.Files.{Files, GrownIn}
use Rattle.clfs_disk.specs.State.{DiskState, TellsContents, MayLeave, Passes, Rises, raised}
use Rattle.clfs_disk.specs.declared.disk.GrowRefusal.{GrowRefusal}
use Rattle.clfs_disk.specs.declared.disk.GrowRefusal.TheVariants as growths
use Rattle.clfs_lsn.specs.declared.entry.LogEntry.{LogEntry}
use Rattle.clfs_container.specs.OpenBlocks.{AreWhole, total}
use Rattle.clfs_base.specs.Layout.{slot_bytes}
use Rattle.clfs_base.specs.Writing.{HasNoCopy}
use Rattle.clfs_recover.specs.Files.{StandsFor}
use Rattle.clfs_recover.specs.Stored.{stored_in}
use Rattle.clfs_recover.specs.Walk.{shape_of}
use Rattle.clfs_format.specs.Making.{open_slot_of}
use Rattle.clfs_archive_form.specs.declared.archive.Archive.{Archive}
use Rattle.clfs_archive_form.specs.declared.refusal.InputRefusal.{InputRefusal}
use Rattle.clfs_archive_form.specs.declared.refusal.InputRefusal.TheVariants as inputs
use Rattle.clfs_archive_form.specs.Archives.{archives_in, joined}
use Rattle.clfs_archive_form.specs.Restoring.{blocks_at, chosen, restored}
use Rattle.clfs_archive_form.specs.Kept.{below, AreExact}
use Rattle.clfs_archive_form.specs.Written.{HoldsKept}
use Rattle.clfs_restore.specs.declared.refusal.RestoreRefusal.{RestoreRefusal}
use Rattle.clfs_restore.specs.declared.refusal.RestoreRefusal.TheVariants.{Exists, NotAnArchive, Gap, UpToInvalid, DiskFault, NoMemory}

-- why an input isn't restored, as restoring tells it
abbrev pub of_input : InputRefusal → RestoreRefusal
of_input (inputs.NotAnArchive at) = NotAnArchive at
of_input (inputs.Gap container) = Gap container
of_input (inputs.UpToInvalid low high) = UpToInvalid low high
of_input inputs.NoMemory = NoMemory

-- Bytes are archives, and of these, taken together, the log is restored up to an LSN.
pub record IsChosen (bytes : List ℕ) (up_to : Option ℕ) (archive : Archive) (lsn : ℕ) : Type 0 where
  pub archives : List Archive
  pub read : archives_in bytes ≡ Ok archives
  pub together : joined archives ≡ Some archive
  pub choice : chosen archive up_to ≡ Ok lsn

-- Bytes are archives of which a log can be restored up to what is asked for.
abbrev pub AreChosen : List ℕ → Option ℕ → Type 0
AreChosen bytes up_to = (archive : Archive) × (lsn : ℕ) × IsChosen bytes up_to archive lsn

-- Files stand for what is restored of these bytes, whatever the number of write buffers.
abbrev pub StandForRestored : List ℕ → Option ℕ → Files → Type 0
StandForRestored bytes up_to files =
    (archive : Archive) × (lsn : ℕ) × IsChosen bytes up_to archive lsn × ((buffers : ℕ) → StandsFor files (restored bytes archive lsn buffers))

-- the bytes of a base file
abbrev pub base_bytes : ℕ
base_bytes = 2 * slot_bytes

-- Nothing was done but growing the base file.
abbrev pub GrowsBase : DiskState → DiskState → Type 0
GrowsBase old new = Passes (GrownIn 0 base_bytes) old new

-- Something comes to be there at once. Up to a moment nothing is done but growing the base file; at it no slot is open;
-- and from it on a crash leaves no open slot, or files of that kind.
pub record ComesAtOnce (P : Files → Type 0) (old new : DiskState) : Type 0 where
  pub since : ℕ
  pub begun : old.clock ≤ since
  pub ended : since ≤ new.clock
  pub before : (moment : ℕ) (image : Files) → old.clock < moment → moment ≤ since → new.image_at moment image
      → (first : Files) × MayLeave old first × GrownIn 0 base_bytes first image
  pub none : (image : Files) → new.image_at since image → HasNoCopy image
  pub later : (moment : ℕ) (image : Files) → since ≤ moment → moment ≤ new.clock → new.image_at moment image → HasNoCopy image ⊎ P image

-- The restored log comes to be there at once.
abbrev pub RestoresAtOnce : List ℕ → Option ℕ → DiskState → DiskState → Type 0
RestoresAtOnce bytes up_to old new = ComesAtOnce (StandForRestored bytes up_to) old new

-- The files of the listed containers hold what is left of these up to an LSN, the last one up to a byte.
pub record AreFilled (bytes : List ℕ) (archive : Archive) (up_to : ℕ) (files : Files) (end : ℕ) : Type 0 where
  pub fronts : (i : ℕ) → archive.image.first + i < container_of up_to → (size : ℕ) × HoldsKept bytes archive up_to files i size
  pub last : HoldsKept bytes archive up_to files (container_of up_to - archive.image.first) end

-- What a container's file is to begin with: those of its blocks that are left below an LSN, which end at a byte, and a closed gate where a sector is left
-- after them. Whatever follows it, these are the file's open blocks.
pub record IsPiece (bytes : List ℕ) (archive : Archive) (up_to id : ℕ) (piece : List ℕ) (end : ℕ) : Type 0 where
  pub blocks : List (List ℕ)
  pub read : (entries : List LogEntry)
      → stored_in (shape_of archive.image) (length archive.image.streams) id 0 (blocks_at bytes archive id) ≡ Ok entries
      → stored_in (shape_of archive.image) (length archive.image.streams) id 0 blocks ≡ Ok (below up_to entries)
  pub exact : AreExact blocks
  pub whole : (more : List ℕ) → AreWhole archive.image.container_sectors (piece ++ more) blocks
  pub ends : total blocks ≡ end
  pub short : length piece ≤ sector_bytes * archive.image.container_sectors

-- Why archives are refused for what they are.
abbrev pub IsInputCause : List ℕ → Option ℕ → RestoreRefusal → Type 0
IsInputCause bytes up_to (Exists slot) = ⊥
IsInputCause bytes up_to (NotAnArchive at) = archives_in bytes ≡ Err at
IsInputCause bytes up_to (Gap container) =
    (archives : List Archive) × (archive : Archive) × (archives_in bytes ≡ Ok archives) × (joined archives ≡ Some archive)
    × (chosen archive up_to ≡ Err (inputs.Gap container))
IsInputCause bytes up_to (UpToInvalid low high) =
    (archives : List Archive) × (archive : Archive) × (archives_in bytes ≡ Ok archives) × (joined archives ≡ Some archive)
    × (chosen archive up_to ≡ Err (inputs.UpToInvalid low high))
IsInputCause bytes up_to DiskFault = ⊥
IsInputCause bytes up_to NoMemory = Unit {0}

-- Why restoring is refused where no slot is open: for what the archives are; or the disk failed, and they can be restored.
abbrev pub IsFreeCause : List ℕ → Option ℕ → RestoreRefusal → Type 0
IsFreeCause bytes up_to (Exists slot) = ⊥
IsFreeCause bytes up_to (NotAnArchive at) = IsInputCause bytes up_to (NotAnArchive at)
IsFreeCause bytes up_to (Gap container) = IsInputCause bytes up_to (Gap container)
IsFreeCause bytes up_to (UpToInvalid low high) = IsInputCause bytes up_to (UpToInvalid low high)
IsFreeCause bytes up_to DiskFault = AreChosen bytes up_to
IsFreeCause bytes up_to NoMemory = Unit {0}

-- Why restoring is refused. Where a slot is open, that one is told; then what the archives are, also where the disk failed before; and a fault of the disk
-- only where they can be restored. If memory runs out any other answer may be missing.
abbrev pub IsRestoreCause : DiskState → List ℕ → Option ℕ → RestoreRefusal → Type 0
IsRestoreCause disk bytes up_to (Exists slot) = TellsContents disk → open_slot_of (disk.files 0) ≡ Some slot
IsRestoreCause disk bytes up_to (NotAnArchive at) = IsFreeCause bytes up_to (NotAnArchive at)
IsRestoreCause disk bytes up_to (Gap container) = IsFreeCause bytes up_to (Gap container)
IsRestoreCause disk bytes up_to (UpToInvalid low high) = IsFreeCause bytes up_to (UpToInvalid low high)
IsRestoreCause disk bytes up_to DiskFault = IsFreeCause bytes up_to DiskFault
IsRestoreCause disk bytes up_to NoMemory = Unit {0}

-- Where a slot was open that one is told, unless the disk failed: then it may be told what the archives are.
abbrev pub LooksFirst : RestoreRefusal → DiskState → DiskState → Type 0
LooksFirst cause old new = TellsContents old → (slot : ℕ) → open_slot_of (old.files 0) ≡ Some slot → (cause ≡ Exists slot) ⊎ Rises old.faults new.faults

-- How many calls of the disk fill the files of the containers: a growth of each, and a write into each listed one up to the LSN's.
abbrev pub filling_calls : Archive → ℕ → ℕ
filling_calls archive up_to = archive.image.containers + (container_of up_to - archive.image.first + 1)

-- How many restoring takes: two reads of gates, a growth of the base file and a sync, those that fill the other files and a sync, and the copy and its gate
-- by a write and a sync each.
abbrev pub restoring_calls : Archive → ℕ → ℕ
restoring_calls archive up_to = filling_calls archive up_to + 9

-- Just so many calls of the disk were made for what is restored of these bytes.
abbrev pub TakesCalls : List ℕ → Option ℕ → (Archive → ℕ → ℕ) → DiskState → DiskState → Type 0
TakesCalls bytes up_to count old new =
    (archive : Archive) × (lsn : ℕ) × IsChosen bytes up_to archive lsn × (new.calls ≡ raised (count archive lsn) old.calls)

-- The disk failed, or memory is wanted: all that making the log is refused for.
abbrev pub IsOfMaking : RestoreRefusal → Type 0
IsOfMaking (Exists slot) = ⊥
IsOfMaking (NotAnArchive at) = ⊥
IsOfMaking (Gap container) = ⊥
IsOfMaking (UpToInvalid low high) = ⊥
IsOfMaking DiskFault = Unit {0}
IsOfMaking NoMemory = Unit {0}

-- a growth that was refused, as restoring tells it
abbrev pub of_growth : GrowRefusal → RestoreRefusal
of_growth growths.Failed = DiskFault
of_growth growths.NoMemory = NoMemory
