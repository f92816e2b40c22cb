-- What the calls answer, against the definitions.
use Rattle.std.specs.Prelude.{◌≡◌, ℕ, ◌+◌, ◌*◌, ◌≤◌, All, length, List, [], ◌∷◌, ◌++◌, Option, Some, None, Result, Ok, Err}
use Rattle.clfs_lsn.specs.Format.{sector_bytes}
use Rattle.clfs_lsn.specs.Lsn.{container_of}
use Rattle.clfs_lsn.specs.declared.entry.LogEntry.{LogEntry}
use Rattle.clfs_block.specs.declared.head.BlockRefusal.{BlockRefusal}
use Rattle.clfs_block.specs.declared.head.BlockRefusal.TheVariants as blocks
use Rattle.clfs_recover.specs.Gathering.{RefusesAs}
use Rattle.clfs_recover.specs.Stored.{stored_in}
use Rattle.clfs_recover.specs.Walk.{shape_of}
use Rattle.clfs_recover.specs.declared.refusal.LoadRefusal.{LoadRefusal}
use Rattle.clfs_recover.specs.declared.refusal.LoadRefusal.TheVariants as loading
use Rattle.clfs_base.specs.declared.demands.Demands.{Demands}
use Rattle.clfs_base.specs.declared.image.BaseImage.{BaseImage}
use Rattle.clfs_base.specs.Demands.{IsAsked}
use Rattle.clfs_archive_form.specs.declared.archive.Archive.{Archive}
use Rattle.clfs_archive_form.specs.declared.archive.Stored.{Stored}
use Rattle.clfs_archive_form.specs.declared.refusal.InputRefusal.{InputRefusal}
use Rattle.clfs_archive_form.specs.declared.refusal.InputRefusal.TheVariants.{NotAnArchive, Gap, UpToInvalid, NoMemory}
use Rattle.clfs_archive_form.specs.Archives.{joined}
use Rattle.clfs_archive_form.specs.Containers.{blocks_in, part_of}

-- A refusal names the first wrong byte. Out of memory may come in place of any answer.
abbrev pub RefusesAt : {Y : Type 0} → InputRefusal → Result Y ℕ → Type 0
RefusesAt (NotAnArchive at) read = read ≡ Err at
RefusesAt (Gap container) read = ⊥
RefusesAt (UpToInvalid low high) read = ⊥
RefusesAt NoMemory read = Unit {0}

-- The answer is what the bytes are: the same value, or a refusal at their first wrong byte.
abbrev pub Gives : {Y : Type 0} → Result Y InputRefusal → Result Y ℕ → Type 0
Gives (Ok value) read = read ≡ Ok value
Gives (Err refusal) read = RefusesAt refusal read

-- The answer is the archives that the bytes are, taken together.
abbrev pub GivesJoined : Result Archive InputRefusal → Result (List Archive) ℕ → Type 0
GivesJoined (Ok archive) read = (archives : List Archive) × (read ≡ Ok archives) × (joined archives ≡ Some archive)
GivesJoined (Err refusal) read = RefusesAt refusal read

-- The blocks of containers lie in so many bytes.
abbrev pub LieWithin : ℕ → List Stored → Type 0
LieWithin bytes [] = Unit {0}
LieWithin bytes (stored ∷ others) = (stored.at + stored.len ≤ bytes) × LieWithin bytes others

-- Containers were taken in after those of before, and the place after them was answered; or their first wrong byte.
abbrev pub TakesContainers : Result ℕ InputRefusal → List Stored → List Stored → (List Stored → ℕ) → Result (List Stored) ℕ → Type 0
TakesContainers (Ok end) old new end_of read = (more : List Stored) × (read ≡ Ok more) × (new ≡ old ++ more) × (end ≡ end_of more)
TakesContainers (Err refusal) old new end_of read = RefusesAt refusal read

-- The same of an archive: its base copy and the place after it were answered.
abbrev pub TakesArchive : Result (BaseImage × ℕ) InputRefusal → List Stored → List Stored → Result (Archive × ℕ) ℕ → Type 0
TakesArchive (Ok x) old new read =
    (more : List Stored) × (read ≡ Ok (record { image = x.0; containers = more }, x.1)) × (new ≡ old ++ more)
TakesArchive (Err refusal) old new read = RefusesAt refusal read

-- The refusal of an input for that of a block in it, where the blocks of its container begin at a byte. Of bytes in memory no other comes than these.
abbrev pub refusal_told : ℕ → LoadRefusal → InputRefusal
refusal_told from (loading.Damaged container offset at) = NotAnArchive (from + offset + at)
refusal_told from loading.NoBase = NoMemory
refusal_told from loading.DiskFault = NoMemory
refusal_told from loading.NoMemory = NoMemory

-- A block's records are right, or its first wrong byte is told.
abbrev pub JudgesBlock : ℕ → ℕ → Result (Option ℕ) LoadRefusal → Result (List LogEntry) BlockRefusal → Type 0
JudgesBlock container offset (Ok (Some sectors)) read = (entries : List LogEntry) × (read ≡ Ok entries)
JudgesBlock container offset (Ok None) read = read ≡ Err blocks.Closed
JudgesBlock container offset (Err loading.NoBase) read = ⊥
JudgesBlock container offset (Err (loading.Damaged c o at)) read = (c ≡ container) × (o ≡ offset) × (read ≡ Err (blocks.BadByte at))
JudgesBlock container offset (Err loading.DiskFault) read = Unit {0}
JudgesBlock container offset (Err loading.NoMemory) read = Unit {0}

-- The blocks of a container are right, or the first place is told at which they aren't.
abbrev pub JudgesBlocks : {T : Type 0} → Result T LoadRefusal → Result (List LogEntry) LoadRefusal → Type 0
JudgesBlocks (Ok value) read = (entries : List LogEntry) × (read ≡ Ok entries)
JudgesBlocks (Err refusal) read = RefusesAs refusal read

-- What is asked of an archive's copy, and what is known of its tail: it doesn't lie in a container below the first listed one.
pub record Suits (demands : Demands) (image : BaseImage) : Type 0 where
  pub block_sectors : IsAsked demands.block_sectors image.block_sectors
  pub container_sectors : IsAsked demands.container_sectors image.container_sectors
  pub streams : IsAsked demands.streams (length image.streams)
  pub tail : image.first ≤ container_of image.tail

-- The blocks of a container lie in some bytes, are no more than a container of a log with this copy has, and can be read in that log.
pub record IsReadableAs (bytes : List ℕ) (image : BaseImage) (stored : Stored) : Type 0 where
  pub there : stored.at + stored.len ≤ length bytes
  pub within : stored.len ≤ sector_bytes * image.container_sectors
  pub entries : List LogEntry
  pub read : stored_in (shape_of image) (length image.streams) stored.container 0 (blocks_in (part_of bytes stored.at stored.len)) ≡ Ok entries

-- All containers of some can be read so.
abbrev pub AreReadable : List ℕ → BaseImage → List Stored → Type 0
AreReadable bytes image containers = All (IsReadableAs bytes image) containers

-- What is known of archives that were read and taken together.
pub record CanBeRead (bytes : List ℕ) (archive : Archive) : Type 0 where
  pub tail : archive.image.first ≤ container_of archive.image.tail
  pub containers : AreReadable bytes archive.image archive.containers
