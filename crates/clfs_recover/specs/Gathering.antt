-- What a gatherer has taken in, as the parts of the walk leave it.
use Rattle.std.specs.Prelude.{◌≡◌, ℕ, ◌*◌, ◌%◌, ◌≤◌, All, List, [], ◌∷◌, ◌++◌, length, Option, Some, None, Result, Ok, Err}
use Rattle.clfs_lsn.specs.Format.{sector_bytes}
use Rattle.clfs_lsn.specs.declared.shape.Shape.{Shape}
use Rattle.clfs_lsn.specs.declared.entry.LogEntry.{LogEntry}
use Rattle.clfs_base.specs.declared.image.Row.{Row}
use Rattle.clfs_disk.specs.Files.{Files}
use Rattle.clfs_container.specs.OpenBlocks.{AreWhole, total}
use Rattle.clfs_block.specs.declared.head.BlockHead.{BlockHead}
use Rattle.clfs_block.specs.declared.head.BlockRefusal.{BlockRefusal}
use Rattle.clfs_block.specs.declared.head.BlockRefusal.TheVariants as blocks
use Rattle.clfs_record.specs.declared.refusal.RecordRefusal.{RecordRefusal}
use Rattle.clfs_record.specs.declared.refusal.RecordRefusal.TheVariants as records
use Rattle.clfs_recover.specs.Walk.{bases_with}
use Rattle.clfs_recover.specs.Stored.{HaveBlocks, stored_in, stored_records, stored_end}
use Rattle.clfs_recover.specs.KnownLogs.{LieIn}
use Rattle.clfs_recover.specs.declared.refusal.LoadRefusal.{LoadRefusal}
use Rattle.clfs_recover.specs.declared.refusal.LoadRefusal.TheVariants.{NoBase, Damaged, DiskFault, NoMemory}

-- A gatherer has taken these records, and these are the bases of the streams of such rows with them.
pub record HasTaken (has : List LogEntry → Type 0) (rows : List Row) (bases : List ℕ) (entries : List LogEntry) : Type 0 where
  pub records : has entries
  pub moved : bases ≡ bases_with rows entries

-- A refusal is the one that reading tells. What is after a base copy is never refused for want of one. A fault of the disk, or out of memory, may come in place of any answer.
abbrev pub RefusesAs : {A : Type 0} → LoadRefusal → Result A LoadRefusal → Type 0
RefusesAs NoBase read = ⊥
RefusesAs (Damaged container offset at) read = read ≡ Err (Damaged container offset at)
RefusesAs DiskFault read = Unit {0}
RefusesAs NoMemory read = Unit {0}

-- A part of the walk takes in the records that reading gives, after those of before, or refuses as reading does.
abbrev pub Gathers : {T : Type 0} → (List LogEntry → Type 0) → List Row → List ℕ → List LogEntry → Result T LoadRefusal
    → Result (List LogEntry) LoadRefusal → Type 0
Gathers has rows bases before (Ok value) read = (entries : List LogEntry) × (read ≡ Ok entries) × HasTaken has rows bases (before ++ entries)
Gathers has rows bases before (Err refusal) read = RefusesAs refusal read

-- The same for one record: it is taken in, or its first wrong byte is told.
abbrev pub GathersOne : (List LogEntry → Type 0) → List Row → List ℕ → List LogEntry → Result ℕ RecordRefusal → Result (LogEntry × ℕ) ℕ → Type 0
GathersOne has rows bases before (Ok size) read = (entry : LogEntry) × (read ≡ Ok (entry, size)) × HasTaken has rows bases (before ++ entry ∷ [])
GathersOne has rows bases before (Err records.NoMemory) read = Unit {0}
GathersOne has rows bases before (Err (records.BadByte at)) read = read ≡ Err at

-- The place of a refusal, if it has one, is no further than the bytes go.
abbrev pub IsNear : List ℕ → RecordRefusal → Type 0
IsNear bytes records.NoMemory = Unit {0}
IsNear bytes (records.BadByte at) = at ≤ length bytes

-- A head is the one that the checks of a block's frame give. At a closed gate there is none, and a wrong byte is told at the block's place.
abbrev pub GivesFrame : ℕ → ℕ → Result (Option BlockHead) LoadRefusal → Result BlockHead BlockRefusal → Type 0
GivesFrame container offset (Ok (Some head)) read = read ≡ Ok head
GivesFrame container offset (Ok None) read = read ≡ Err blocks.Closed
GivesFrame container offset (Err NoBase) read = ⊥
GivesFrame container offset (Err (Damaged c o at)) read = (c ≡ container) × (o ≡ offset) × (read ≡ Err (blocks.BadByte at))
GivesFrame container offset (Err DiskFault) read = Unit {0}
GivesFrame container offset (Err NoMemory) read = Unit {0}

-- A block's records are taken in, or its first wrong byte is told. At a closed gate nothing is.
abbrev pub GathersBlock : (List LogEntry → Type 0) → List Row → List ℕ → List LogEntry → ℕ → ℕ → Result (Option ℕ) LoadRefusal
    → Result (List LogEntry) BlockRefusal → Type 0
GathersBlock has rows bases before container offset (Ok (Some sectors)) read =
    (entries : List LogEntry) × (read ≡ Ok entries) × HasTaken has rows bases (before ++ entries)
GathersBlock has rows bases before container offset (Ok None) read = (read ≡ Err blocks.Closed) × HasTaken has rows bases before
GathersBlock has rows bases before container offset (Err NoBase) read = ⊥
GathersBlock has rows bases before container offset (Err (Damaged c o at)) read = (c ≡ container) × (o ≡ offset) × (read ≡ Err (blocks.BadByte at))
GathersBlock has rows bases before container offset (Err DiskFault) read = Unit {0}
GathersBlock has rows bases before container offset (Err NoMemory) read = Unit {0}

-- a place at which the blocks of a container can end
abbrev pub IsEnd : Shape → ℕ → Type 0
IsEnd shape end = (end % sector_bytes ≡ 0) × (end ≤ sector_bytes * shape.container_sectors)

-- The blocks of a container that were taken in, whatever the disk told: its records are those of the blocks, which end at a byte. Where the
-- contents of its file are told, they are its open blocks.
pub record TakesContainer (shape : Shape) (streams id : ℕ) (told : Type 0) (bytes : List ℕ) (has : List LogEntry → Type 0) (rows : List Row)
    (bases : List ℕ) (before : List LogEntry) (end : ℕ) : Type 0 where
  pub blocks : List (List ℕ)
  pub entries : List LogEntry
  pub lie : LieIn shape.container_sectors blocks
  pub records : stored_in shape streams id 0 blocks ≡ Ok entries
  pub ends : total blocks ≡ end
  pub stand : told → AreWhole shape.container_sectors bytes blocks
  pub taken : HasTaken has rows bases (before ++ entries)

-- The same for the containers in the files with these numbers, whose ids go on from the first.
pub record TakesListed (shape : Shape) (streams first : ℕ) (told : Type 0) (files : Files) (numbers : List ℕ) (has : List LogEntry → Type 0)
    (rows : List Row) (bases : List ℕ) (before : List LogEntry) (end : ℕ) : Type 0 where
  pub blocks : List (List (List ℕ))
  pub entries : List LogEntry
  pub listed : length blocks ≡ length numbers
  pub lie : All (LieIn shape.container_sectors) blocks
  pub records : stored_records shape streams first blocks ≡ Ok entries
  pub ends : stored_end blocks ≡ end
  pub stand : told → HaveBlocks shape.container_sectors files numbers blocks
  pub taken : HasTaken has rows bases (before ++ entries)
