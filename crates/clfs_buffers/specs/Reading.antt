-- What reading gives at an LSN: its record, or the byte of its block at which damage is told.
use Rattle.std.specs.Prelude.{◌≡◌, ◌⊎◌, ◌≤◌, ◌*◌, ℕ, List, length, slice_get, Result, Ok, Err}
use Rattle.std.specs.Option.{ok_or}
use Rattle.clfs_lsn.specs.Format.{sector_bytes}
use Rattle.clfs_lsn.specs.Lsn.{lsn_number, container_of, offset_of, sequence_of}
use Rattle.clfs_lsn.specs.declared.entry.LogEntry.{LogEntry}
use Rattle.clfs_lsn.specs.declared.shape.Shape.{Shape}
use Rattle.clfs_block.specs.Records.{◌>>=◌, told_as, block_records}
use Rattle.clfs_block.specs.declared.head.BlockRefusal.{BlockRefusal}
use Rattle.clfs_block.specs.declared.head.BlockRefusal.TheVariants as blocks
use Rattle.clfs_buffers.specs.declared.place.BlockPlace.{BlockPlace}
use Rattle.clfs_buffers.specs.declared.refusal.ReadRefusal.{ReadRefusal}
use Rattle.clfs_buffers.specs.declared.refusal.ReadRefusal.TheVariants.{DiskFault, Damaged, NoMemory}

-- where an LSN's block lies
abbrev pub block_place : ℕ → BlockPlace
block_place lsn = record { container = container_of lsn; offset = offset_of lsn }

-- the LSN of a block's first record
abbrev pub first_lsn : BlockPlace → ℕ
first_lsn place = lsn_number place.container place.offset 0

-- The byte at which a block that is refused is told: a closed gate at the gate. Where memory is wanting no byte is wrong, and none is told.
abbrev pub refused_at : BlockRefusal → ℕ
refused_at blocks.Closed = 0
refused_at (blocks.BadByte at) = at
refused_at blocks.NoMemory = 0

-- and the same as a refusal of a record
abbrev pub as_read : BlockRefusal → ReadRefusal
as_read blocks.Closed = Damaged 0
as_read (blocks.BadByte at) = Damaged at
as_read blocks.NoMemory = NoMemory

-- the record at an LSN's position among those of its block; that there are too few is told at the field of their number
abbrev pub record_in : ℕ → List LogEntry → Result LogEntry ℕ
record_in lsn records = ok_or (slice_get records (sequence_of lsn)) 4

-- the record at an LSN by the bytes of its container's file from its block's offset on, or the byte of the block at which damage is told
abbrev pub record_by : Shape → ℕ → ℕ → List ℕ → Result LogEntry ℕ
record_by shape streams lsn bytes = do
  records ← told_as refused_at (block_records shape streams (first_lsn (block_place lsn)) bytes)
  record_in lsn records

-- The answer is what reading gives. A fault of the disk, or out of memory, may come in place of any answer.
abbrev pub Gives : {A : Type 0} → Result A ReadRefusal → Result A ℕ → Type 0
Gives (Ok value) read = read ≡ Ok value
Gives (Err (Damaged at)) read = read ≡ Err at
Gives (Err DiskFault) read = Unit {0}
Gives (Err NoMemory) read = Unit {0}

-- Reading finds some bytes wrong at this byte, no more of them than a largest block has. That they are those that the disk gave can't be said of a
-- disk that doesn't tell what its files hold.
pub record IsWrongAt (shape : Shape) (streams lsn at : ℕ) : Type 0 where
  pub bytes : List ℕ
  pub few : length bytes ≤ sector_bytes * shape.block_sectors
  pub wrong : told_as refused_at (block_records shape streams lsn bytes) ≡ Err at

-- Damage of a block is told at such a byte.
abbrev pub TellsBlock : Shape → ℕ → ℕ → ReadRefusal → Type 0
TellsBlock shape streams lsn (Damaged at) = IsWrongAt shape streams lsn at
TellsBlock shape streams lsn DiskFault = Unit {0}
TellsBlock shape streams lsn NoMemory = Unit {0}

-- Damage at a record is told at such a byte of its block, or at the field of the number of records, where these are too few, be the block kept or
-- read now.
abbrev pub TellsByte : Shape → ℕ → ℕ → ReadRefusal → Type 0
TellsByte shape streams lsn (Damaged at) = TellsBlock shape streams (first_lsn (block_place lsn)) (Damaged at) ⊎ (at ≡ 4)
TellsByte shape streams lsn DiskFault = Unit {0}
TellsByte shape streams lsn NoMemory = Unit {0}
