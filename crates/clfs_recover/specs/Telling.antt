-- Of which bytes damage is told when a log is opened, whatever the disk. That they are those that the disk gave can't be said of a disk that doesn't
-- tell what its files hold.
use Rattle.std.specs.Prelude.{◌≡◌, ◌⊎◌, ℕ, ◌+◌, ◌*◌, ◌%◌, ◌<◌, ◌≤◌, List, length, Some, Result, Ok, Err}
use Rattle.clfs_lsn.specs.Format.{sector_bytes}
use Rattle.clfs_lsn.specs.Lsn.{lsn_number}
use Rattle.clfs_lsn.specs.Place.{frontier}
use Rattle.clfs_lsn.specs.declared.place.Place.{Place}
use Rattle.clfs_lsn.specs.declared.shape.Shape.{Shape}
use Rattle.clfs_base.specs.declared.image.BaseImage.{BaseImage}
use Rattle.clfs_base.specs.declared.refusal.NewestRefusal.{NewestRefusal}
use Rattle.clfs_base.specs.Reading.{IsReadCopy}
use Rattle.clfs_block.specs.Records.{block_records}
use Rattle.clfs_block.specs.declared.head.BlockRefusal.TheVariants as blocks
use Rattle.clfs_recover.specs.Walk.{shape_of, slot_offset, image_fault}
use Rattle.clfs_recover.specs.Files.{without_copy}
use Rattle.clfs_recover.specs.declared.refusal.LoadRefusal.{LoadRefusal}
use Rattle.clfs_recover.specs.declared.refusal.LoadRefusal.TheVariants.{NoBase, Damaged, DiskFault, NoMemory}

-- At a sector of a container some bytes are no block of that place, and this is the first wrong one. They are no more than a largest block has.
pub record IsWrongBlock (shape : Shape) (streams container offset at : ℕ) : Type 0 where
  pub whole : offset % sector_bytes ≡ 0
  pub within : offset < sector_bytes * shape.container_sectors
  pub bytes : List ℕ
  pub few : length bytes ≤ sector_bytes * shape.block_sectors
  pub wrong : block_records shape streams (lsn_number container offset 0) bytes ≡ Err (blocks.BadByte at)

-- Damage is told at such a byte, in one of so many containers from the first on.
abbrev pub TellsBlock : Shape → ℕ → ℕ → ℕ → LoadRefusal → Type 0
TellsBlock shape streams first count NoBase = ⊥
TellsBlock shape streams first count (Damaged container offset at) =
    (first ≤ container) × (container < first + count) × IsWrongBlock shape streams container offset at
TellsBlock shape streams first count DiskFault = Unit {0}
TellsBlock shape streams first count NoMemory = Unit {0}

-- A base copy doesn't fit a log that ends at a place of the last container that it lists, and this is its first wrong byte.
pub record IsWrongCopy (slot : ℕ) (image : BaseImage) (refusal : LoadRefusal) : Type 0 where
  pub place : Place
  pub last : place.container + 1 ≡ image.first + length image.files
  pub at : ℕ
  pub wrong : image_fault image (frontier place) ≡ Some at
  pub told : refusal ≡ Damaged 0 (slot_offset slot) at

-- Damage after a base copy is told of a block of a container that it lists, or of the copy.
abbrev pub TellsBehind : ℕ → BaseImage → LoadRefusal → Type 0
TellsBehind slot image refusal =
    TellsBlock (shape_of image) (length image.streams) image.first (length image.files) refusal ⊎ IsWrongCopy slot image refusal

-- why a log isn't opened, by the newest base copy or by why there is none
abbrev pub TellsBy : LoadRefusal → Result (ℕ × BaseImage) NewestRefusal → Type 0
TellsBy refusal (Ok (slot, image)) = TellsBehind slot image refusal
TellsBy refusal (Err reason) = refusal ≡ without_copy reason

-- Why a log isn't opened is told by a base copy that some bytes spell, or by bytes that spell none, and by those of a block.
pub record TellsOpening (refusal : LoadRefusal) : Type 0 where
  pub newest : Result (ℕ × BaseImage) NewestRefusal
  pub copy : IsReadCopy newest
  pub told : TellsBy refusal newest
