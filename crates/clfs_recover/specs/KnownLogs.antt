-- What is known of a log that was opened, whatever the disk: each block was judged in memory before it counted, so that all of it is a log, also
-- where the disk doesn't tell what its files hold.
use Rattle.std.specs.Prelude.{◌≡◌, ℕ, ◌-◌, ◌≤◌, All, List, [], ◌∷◌, length, None, Ok}
use Rattle.clfs_lsn.specs.Place.{frontier}
use Rattle.clfs_disk.specs.State.{DiskState, TellsContents}
use Rattle.clfs_container.specs.OpenBlocks.{block_sectors, BeginsWith}
use Rattle.clfs_block.specs.Frame.{AreBytes}
use Rattle.clfs_base.specs.Spelling.{IsImage}
use Rattle.clfs_recover.specs.Walk.{shape_of, image_fault}
use Rattle.clfs_recover.specs.Files.{Finds}
use Rattle.clfs_recover.specs.Stored.{stored_records, stored_place, stored_parts}
use Rattle.clfs_recover.specs.declared.parts.Parts.{Parts}

-- Blocks that lie one after the other in so many sectors: each is bytes, begins with an open gate, and has just the sectors that it says.
abbrev pub LieIn : ℕ → List (List ℕ) → Type 0
LieIn left [] = Unit {0}
LieIn left (block ∷ blocks) = AreBytes block × BeginsWith left block block × LieIn (left - block_sectors block) blocks

-- Parts are those of a log: there are lists of blocks of which they are the parts.
pub record IsLogOf (parts : Parts) : Type 0 where
  pub blocks : List (List (List ℕ))
  -- one list for each listed container
  pub listed : length blocks ≡ length parts.image.files
  -- which lies in its container
  pub lie : All (LieIn parts.image.container_sectors) blocks
  -- the records are those of the blocks
  pub records : stored_records (shape_of parts.image) (length parts.image.streams) parts.image.first blocks ≡ Ok parts.entries
  -- and so are the bases and the place
  pub is : parts ≡ stored_parts parts.slot parts.image blocks parts.entries
  -- the base copy fits them
  pub fits : image_fault parts.image (frontier (stored_place parts.image blocks)) ≡ None
  -- and is one that a log can have
  pub image : IsImage parts.image
  -- in one of the two slots
  pub slot : parts.slot ≤ 1

-- Parts that were opened over a disk are those of a log; where the disk tells what its files hold, they are those that opening finds there.
pub record IsOpenedFrom (disk : DiskState) (parts : Parts) : Type 0 where
  pub log : IsLogOf parts
  pub found : TellsContents disk → Finds disk.files (Ok parts)
