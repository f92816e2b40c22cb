-- What a log is on a disk: the newest copy in its base file, and the open blocks of the files that this copy lists.
use Rattle.std.specs.Prelude.{◌≡◌, ◌⊎◌, ◌==◌, Bool, true, ℕ, ◌-◌, ◌*◌, ◌/◌, ◌<◌, ◌≤◌, if◌then◌else◌, List, [], ◌++◌, length, slice_index, Ok}
use Rattle.clfs_lsn.specs.Format.{sector_bytes}
use Rattle.clfs_disk.specs.Files.{Files}
use Rattle.clfs_container.specs.OpenBlocks.{total, AreWhole}
use Rattle.clfs_container.specs.Writing.{IsGroup}
use Rattle.clfs_base.specs.declared.image.BaseImage.{BaseImage}
use Rattle.clfs_base.specs.Layout.{slot_bytes}
use Rattle.clfs_base.specs.Spelling.{IsImage}
use Rattle.clfs_base.specs.Slots.{newest_of}

-- The open blocks of each file by its number, one after the other.
abbrev pub Blocks : Type 0
Blocks = ℕ → List (List ℕ)

-- The number of a file stands in a list.
pub record IsIn (files : List ℕ) (file : ℕ) : Type 0 where
  pub place : ℕ
  pub within : place < length files
  pub is : slice_index files place ≡ file

-- The copy lists this file: a container of the log is in it.
abbrev pub Lists : BaseImage → ℕ → Type 0
Lists image file = IsIn image.files file

-- All files that the copy counts have their full lengths: the base file, and each file that was made.
pub record AreMade (image : BaseImage) (files : Files) : Type 0 where
  pub base : 2 * slot_bytes ≤ length (files 0)
  pub made : (file : ℕ) → 1 ≤ file → file ≤ image.files_made → sector_bytes * image.container_sectors ≤ length (files file)

-- The files have what the copy says: in each listed file these open blocks, whose list ends cleanly. With `whole` all files that it
-- counts have their full lengths besides; without it nothing is said of lengths.
pub record Holds (whole : Bool) (image : BaseImage) (blocks : Blocks) (files : Files) : Type 0 where
  pub made : whole ≡ true → AreMade image files
  pub opens : (file : ℕ) → Lists image file → AreWhole image.container_sectors (files file) (blocks file)

-- The files are a log: this is the newest copy, in this slot, and the listed files have these open blocks. With `whole` all files that
-- the copy counts have their full lengths besides.
pub record IsLog (whole : Bool) (slot : ℕ) (image : BaseImage) (blocks : Blocks) (files : Files) : Type 0 where
  pub newest : newest_of (files 0) ≡ Ok (slot, image)
  pub holds : Holds whole image blocks files

-- The same with these open blocks in one file.
abbrev pub with_blocks : ℕ → List (List ℕ) → Blocks → Blocks
with_blocks file here blocks = λ other. if other == file then here else blocks other

-- The newest copy of a log, and the slot that it is in.
pub record Newest : Type 0 where
  pub slot : ℕ
  pub image : BaseImage

-- The files are a log whose newest copy this is, and the listed files have these open blocks. With `whole` all files that the copy
-- counts have their full lengths besides: a log that was opened may lie in shorter ones.
abbrev pub Stores : Bool → Newest → Blocks → Files → Type 0
Stores whole newest blocks files = IsLog whole newest.slot newest.image blocks files

-- the file of the last listed container, in which the log goes on
abbrev pub last_file : BaseImage → ℕ
last_file image = slice_index image.files (length image.files - 1)

-- After the open blocks of the last container, which end at this place, these bytes begin with the blocks of a group: all of them but
-- the gate of the first.
pub record IsPlaced (image : BaseImage) (blocks : Blocks) (at : ℕ) (body : List ℕ) (more : List (List ℕ)) : Type 0 where
  pub place : total (blocks (last_file image)) ≡ at
  pub left : ℕ
  pub group : IsGroup (image.container_sectors - at / sector_bytes) body more left

-- What waits to be written: nothing, or a group of blocks.
abbrev pub Waits : BaseImage → Blocks → ℕ → List ℕ → List (List ℕ) → Type 0
Waits image blocks at body more = ((body ≡ []) × (more ≡ [])) ⊎ IsPlaced image blocks at body more

-- The open blocks with a group after those of the last container.
abbrev pub with_group : BaseImage → List (List ℕ) → Blocks → Blocks
with_group image more blocks = with_blocks (last_file image) (blocks (last_file image) ++ more) blocks

-- What is true of a newest copy in memory: it is one that a log can have, in one of the two slots, and the bytes of the next one have room.
pub record IsKept (slot : ℕ) (image : BaseImage) (room : ℕ) : Type 0 where
  pub slot_is : slot ≤ 1
  pub image_is : IsImage image
  pub room_is : room ≡ slot_bytes - 1
