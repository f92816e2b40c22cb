-- Which file the next container takes, and what a turn leaves.
use Rattle.std.specs.Prelude.{◌⊎◌, ◌==◌, Bool, ℕ, ◌+◌, ◌^◌, ◌<◌, ◌≤◌, if◌then◌else◌, List, [], length}
use Rattle.clfs_disk.specs.Files.{Files}
use Rattle.clfs_base.specs.declared.image.BaseImage.{BaseImage}
use Rattle.clfs_base.specs.Writing.{older_of}
use Rattle.clfs_physical.specs.declared.change.Change.TheVariants as changes
use Rattle.clfs_physical.specs.Changes.{with_next_turn, with_file, next_copy}
use Rattle.clfs_physical.specs.Stored.{Blocks, IsIn, Newest, Stores, with_blocks}

-- The least of the files that were made, from 1 to so many, that isn't among these.
pub record IsFree (made : ℕ) (files : List ℕ) (file : ℕ) : Type 0 where
  pub some : 1 ≤ file
  pub made_is : file ≤ made
  pub free : IsIn files file → ⊥
  pub least : (other : ℕ) → 1 ≤ other → other < file → IsIn files other

-- The least of the files that were made that the copy doesn't list.
abbrev pub IsNextFile : BaseImage → ℕ → Type 0
IsNextFile image file = IsFree image.files_made image.files file

-- A log has room for one more container: it has one that isn't listed, and there is an id for it.
pub record HasRoom (image : BaseImage) : Type 0 where
  pub few : length image.files + 1 ≤ image.containers
  pub id : image.first + length image.files < 2 ^ 32

-- The copy that lists no container below this one is the newest where there are such containers, else the newest is as before.
abbrev pub low_of : ℕ → Newest → Newest
low_of first now =
    if first == now.image.first then now else record { slot = older_of now.slot; image = next_copy first changes.Listing now.image }

-- The copy that lists one file more is the newest.
abbrev pub taken_of : ℕ → Newest → Newest
taken_of file now = record { slot = older_of now.slot; image = with_file file (with_next_turn now.image) }

-- While a log turns to its next container a crash leaves the log of before; or the copy lists no low containers; or the next container is
-- listed too, and has no open blocks. With `whole` all files that the copy counts have their full lengths besides.
abbrev pub InTurn : Bool → Newest → ℕ → ℕ → Blocks → Files → Type 0
InTurn whole now first file blocks files =
    Stores whole now blocks files
    ⊎ Stores whole (low_of first now) blocks files
    ⊎ Stores whole (taken_of file (low_of first now)) (with_blocks file [] blocks) files
