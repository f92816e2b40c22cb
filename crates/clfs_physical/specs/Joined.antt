-- What the calls leave that are joined from several calls of the lower crates.
use Rattle.std.specs.Prelude.{◌≡◌, ℕ, ◌+◌, ◌%◌, ◌≤◌, List, ◌++◌, length}
use Rattle.clfs_disk.specs.Files.{Files}
use Rattle.clfs_container.specs.Writing.{IsBehind, HasBlocks, OthersStay}
use Rattle.clfs_base.specs.declared.image.BaseImage.{BaseImage}
use Rattle.clfs_base.specs.Spelling.{IsImage, spelled}
use Rattle.clfs_base.specs.Writing.{IsOlder}

-- Each file is as long as it was.
abbrev pub SameLengths : Files → Files → Type 0
SameLengths old new = (file : ℕ) → length (new file) ≡ length (old file)

-- The files up to this one are as they were, and none is shorter.
pub record GrownAbove (made : ℕ) (old new : Files) : Type 0 where
  pub same : (file : ℕ) → file ≤ made → new file ≡ old file
  pub longer : (file : ℕ) → length (old file) ≤ length (new file)

-- Of the old files one alone was changed, not in its length: it has the blocks of before and those of a group after them.
pub record HasGroup (sectors file : ℕ) (blocks more : List (List ℕ)) (left : ℕ) (old new : Files) : Type 0 where
  pub blocks_are : HasBlocks sectors file (blocks ++ more) left new
  pub others : OthersStay file old new
  pub lengths : SameLengths old new

-- Of the old files one alone was changed, not in its length: it has the blocks of before, and the closed gate after them.
pub record HasNone (sectors file : ℕ) (blocks : List (List ℕ)) (rest at : ℕ) (old new : Files) : Type 0 where
  pub behind : IsBehind sectors file blocks rest at new
  pub others : OthersStay file old new
  pub lengths : SameLengths old new

-- These bytes are a copy that follows the newest one, whose slot is beside this one.
pub record Follows (slot used : ℕ) (image next : BaseImage) (body : List ℕ) (files : Files) : Type 0 where
  pub older : IsOlder slot used image files
  pub next_image : IsImage next
  pub turn : next.turn ≡ (image.turn + 1) % 3
  pub spells : body ≡ spelled next
