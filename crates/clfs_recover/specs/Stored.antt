-- The log that files have by a base copy and lists of open blocks alone: what whoever writes blocks and copies keeps. All else in the files is free.
use Rattle.std.specs.Prelude.{◌≡◌, ℕ, ◌+◌, ◌-◌, ◌≤◌, List, [], ◌∷◌, ◌++◌, length, Result, Ok}
use Rattle.std.specs.List.{flat_map}
use Rattle.clfs_lsn.specs.Format.{open_gate}
use Rattle.clfs_lsn.specs.Limits.{most_block_records}
use Rattle.clfs_lsn.specs.Lsn.{lsn_number}
use Rattle.clfs_lsn.specs.Size.{sectors}
use Rattle.clfs_lsn.specs.Spelling.{FitsAt, record_bytes}
use Rattle.clfs_lsn.specs.declared.entry.LogEntry.{LogEntry}
use Rattle.clfs_lsn.specs.declared.place.Place.{Place}
use Rattle.clfs_lsn.specs.declared.shape.Shape.{Shape}
use Rattle.clfs_disk.specs.Files.{Files}
use Rattle.clfs_container.specs.OpenBlocks.{AreWhole, total}
use Rattle.clfs_block.specs.Frame.{used_bytes, SpellsBlock}
use Rattle.clfs_block.specs.Checks.{IsCount}
use Rattle.clfs_base.specs.declared.image.BaseImage.{BaseImage}
use Rattle.clfs_base.specs.Slots.{newest_of}
use Rattle.clfs_block.specs.Records.{◌>>=◌, told_as, block_records}
use Rattle.clfs_recover.specs.Walk.{damage_at, bases_with}
use Rattle.clfs_recover.specs.declared.parts.Parts.{Parts}
use Rattle.clfs_recover.specs.declared.refusal.LoadRefusal.{LoadRefusal}

-- Files with these numbers have these open blocks, each list of them ending cleanly.
abbrev pub HaveBlocks : ℕ → Files → List ℕ → List (List (List ℕ)) → Type 0
HaveBlocks sectors files [] [] = Unit {0}
HaveBlocks sectors files [] (blocks ∷ others) = ⊥
HaveBlocks sectors files (number ∷ numbers) [] = ⊥
HaveBlocks sectors files (number ∷ numbers) (blocks ∷ others) =
    AreWhole sectors (files number) blocks × HaveBlocks sectors files numbers others

-- Files have this newest base copy, and these open blocks in the containers that it lists.
pub record HasLog (slot : ℕ) (image : BaseImage) (blocks : List (List (List ℕ))) (files : Files) : Type 0 where
  pub newest : newest_of (files 0) ≡ Ok (slot, image)
  pub containers : HaveBlocks image.container_sectors files image.files blocks

-- the records of blocks one after the other, from an offset of their container on
abbrev pub stored_in : Shape → ℕ → ℕ → ℕ → List (List ℕ) → Result (List LogEntry) LoadRefusal
stored_in shape streams id offset [] = Ok []
stored_in shape streams id offset (block ∷ blocks) = do
  entries ← told_as (damage_at id offset) (block_records shape streams (lsn_number id offset 0) block)
  others ← stored_in shape streams id (offset + length block) blocks
  Ok (entries ++ others)

-- the records of the blocks of containers with ids from one on
abbrev pub stored_records : Shape → ℕ → ℕ → List (List (List ℕ)) → Result (List LogEntry) LoadRefusal
stored_records shape streams id [] = Ok []
stored_records shape streams id (blocks ∷ containers) = do
  entries ← stored_in shape streams id 0 blocks
  others ← stored_records shape streams (id + 1) containers
  Ok (entries ++ others)

-- the bytes of the blocks of the last of some containers
abbrev pub stored_end : List (List (List ℕ)) → ℕ
stored_end [] = 0
stored_end (blocks ∷ []) = total blocks
stored_end (blocks ∷ others ∷ containers) = stored_end (others ∷ containers)

-- where the log goes on
abbrev pub stored_place : BaseImage → List (List (List ℕ)) → Place
stored_place image blocks =
    record { container = image.first + length image.files - 1; offset = stored_end blocks; used = 0; records = 0 }

-- the parts of the log that has these records in these blocks
abbrev pub stored_parts : ℕ → BaseImage → List (List (List ℕ)) → List LogEntry → Parts
stored_parts slot image blocks entries =
    record { slot = slot; image = image; entries = entries; bases = bases_with image.streams entries; place = stored_place image blocks }

-- records that a log of so many streams can have at LSNs in a row, from one on
abbrev pub FitFrom : ℕ → ℕ → List LogEntry → Type 0
FitFrom lsn streams [] = Unit {0}
FitFrom lsn streams (entry ∷ entries) = FitsAt lsn streams entry × FitFrom (lsn + 1) streams entries

-- a block at this LSN that has these records, no more than a block may have, and no more sectors than its place allows
pub record HasRecords (shape : Shape) (streams start : ℕ) (entries : List LogEntry) (block : List ℕ) : Type 0 where
  pub some : 1 ≤ length entries
  pub few : length entries ≤ most_block_records
  pub fit : FitFrom start streams entries
  pub count : IsCount shape start (sectors (used_bytes (flat_map record_bytes entries)))
  pub spelled : SpellsBlock start open_gate (length entries) (flat_map record_bytes entries) block
