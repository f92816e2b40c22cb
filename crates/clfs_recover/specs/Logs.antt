-- A log as its newest base copy and the open blocks of the containers that this one lists: what its files come to, step by step, as blocks and
-- copies are written.
use Rattle.std.specs.Prelude.{◌≡◌, ◌≢◌, ℕ, ◌+◌, ◌-◌, ◌*◌, ◌<◌, ◌≤◌, true, List, [], ◌∷◌, ◌++◌, length, drop, map, filter, nat_le, All, slice_index, slice_set, Ok, None}
use Rattle.std.specs.List.{flat_map}
use Rattle.clfs_lsn.specs.Format.{sector_bytes}
use Rattle.clfs_lsn.specs.Lsn.{lsn_number, container_of}
use Rattle.clfs_lsn.specs.Place.{frontier}
use Rattle.clfs_lsn.specs.declared.entry.LogEntry.{LogEntry}
use Rattle.clfs_lsn.specs.declared.shape.Shape.{Shape}
use Rattle.clfs_disk.specs.Files.{Files}
use Rattle.clfs_container.specs.OpenBlocks.{AreWhole, total}
use Rattle.clfs_base.specs.declared.image.BaseImage.{BaseImage}
use Rattle.clfs_base.specs.Spelling.{row_in}
use Rattle.clfs_model.specs.declared.state.State.{State}
use Rattle.clfs_recover.specs.Walk.{shape_of, image_fault}
use Rattle.clfs_recover.specs.Files.{state_of}
use Rattle.clfs_recover.specs.Stored.{HasLog, HasRecords, stored_records, stored_place, stored_parts}
use Rattle.clfs_recover.specs.declared.parts.Parts.{Parts}

-- A copy and the open blocks of the containers that it lists are a log with these records: each container has room for its blocks, the records
-- are what is read of them, and the copy's bases and its tail fit.
pub record IsLogWith (image : BaseImage) (blocks : List (List (List ℕ))) (entries : List LogEntry) : Type 0 where
  pub within : All (λ (here : List (List ℕ)). total here ≤ sector_bytes * image.container_sectors) blocks
  pub read : stored_records (shape_of image) (length image.streams) image.first blocks ≡ Ok entries
  pub right : image_fault image (frontier (stored_place image blocks)) ≡ None

-- the state of that log, opened with so many write buffers, whichever slot the copy is in
abbrev pub stored_state : BaseImage → List (List (List ℕ)) → List LogEntry → ℕ → State
stored_state image blocks entries buffers = state_of (stored_parts 0 image blocks entries) buffers

-- Files in which opening finds these parts have these open blocks, each file's by its number, in the files that the copy lists; and these are
-- all that the parts come of.
pub record IsStoredIn (files : Files) (parts : Parts) (blocks : ℕ → List (List ℕ)) : Type 0 where
  pub log : HasLog parts.slot parts.image (map blocks parts.image.files) files
  pub whole : (i : ℕ) → i < length parts.image.files
      → AreWhole parts.image.container_sectors (files (slice_index parts.image.files i)) (blocks (slice_index parts.image.files i))
  pub with : IsLogWith parts.image (map blocks parts.image.files) parts.entries
  pub is : parts ≡ stored_parts parts.slot parts.image (map blocks parts.image.files) parts.entries

-- A copy fits records that end at an LSN: no base lies above it, and with archiving on the tail lies from the first listed container to it.
pub record FitsUpTo (image : BaseImage) (lsn : ℕ) : Type 0 where
  pub rows : (i : ℕ) → i < length image.streams → (row_in image.streams i).base ≤ lsn
  pub tail : image.archiving ≡ true → (image.tail ≤ lsn) × (image.first ≤ container_of image.tail)

-- Blocks one after the other, from an offset of their container on, have these groups of records, one each.
abbrev pub HaveRecords : Shape → ℕ → ℕ → ℕ → List (List LogEntry) → List (List ℕ) → Type 0
HaveRecords shape streams id offset [] [] = Unit {0}
HaveRecords shape streams id offset [] (block ∷ blocks) = ⊥
HaveRecords shape streams id offset (entries ∷ groups) [] = ⊥
HaveRecords shape streams id offset (entries ∷ groups) (block ∷ blocks) =
    HasRecords shape streams (lsn_number id offset 0) entries block × HaveRecords shape streams id (offset + length block) groups blocks

-- the number of the file in which the last listed container lies, where the log goes on
abbrev pub file_at_end : BaseImage → ℕ
file_at_end image = slice_index image.files (length image.files - 1)

-- Files have the blocks of before, and more after those of the last listed container.
pub record HaveMore (image : BaseImage) (more : List (List ℕ)) (old new : ℕ → List (List ℕ)) : Type 0 where
  pub last : new (file_at_end image) ≡ old (file_at_end image) ++ more
  pub others : (file : ℕ) → file ≢ file_at_end image → new file ≡ old file

-- Files have the blocks of before, and one that the copy doesn't list has none.
pub record HaveEmpty (image : BaseImage) (file : ℕ) (old new : ℕ → List (List ℕ)) : Type 0 where
  pub unlisted : (i : ℕ) → i < length image.files → slice_index image.files i ≢ file
  pub empty : new file ≡ []
  pub others : (other : ℕ) → other ≢ file → new other ≡ old other

-- the records of groups, one after the other
abbrev pub all_records : List (List LogEntry) → List LogEntry
all_records groups = flat_map (λ (entries : List LogEntry). entries) groups

-- a copy with another base in the row of the stream of this number
abbrev pub with_row_base : ℕ → ℕ → BaseImage → BaseImage
with_row_base stream base image =
    record image { streams = slice_set image.streams (stream - 1) (record (row_in image.streams (stream - 1)) { base = base }) }

-- a copy that lists no container below this one
abbrev pub from_container : ℕ → BaseImage → BaseImage
from_container first image = record image { first = first; files = drop (first - image.first) image.files }

-- the records from the first byte of a container on
abbrev pub records_from_container : ℕ → List LogEntry → List LogEntry
records_from_container first entries = filter (λ (entry : LogEntry). nat_le (lsn_number first 0 0) entry.lsn) entries
