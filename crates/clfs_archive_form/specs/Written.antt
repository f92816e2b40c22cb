-- What the files of a restored log hold: its base copy, and in each listed container the blocks that are left.
use Rattle.std.specs.Prelude.{◌≡◌, ℕ, ◌+◌, ◌-◌, ◌<◌, ◌≤◌, min, List, length, map, Ok}
use Rattle.std.specs.List.{range_with_len}
use Rattle.clfs_lsn.specs.Lsn.{lsn_number, container_of}
use Rattle.clfs_lsn.specs.declared.entry.LogEntry.{LogEntry}
use Rattle.clfs_disk.specs.Files.{Files}
use Rattle.clfs_container.specs.OpenBlocks.{AreWhole, total}
use Rattle.clfs_base.specs.declared.image.BaseImage.{BaseImage}
use Rattle.clfs_base.specs.declared.image.Row.{Row}
use Rattle.clfs_base.specs.Layout.{version_two}
use Rattle.clfs_base.specs.Slots.{newest_of}
use Rattle.clfs_base.specs.Spelling.{IsImage}
use Rattle.clfs_recover.specs.Stored.{stored_in}
use Rattle.clfs_recover.specs.Walk.{shape_of}
use Rattle.clfs_archive_form.specs.declared.archive.Archive.{Archive}
use Rattle.clfs_archive_form.specs.Kept.{below, AreExact}
use Rattle.clfs_archive_form.specs.Restoring.{blocks_at}

-- how many containers are listed of a log that is restored up to an LSN
abbrev pub kept_count : BaseImage → ℕ → ℕ
kept_count image up_to = container_of up_to + 1 - image.first

-- the rows of a copy, with no base above an LSN
abbrev pub lowered_rows : ℕ → List Row → List Row
lowered_rows end rows = map (λ (row : Row). record row { base = min row.base end }) rows

-- The base copy of a log that is restored up to an LSN and ends at another: the first copy of its base file, which counts as many files as the log has
-- containers, and lists the containers in files 1, 2 and so on. Neither a base nor the tail lies above the end.
abbrev pub restored_copy : BaseImage → ℕ → ℕ → BaseImage
restored_copy image up_to end = record image {
  version = version_two.version;
  turn = 0;
  files_made = image.containers;
  tail = min image.tail end;
  files = range_with_len 1 (kept_count image up_to);
  streams = lowered_rows end image.streams;
}

-- The blocks of a container can be read of an archive in these bytes.
abbrev pub IsReadable : List ℕ → Archive → ℕ → Type 0
IsReadable bytes archive id =
    (entries : List LogEntry) × (stored_in (shape_of archive.image) (length archive.image.streams) id 0 (blocks_at bytes archive id) ≡ Ok entries)

-- The file of the listed container so many after the first holds those of its blocks that are left below an LSN, up to a byte, and no others.
pub record HoldsKept (bytes : List ℕ) (archive : Archive) (up_to : ℕ) (files : Files) (i end : ℕ) : Type 0 where
  pub blocks : List (List ℕ)
  pub read : (entries : List LogEntry)
      → stored_in (shape_of archive.image) (length archive.image.streams) (archive.image.first + i) 0 (blocks_at bytes archive (archive.image.first + i)) ≡ Ok entries
      → stored_in (shape_of archive.image) (length archive.image.streams) (archive.image.first + i) 0 blocks ≡ Ok (below up_to entries)
  pub exact : AreExact blocks
  pub whole : AreWhole archive.image.container_sectors (files (1 + i)) blocks
  pub ends : total blocks ≡ end

-- The files of a log that was restored of an archive in these bytes up to an LSN: the base copy, and the blocks of each container that it lists.
pub record AreRestored (bytes : List ℕ) (archive : Archive) (up_to : ℕ) (files : Files) : Type 0 where
  -- where the blocks of the last container end
  pub end : ℕ
  pub newest : newest_of (files 0) ≡ Ok (0, restored_copy archive.image up_to (lsn_number (container_of up_to) end 0))
  pub fronts : (i : ℕ) → archive.image.first + i < container_of up_to → (size : ℕ) × HoldsKept bytes archive up_to files i size
  pub last : HoldsKept bytes archive up_to files (container_of up_to - archive.image.first) end

-- What is known of an archive that a log can be restored of up to an LSN: its copy, that the LSN lies in a container that this lists, and that the blocks
-- of all listed containers can be read.
pub record CanBeRestored (bytes : List ℕ) (archive : Archive) (up_to : ℕ) : Type 0 where
  pub image : IsImage archive.image
  pub tail : archive.image.first ≤ container_of archive.image.tail
  pub low : archive.image.first ≤ container_of up_to
  pub high : container_of up_to < archive.image.first + length archive.image.files
  pub readable : (i : ℕ) → i < length archive.image.files → IsReadable bytes archive (archive.image.first + i)
