-- What a dump tells of the bytes of a log: the lines of what is right up to the first wrong byte, and how going through it ends.
use Rattle.std.specs.Prelude.{ℕ, zero, suc, ◌+◌, ◌-◌, ◌*◌, nat_le, if◌then◌else◌, List, [], ◌∷◌, ◌++◌, length, drop, Option, Some, None, Result, Ok, Err}
use Rattle.std.specs.List.{flat_map}
use Rattle.clfs_lsn.specs.Checks.{unless_wrong}
use Rattle.clfs_lsn.specs.Format.{sector_bytes, block_header}
use Rattle.clfs_lsn.specs.Lsn.{lsn_number}
use Rattle.clfs_lsn.specs.Place.{frontier}
use Rattle.clfs_lsn.specs.Spelling.{record_at}
use Rattle.clfs_lsn.specs.declared.entry.LogEntry.{LogEntry}
use Rattle.clfs_lsn.specs.declared.place.Place.{Place}
use Rattle.clfs_lsn.specs.declared.shape.Shape.{Shape}
use Rattle.clfs_disk.specs.Files.{Files}
use Rattle.clfs_block.specs.Frame.{payload_of}
use Rattle.clfs_block.specs.Checks.{frame_at}
use Rattle.clfs_block.specs.Records.{block_records}
use Rattle.clfs_block.specs.declared.head.BlockHead.{BlockHead}
use Rattle.clfs_block.specs.declared.head.BlockRefusal.{BlockRefusal}
use Rattle.clfs_block.specs.declared.head.BlockRefusal.TheVariants as blocks
use Rattle.clfs_base.specs.Slots.{newest_of}
use Rattle.clfs_base.specs.declared.image.BaseImage.{BaseImage}
use Rattle.clfs_base.specs.declared.image.Row.{Row}
use Rattle.clfs_base.specs.declared.refusal.NewestRefusal.{NewestRefusal}
use Rattle.clfs_recover.specs.Files.{without_copy}
use Rattle.clfs_recover.specs.Walk.{shape_of, slot_offset, damage_at, image_fault}
use Rattle.clfs_recover.specs.declared.refusal.LoadRefusal.{LoadRefusal}
use Rattle.clfs_recover.specs.declared.refusal.LoadRefusal.TheVariants.{Damaged}
use Rattle.clfs_dump.specs.Lines.{log_line, stream_lines, container_line, block_line, record_line, end_line, damage_line}
use Rattle.clfs_dump.specs.Selecting.{is_chosen, meets_range}
use Rattle.clfs_dump.specs.declared.selection.Selection.{Selection}

-- What is told of a part of a log: its lines, the records that it has up to the first wrong byte, printed or not, and what was found at its end.
pub record Told (T : Type 0) : Type 0 where
  pub text : List ℕ
  pub records : List LogEntry
  pub found : Result T LoadRefusal

-- nothing to tell
abbrev pub only : {T : Type 0} → Result T LoadRefusal → Told T
only found = record { text = []; records = []; found = found }

-- a part after lines
abbrev pub behind_lines : {T : Type 0} → List ℕ → Told T → Told T
behind_lines lines told = record { text = lines ++ told.text; records = told.records; found = told.found }

-- a part, and after it what comes there if its end was found; a refusal ends it all
abbrev pub followed_by : {S T : Type 0} → List ℕ → List LogEntry → Result S LoadRefusal → (S → Told T) → Told T
followed_by text records (Ok value) next =
    record { text = text ++ (next value).text; records = records ++ (next value).records; found = (next value).found }
followed_by text records (Err refusal) next = record { text = text; records = records; found = Err refusal }

-- what is told first, and then what is told by what was found
abbrev pub then_told : {S T : Type 0} → Told S → (S → Told T) → Told T
then_told told next = followed_by told.text told.records told.found next

-- ---- a block

-- a record, and those after it, if it is right
abbrev pub met_with : (ℕ → List LogEntry) → Result (LogEntry × ℕ) ℕ → List LogEntry
met_with next (Ok (entry, size)) = entry ∷ next size
met_with next (Err at) = []

-- Of so many records from a byte of a block's used payload on, the first of them at this LSN, those up to the first that is wrong.
abbrev pub records_met : ℕ → List ℕ → ℕ → ℕ → ℕ → List LogEntry
records_met streams payload zero lsn p = []
records_met streams payload (suc count) lsn p =
    met_with (λ size. records_met streams payload count (lsn + 1) (p + size)) (record_at lsn streams (drop p payload))

-- the line of a record, if it is asked for
abbrev pub record_text : Selection → List Row → LogEntry → List ℕ
record_text selection rows entry = if is_chosen selection rows entry.lsn entry.stream then record_line selection.form entry else []

-- the line of a block, if a record of it can be asked for
abbrev pub block_text : Selection → ℕ → BlockHead → List ℕ
block_text selection start head = if meets_range selection start head.records then block_line start head else []

-- How a block at its place ends: after its sectors, without one at a closed gate, or at its first wrong byte.
abbrev pub block_end : ℕ → ℕ → ℕ → Result (List LogEntry) BlockRefusal → Result (Option ℕ) LoadRefusal
block_end container offset sectors (Ok entries) = Ok (Some sectors)
block_end container offset sectors (Err blocks.Closed) = Ok None
block_end container offset sectors (Err (blocks.BadByte at)) = Err (Damaged container offset at)
block_end container offset sectors (Err blocks.NoMemory) = Err (damage_at container offset blocks.NoMemory)

-- the block at its place in these bytes, by its frame: where this is right its line, and those of its records up to the first wrong one
abbrev pub framed_told : Selection → List Row → Shape → ℕ → ℕ → List ℕ → Result BlockHead BlockRefusal → Told (Option ℕ)
framed_told selection rows shape container offset bytes (Ok head) =
    let start = lsn_number container offset 0 in
    let met = records_met (length rows) (payload_of head.used bytes) head.records start block_header in record {
      text = block_text selection start head ++ flat_map (record_text selection rows) met;
      records = met;
      found = block_end container offset head.sectors (block_records shape (length rows) start bytes);
    }
framed_told selection rows shape container offset bytes (Err refusal) = only (block_end container offset 0 (Err refusal))

-- the block at an offset of a container, at the front of these bytes
abbrev pub block_told : Selection → List Row → Shape → ℕ → ℕ → List ℕ → Told (Option ℕ)
block_told selection rows shape container offset bytes =
    framed_told selection rows shape container offset bytes (frame_at shape (lsn_number container offset 0) bytes)

-- ---- a container

-- what comes after the place of a block: the next block, or the end of the blocks at a closed gate
abbrev pub behind_block : (ℕ → Told ℕ) → ℕ → Option ℕ → Told ℕ
behind_block next offset (Some sectors) = next (offset + sector_bytes * sectors)
behind_block next offset None = only (Ok offset)

-- The blocks of a container from an offset on, at most so many, and where they end: nothing is read where its last sector ends. A container has no
-- more blocks than sectors.
abbrev pub blocks_told : Selection → List Row → Shape → ℕ → List ℕ → ℕ → ℕ → Told ℕ
blocks_told selection rows shape container file zero offset = only (Ok offset)
blocks_told selection rows shape container file (suc n) offset =
    if nat_le (sector_bytes * shape.container_sectors) offset then only (Ok offset)
    else then_told (block_told selection rows shape container offset (drop offset file))
    (behind_block (λ behind. blocks_told selection rows shape container file n behind) offset)

-- a container in the file of this number
abbrev pub container_told : Selection → List Row → Shape → Files → ℕ → ℕ → Told ℕ
container_told selection rows shape files id number =
    behind_lines (container_line id number) (blocks_told selection rows shape id (files number) shape.container_sectors 0)

-- ---- a log

-- containers with ids from one on in the files with these numbers, after one that ends at this offset
abbrev pub listed_told : Selection → List Row → Shape → Files → ℕ → ℕ → List ℕ → Told ℕ
listed_told selection rows shape files id end [] = only (Ok end)
listed_told selection rows shape files id end (number ∷ numbers) =
    then_told (container_told selection rows shape files id number)
    (λ stop. listed_told selection rows shape files (id + 1) stop numbers)

-- the place at which a log goes on whose last container's blocks end at this offset
abbrev pub place_at : BaseImage → ℕ → Place
place_at image end = record { container = image.first + length image.files - 1; offset = end; used = 0; records = 0 }

-- where a log goes on, if its base copy fits that
abbrev pub log_end : ℕ → BaseImage → ℕ → Result ℕ LoadRefusal
log_end slot image lsn = unless_wrong (λ at. Damaged 0 (slot_offset slot) at) (image_fault image lsn) (Ok lsn)

-- what is told by a base copy in a slot: its own lines, and the containers that it lists
abbrev pub image_told : Selection → Files → ℕ → BaseImage → Told ℕ
image_told selection files slot image =
    behind_lines (log_line slot image ++ stream_lines 1 image.streams)
    (then_told (listed_told selection image.streams (shape_of image) files image.first 0 image.files)
    (λ end. only (log_end slot image (frontier (place_at image end)))))

-- the same by the newest copy, if there is one
abbrev pub copy_told : Selection → Files → Result (ℕ × BaseImage) NewestRefusal → Told ℕ
copy_told selection files (Ok (slot, image)) = image_told selection files slot image
copy_told selection files (Err refusal) = only (Err (without_copy refusal))

-- What is told of files, and the LSN at which their log goes on.
abbrev pub files_told : Selection → Files → Told ℕ
files_told selection files = copy_told selection files (newest_of (files 0))

-- the last line: where the log goes on, or the first wrong byte; without a base copy there is none
abbrev pub last_line : Result ℕ LoadRefusal → List ℕ
last_line (Ok lsn) = end_line lsn
last_line (Err (Damaged container offset at)) = damage_line container offset at
last_line (Err refusal) = []

-- The text of files.
abbrev pub dump_text : Selection → Files → List ℕ
dump_text selection files = let told = files_told selection files in told.text ++ last_line told.found
