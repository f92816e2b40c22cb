-- The walk of opening over the open blocks of the listed containers: the records that it meets, or the first damage.
use Rattle.std.specs.Prelude.{ℕ, ◌+◌, ◌-◌, ◌/◌, max, Bool, ◌&&◌, ◌||◌, ◌==◌, nat_lt, nat_le, if◌then◌else◌, List, [], ◌∷◌, ◌++◌, length, drop, map, filter, fold, position, Option, Result, Ok, Err}
use Rattle.std.specs.List.{range_with_len}
use Rattle.std.specs.Option.{option_map, option_or}
use Rattle.clfs_lsn.specs.Format.{sector_bytes}
use Rattle.clfs_lsn.specs.Lsn.{lsn_number, container_of}
use Rattle.clfs_lsn.specs.Place.{frontier}
use Rattle.clfs_lsn.specs.Checks.{unless_wrong}
use Rattle.clfs_lsn.specs.declared.entry.LogEntry.{LogEntry}
use Rattle.clfs_lsn.specs.declared.place.Place.{Place}
use Rattle.clfs_lsn.specs.declared.shape.Shape.{Shape}
use Rattle.clfs_container.specs.OpenBlocks.{total}
use Rattle.clfs_block.specs.Checks.{frame_at}
use Rattle.clfs_block.specs.declared.head.BlockHead.{BlockHead}
use Rattle.clfs_block.specs.declared.head.BlockRefusal.{BlockRefusal}
use Rattle.clfs_block.specs.declared.head.BlockRefusal.TheVariants as blocks
use Rattle.clfs_base.specs.declared.image.BaseImage.{BaseImage}
use Rattle.clfs_base.specs.declared.image.Row.{Row}
use Rattle.clfs_base.specs.Layout.{slot_bytes, layout_of, row_place}
use Rattle.clfs_base.specs.Spelling.{row_in}
use Rattle.clfs_base.specs.Checks.{told}
use Rattle.clfs_block.specs.Records.{◌>>=◌, told_as, block_records}
use Rattle.clfs_recover.specs.declared.parts.Parts.{Parts}
use Rattle.clfs_recover.specs.declared.refusal.LoadRefusal.{LoadRefusal}
use Rattle.clfs_recover.specs.declared.refusal.LoadRefusal.TheVariants.{Damaged, NoMemory}

-- a listed container: the bytes of its file, and the open blocks in them
pub record Container : Type 0 where
  pub bytes : List ℕ
  pub blocks : List (List ℕ)

-- Damage of a block at its place. The gate of an open block is no damage, and no memory is wanting where nothing is made.
abbrev pub damage_at : ℕ → ℕ → BlockRefusal → LoadRefusal
damage_at container offset (blocks.BadByte at) = Damaged container offset at
damage_at container offset blocks.Closed = Damaged container offset 0
damage_at container offset blocks.NoMemory = NoMemory

-- A block that was to begin after the open ones: a closed gate ends them, and what else is refused there is damage.
abbrev pub end_at : ℕ → ℕ → Result BlockHead BlockRefusal → Result (List LogEntry) LoadRefusal
end_at container offset (Ok head) = Ok []
end_at container offset (Err blocks.Closed) = Ok []
end_at container offset (Err (blocks.BadByte at)) = Err (Damaged container offset at)
end_at container offset (Err blocks.NoMemory) = Err NoMemory

-- the end of a container's open blocks at an offset: nothing is judged where no sector is left
abbrev pub blocks_end : Shape → ℕ → List ℕ → ℕ → Result (List LogEntry) LoadRefusal
blocks_end shape container behind offset =
    if nat_le shape.container_sectors (offset / sector_bytes) then Ok [] else end_at container offset (frame_at shape (lsn_number container offset 0) behind)

-- the records of open blocks one after the other, from an offset of their container on, up to what stands after them all
abbrev pub blocks_records : Shape → ℕ → ℕ → List ℕ → ℕ → List (List ℕ) → Result (List LogEntry) LoadRefusal
blocks_records shape streams container behind offset [] = blocks_end shape container behind offset
blocks_records shape streams container behind offset (block ∷ blocks) = do
  entries ← told_as (damage_at container offset) (block_records shape streams (lsn_number container offset 0) block)
  others ← blocks_records shape streams container behind (offset + length block) blocks
  Ok (entries ++ others)

-- the records of a container by its open blocks
abbrev pub container_records : Shape → ℕ → ℕ → Container → Result (List LogEntry) LoadRefusal
container_records shape streams id container = blocks_records shape streams id (drop (total container.blocks) container.bytes) 0 container.blocks

-- the records of containers with ids from one on
abbrev pub listed_records : Shape → ℕ → ℕ → List Container → Result (List LogEntry) LoadRefusal
listed_records shape streams id [] = Ok []
listed_records shape streams id (container ∷ containers) = do
  entries ← container_records shape streams id container
  others ← listed_records shape streams (id + 1) containers
  Ok (entries ++ others)

-- how large the blocks and the containers of a log are
abbrev pub shape_of : BaseImage → Shape
shape_of image = record { block_sectors = image.block_sectors; container_sectors = image.container_sectors }

-- the bytes of the open blocks in the last of some containers
abbrev pub last_end : List Container → ℕ
last_end [] = 0
last_end (container ∷ []) = total container.blocks
last_end (container ∷ other ∷ containers) = last_end (other ∷ containers)

-- The log goes on after the last open block of the last listed container. Nothing is open there.
abbrev pub place_behind : BaseImage → List Container → Place
place_behind image listed =
    record { container = image.first + length image.files - 1; offset = last_end listed; used = 0; records = 0 }

-- The base of the stream so many after the first: the greatest of that in its row and of the new bases in its restart areas. A plain record has
-- none, which is null.
abbrev pub base_with : List Row → List LogEntry → ℕ → ℕ
base_with rows entries i =
    fold max (row_in rows i).base (map (λ (entry : LogEntry). entry.new_base) (filter (λ (entry : LogEntry). entry.stream == i + 1) entries))

-- the bases of all streams
abbrev pub bases_with : List Row → List LogEntry → List ℕ
bases_with rows entries = map (base_with rows entries) (range_with_len 0 (length rows))

-- The first base of a row that lies above the log's last record, told at the row's base in a slot of the copy's version. No record goes there
-- any more.
abbrev pub high_row : ℕ → List Row → ℕ → Option ℕ
high_row version rows frontier = option_map (λ i. row_place (layout_of version) i + 8) (position (λ (row : Row). nat_lt frontier row.base) rows)

-- With archiving on, the tail lies above the log's last record, or in a container below the listed ones.
abbrev pub is_wrong_tail : BaseImage → ℕ → Bool
is_wrong_tail image frontier = image.archiving && (nat_lt frontier image.tail || nat_lt (container_of image.tail) image.first)

-- what of a base copy is wrong by the records: a base, or else the tail
abbrev pub image_fault : BaseImage → ℕ → Option ℕ
image_fault image frontier = option_or (high_row image.version image.streams frontier) (told (is_wrong_tail image frontier) 32)

-- what is opened with the slot of a base copy, the copy, the listed containers and their records
abbrev pub parts_with : ℕ → BaseImage → List Container → List LogEntry → Parts
parts_with slot image listed entries =
    record { slot = slot; image = image; entries = entries; bases = bases_with image.streams entries; place = place_behind image listed }

-- a slot's first byte in the base file
abbrev pub slot_offset : ℕ → ℕ
slot_offset slot = if slot == 0 then 0 else slot_bytes

-- What the walk finds: the records of all listed containers, and then whether the base copy fits them.
abbrev pub walked : ℕ → BaseImage → List Container → Result Parts LoadRefusal
walked slot image listed = do
  entries ← listed_records (shape_of image) (length image.streams) image.first listed
  unless_wrong (λ at. Damaged 0 (slot_offset slot) at) (image_fault image (frontier (place_behind image listed))) (Ok (parts_with slot image listed entries))
