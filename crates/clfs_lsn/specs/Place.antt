-- The place of a log: where its next record goes.
use Rattle.std.specs.Prelude.{◌≡◌, ℕ, ◌+◌, ◌-◌, ◌*◌, ◌/◌, ◌%◌, ◌≤◌, ◌⊎◌, Bool, ◌&&◌, nat_le, if◌then◌else◌}
use Rattle.clfs_lsn.specs.Format.{sector_bytes, sector_payload, block_header}
use Rattle.clfs_lsn.specs.Limits.{most_block_sectors, most_container_sectors, most_block_records}
use Rattle.clfs_lsn.specs.Lsn.{lsn_number}
use Rattle.clfs_lsn.specs.Size.{size, sectors, own}
use Rattle.clfs_lsn.specs.declared.place.Place.{Place}
use Rattle.clfs_lsn.specs.declared.shape.Shape.{Shape}

-- the sector after the open block; where none is open, the sector at which the next block begins
abbrev pub block_end : Place → ℕ
block_end place = place.offset / sector_bytes + sectors place.used

-- no block is open
abbrev pub IsClosed : Place → Type 0
IsClosed place = (place.used ≡ 0) × (place.records ≡ 0)

-- a block is open, with at least one record and no more records and sectors than a block may have
pub record IsOpen (shape : Shape) (place : Place) : Type 0 where
  pub some_records : 1 ≤ place.records
  pub few_records : place.records ≤ most_block_records
  pub some_sectors : 1 ≤ sectors place.used
  pub few_sectors : sectors place.used ≤ shape.block_sectors

-- a place within its container
pub record IsWithin (shape : Shape) (place : Place) : Type 0 where
  pub container : 1 ≤ place.container
  pub offset : place.offset % sector_bytes ≡ 0
  pub end : block_end place ≤ shape.container_sectors
  pub block : IsClosed place ⊎ IsOpen shape place

-- A record of n bytes joins the open block where that has 1 to 510 records, and with the record neither more sectors than
-- the largest block nor more than the container has from the block's start on.
abbrev pub joins : Shape → Place → ℕ → Bool
joins shape place n =
    nat_le 1 place.records && nat_le place.records (most_block_records - 1)
    && nat_le (sectors (place.used + size n)) shape.block_sectors
    && nat_le (sectors (place.used + size n)) (shape.container_sectors - place.offset / sector_bytes)

-- Else it begins a block after the open one, where the container has that many sectors left.
abbrev pub begins_here : Shape → Place → ℕ → Bool
begins_here shape place n = nat_le (own n) (shape.container_sectors - block_end place)

-- the place after the first record of a block, of n bytes, at this sector of this container
abbrev pub begun : ℕ → ℕ → ℕ → Place
begun container sector n = record { container = container; offset = sector_bytes * sector; used = block_header + size n; records = 1 }

-- the LSN of the next record, of n bytes, and the place after it; where it fits nowhere else it begins the next container
abbrev pub place_after : Shape → Place → ℕ → ℕ × Place
place_after shape place n =
    if joins shape place n
    then (lsn_number place.container place.offset place.records, record place { used = place.used + size n; records = place.records + 1 })
    else if begins_here shape place n
    then (lsn_number place.container (sector_bytes * block_end place) 0, begun place.container (block_end place) n)
    else (lsn_number (place.container + 1) 0 0, begun (place.container + 1) 0 n)

-- the place once its block takes no more records: the next block begins after it
abbrev pub sealed : Place → Place
sealed place = record place { offset = sector_bytes * block_end place; used = 0; records = 0 }

-- the LSN below which every record lies, and at or above which every later one
abbrev pub frontier : Place → ℕ
frontier place = lsn_number place.container place.offset place.records

-- a place whose numbers are none that a container can't have
pub record IsSmall (place : Place) : Type 0 where
  pub offset : place.offset % sector_bytes ≡ 0
  pub low : place.offset ≤ sector_bytes * most_container_sectors
  pub used : place.used ≤ sector_payload * most_block_sectors
  pub records : place.records ≤ most_block_records
