-- The sizes of records and blocks. A block is made of sectors, each of which has 504 bytes of payload; its payload is a
-- header of 16 bytes and then its records, each of which is a header of 32 bytes and its data.
use Rattle.std.specs.Prelude.{ℕ, ◌+◌, ◌-◌, ◌*◌, ◌/◌, ◌≤◌}
use Rattle.clfs_lsn.specs.Format.{sector_payload, block_header, record_header}
use Rattle.clfs_lsn.specs.Limits.{most_block_sectors, most_container_sectors}
use Rattle.clfs_lsn.specs.declared.shape.Shape.{Shape}

-- A block has 1 to 128 sectors at most, and a container two largest blocks at least and 16,384 sectors at most.
pub record IsShape (shape : Shape) : Type 0 where
  pub some_sectors : 1 ≤ shape.block_sectors
  pub largest_block : shape.block_sectors ≤ most_block_sectors
  pub two_blocks : 2 * shape.block_sectors ≤ shape.container_sectors
  pub largest_container : shape.container_sectors ≤ most_container_sectors

-- the bytes of a record with n bytes of data: its header, and the data filled up to a multiple of 8
abbrev pub size : ℕ → ℕ
size n = record_header + (n + 7) / 8 * 8

-- the sectors that so many bytes of payload take, the last of them perhaps in part
abbrev pub sectors : ℕ → ℕ
sectors used = (used + (sector_payload - 1)) / sector_payload

-- the sectors of a block that has one record with n bytes of data and no other
abbrev pub own : ℕ → ℕ
own n = sectors (block_header + size n)

-- the most bytes of data of a record: those that fill a largest block
abbrev pub longest : Shape → ℕ
longest shape = sector_payload * shape.block_sectors - (block_header + record_header)

-- the most bytes of data of a record of any log: those that fill a block of 128 sectors
abbrev pub most_data : ℕ
most_data = sector_payload * most_block_sectors - (block_header + record_header)
