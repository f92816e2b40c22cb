-- Where each field of a base copy stands in its slot, and which numbers it may have. A slot has 16,384 bytes: its gate, the
-- fields of this table and zeros, the numbers of the listed containers' files and zeros, the rows of the streams and zeros.
use Rattle.std.specs.Prelude.{◌==◌, ℕ, ◌+◌, ◌-◌, ◌*◌, ◌^◌, min, true, false, ◌&&◌, nat_le, if◌then◌else◌, List, [], ◌∷◌, drop}
use Rattle.byteorder.specs.Endian.{little_number}
use Rattle.clfs_lsn.specs.Limits.{most_block_sectors, most_container_sectors, most_containers, fewest_containers, greatest_rate, most_streams, longest_name}
use Rattle.clfs_base.specs.declared.layout.Layout.{Layout}
use Rattle.clfs_base.specs.declared.layout.Numbers.{Numbers}
use Rattle.clfs_base.specs.declared.layout.Field.{Field}

-- the first version, which is only read
abbrev pub version_one : Layout
version_one = record { version = 1; most_streams = 128; longest_name = 32; has_dedicated = false }

-- the second version, in which every copy is written
abbrev pub version_two : Layout
version_two = record { version = 2; most_streams = most_streams; longest_name = longest_name; has_dedicated = true }

-- The layout of the copies of a version. Any number but 1 is judged as the second version, whose first field it then fails.
abbrev pub layout_of : ℕ → Layout
layout_of version = if version == 1 then version_one else version_two

-- the bytes of a slot
abbrev pub slot_bytes : ℕ
slot_bytes = 16384

-- the first byte after the fields
abbrev pub fields_end : ℕ
fields_end = 41

-- the first byte of the listed containers' file numbers
abbrev pub files_at : ℕ
files_at = 64

-- the first byte of the rows of the streams
abbrev pub rows_at : ℕ
rows_at = 576

-- the place of the file number of the listed container so many after the first
abbrev pub file_place : ℕ → ℕ
file_place i = files_at + 2 * i

-- a row is the length of its name, seven zeros, the base in eight bytes, and the name filled up with zeros
abbrev pub row_bytes : Layout → ℕ
row_bytes layout = 16 + layout.longest_name

-- the place of the row so many after the first
abbrev pub row_place : Layout → ℕ → ℕ
row_place layout i = rows_at + row_bytes layout * i

-- The number that stands at a place in so many bytes. A byte that isn't there counts as 0 in it.
abbrev pub number_at : ℕ → ℕ → List ℕ → ℕ
number_at at width bytes = little_number width (drop at bytes)

-- the numbers in the fields of a slot
abbrev pub numbers_of : List ℕ → Numbers
numbers_of bytes = record {
  version = number_at 1 1 bytes;
  turn = number_at 2 1 bytes;
  zero = number_at 3 1 bytes;
  block_sectors = number_at 4 4 bytes;
  container_sectors = number_at 8 4 bytes;
  containers = number_at 12 2 bytes;
  files_made = number_at 14 2 bytes;
  first = number_at 16 4 bytes;
  listed = number_at 20 2 bytes;
  streams = number_at 22 2 bytes;
  archiving = number_at 24 1 bytes;
  automatic = number_at 25 1 bytes;
  maximum = number_at 26 2 bytes;
  minimum = number_at 28 2 bytes;
  growth = number_at 30 2 bytes;
  tail = number_at 32 8 bytes;
  dedicated = number_at 40 1 bytes;
}

-- the layout of a slot's bytes, by their version
abbrev pub layout_in : List ℕ → Layout
layout_in bytes = layout_of (number_at 1 1 bytes)

-- a field that has a number from the least to the most
abbrev pub required : ℕ → ℕ → ℕ → ℕ → ℕ → Field
required at width number least most = record { at = at; width = width; number = number; least = least; most = most; may_be_zero = false }

-- a field that may be 0 besides, where what it says isn't there
abbrev pub optional : ℕ → ℕ → ℕ → ℕ → ℕ → Field
optional at width number least most = record (required at width number least most) { may_be_zero = true }

-- The containers that may be listed: no more than the log has, and none with an id above the greatest.
abbrev pub most_listed : ℕ → ℕ → ℕ
most_listed containers first = min containers (2 ^ 32 - first)

-- The greatest minimum: an installed maximum, else the most containers that a log may have.
abbrev pub most_minimum : ℕ → ℕ
most_minimum maximum = if maximum == 0 then most_containers else maximum

-- The greatest tail: none where archiving is off.
abbrev pub most_tail : ℕ → ℕ
most_tail archiving = if archiving == 0 then 0 else 2 ^ 64 - 1

-- 1 where a log may be dedicated and has no more than one stream, else 0.
abbrev pub most_dedicated : Layout → ℕ → ℕ
most_dedicated layout streams = if layout.has_dedicated && nat_le streams 1 then 1 else 0

-- The table: each field's place and width, the number that is in it, and the least and the greatest that it may have.
abbrev pub fields : Layout → Numbers → List Field
fields layout n =
    required 1 1 n.version layout.version layout.version
    ∷ required 2 1 n.turn 0 2
    ∷ required 3 1 n.zero 0 0
    ∷ required 4 4 n.block_sectors 1 most_block_sectors
    ∷ required 8 4 n.container_sectors (2 * n.block_sectors) most_container_sectors
    ∷ required 12 2 n.containers 1 most_containers
    ∷ required 14 2 n.files_made n.containers most_containers
    ∷ required 16 4 n.first 1 (2 ^ 32 - 1)
    ∷ required 20 2 n.listed 1 (most_listed n.containers n.first)
    ∷ required 22 2 n.streams 0 layout.most_streams
    ∷ required 24 1 n.archiving 0 1
    ∷ required 25 1 n.automatic 0 1
    ∷ optional 26 2 n.maximum fewest_containers most_containers
    ∷ optional 28 2 n.minimum fewest_containers (most_minimum n.maximum)
    ∷ required 30 2 n.growth 0 greatest_rate
    ∷ required 32 8 n.tail 0 (most_tail n.archiving)
    ∷ required 40 1 n.dedicated 0 (most_dedicated layout n.streams)
    ∷ []
