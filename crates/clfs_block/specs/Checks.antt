-- The first wrong byte of bytes that are to begin with an open block.
use Rattle.std.specs.Prelude.{◌≡◌, ◌⊎◌, ℕ, zero, suc, ◌+◌, ◌-◌, ◌*◌, ◌/◌, ◌^◌, ◌<◌, ◌≤◌, Bool, not, ◌||◌, ◌==◌, nat_lt, if◌then◌else◌, List, length, take, drop}
use Rattle.std.specs.Prelude.{slice_index, Option, Some, None, Result, Ok, Err}
use Rattle.byteorder.specs.Endian.{little_number}
use Rattle.clfs_lsn.specs.Format.{sector_bytes, sector_payload, block_header, open_gate}
use Rattle.clfs_lsn.specs.Limits.{most_block_records}
use Rattle.clfs_lsn.specs.Lsn.{offset_of}
use Rattle.clfs_lsn.specs.Size.{sectors}
use Rattle.clfs_lsn.specs.Checks.{unless_wrong}
use Rattle.clfs_lsn.specs.declared.shape.Shape.{Shape}
use Rattle.clfs_block.specs.Frame.{place_of, payload_of, head_bytes, address, address_in, used_bytes}
use Rattle.clfs_block.specs.declared.head.BlockHead.{BlockHead}
use Rattle.clfs_block.specs.declared.head.BlockRefusal.{BlockRefusal}
use Rattle.clfs_block.specs.declared.head.BlockRefusal.TheVariants.{Closed, BadByte}

-- The numbers of a block's header.
abbrev pub head_of : List ℕ → BlockHead
head_of bytes = record {
  sectors = little_number 2 (drop 2 bytes);
  records = little_number 2 (drop 4 bytes);
  used = little_number 4 (drop 8 bytes);
}

-- The sectors that a container has from an LSN's block on.
abbrev pub left_from : Shape → ℕ → ℕ
left_from shape start = shape.container_sectors - offset_of start / sector_bytes

-- A block has at least one sector, and at most those of the largest block and those that are left in its container.
abbrev pub is_wrong_count : Shape → ℕ → ℕ → Bool
is_wrong_count shape start count = (count == 0) || (nat_lt shape.block_sectors count || nat_lt (left_from shape start) count)

-- So many sectors are none too many for the log, for what is left of the container, and for the header's field.
pub record IsCount (shape : Shape) (start count : ℕ) : Type 0 where
  pub largest : count ≤ shape.block_sectors
  pub left : count ≤ left_from shape start
  pub field : count < 2 ^ 16

-- The header's numbers of a block with so many records, whose bytes these are.
abbrev pub head_for : ℕ → List ℕ → BlockHead
head_for records content = record { sectors = sectors (used_bytes content); records = records; used = used_bytes content }

-- A block has 1 to 511 records.
abbrev pub is_wrong_records : ℕ → Bool
is_wrong_records records = (records == 0) || nat_lt most_block_records records

-- The first byte at which a header is wrong, after an open gate and with a first sector that is there whole: version 1, the
-- sectors, the records, zeros at 6 and 7, sectors that are just those of the used bytes, zeros from 12 to 15.
abbrev pub head_fault : Shape → ℕ → List ℕ → Option ℕ
head_fault shape start bytes =
    if not (slice_index bytes 1 == 1) then Some 1
    else if is_wrong_count shape start (head_of bytes).sectors then Some 2
    else if is_wrong_records (head_of bytes).records then Some 4
    else if not (little_number 2 (drop 6 bytes) == 0) then Some 6
    else if not (sectors (head_of bytes).used == (head_of bytes).sectors) then Some 8
    else if not (little_number 4 (drop 12 bytes) == 0) then Some 12
    else None

-- The first of so many numbers, from one on, that fails a test.
abbrev pub first_failing : (ℕ → Bool) → ℕ → ℕ → Option ℕ
first_failing test from zero = None
first_failing test from (suc n) = if test from then first_failing test (from + 1) n else Some from

-- The first of so many sectors whose address is wrong.
abbrev pub wrong_sector : ℕ → List ℕ → ℕ → Option ℕ
wrong_sector start bytes count = first_failing (λ i. address_in bytes i == address start i) 0 count

-- The first payload byte from one on, of those of so many sectors, that isn't 0.
abbrev pub other_byte : List ℕ → ℕ → ℕ → Option ℕ
other_byte bytes used count = first_failing (λ p. slice_index bytes (place_of p) == 0) used (sector_payload * count - used)

-- The byte of a wrong address.
abbrev pub address_place : Option ℕ → Option ℕ
address_place None = None
address_place (Some sector) = Some (sector_bytes * sector + sector_payload)

-- The byte of a block that holds a wrong byte of its payload.
abbrev pub payload_place : Option ℕ → Option ℕ
payload_place None = None
payload_place (Some p) = Some (place_of p)

-- The block is there whole, and its sectors have their addresses; else the first byte that isn't there or an address.
unfoldable pub sectors_at : ℕ → List ℕ → BlockHead → Result BlockHead BlockRefusal
sectors_at start bytes head =
    if nat_lt (length bytes) (sector_bytes * head.sectors) then Err (BadByte (length bytes))
    else unless_wrong BadByte (address_place (wrong_sector start bytes head.sectors)) (Ok head)

-- The checks up to the sectors' addresses, in their order. A gate that isn't there is wrong, one that is closed no fault.
unfoldable pub frame_at : Shape → ℕ → List ℕ → Result BlockHead BlockRefusal
frame_at shape start bytes =
    if length bytes == 0 then Err (BadByte 0)
    else if not (slice_index bytes 0 == open_gate) then Err Closed
    else if nat_lt (length bytes) sector_bytes then Err (BadByte (length bytes))
    else unless_wrong BadByte (head_fault shape start bytes) (sectors_at start bytes (head_of bytes))

-- After these the payload past the used bytes is zero; else its first other byte.
abbrev pub rest_at : List ℕ → BlockHead → Result BlockHead BlockRefusal
rest_at bytes head = unless_wrong BadByte (payload_place (other_byte bytes head.used head.sectors)) (Ok head)

-- Where all up to the addresses is right, the payload after the used bytes is judged too.
abbrev pub and_rest : List ℕ → Result BlockHead BlockRefusal → Result BlockHead BlockRefusal
and_rest bytes (Ok head) = rest_at bytes head
and_rest bytes (Err refusal) = Err refusal

-- The block at the front of bytes, or why there is none.
abbrev pub block_at : Shape → ℕ → List ℕ → Result BlockHead BlockRefusal
block_at shape start bytes = and_rest bytes (frame_at shape start bytes)

-- What is known of a block's head whose checks up to the addresses hold, and of its used payload: where all of the header is
-- used, its first bytes are the header's.
pub record IsFramed (shape : Shape) (start : ℕ) (bytes : List ℕ) (head : BlockHead) (payload : List ℕ) : Type 0 where
  pub gate : slice_index bytes 0 ≡ open_gate
  pub numbers : head ≡ head_of bytes
  pub some : 1 ≤ head.sectors
  pub count : IsCount shape start head.sectors
  pub records : (1 ≤ head.records) × (head.records ≤ most_block_records)
  pub used : sectors head.used ≡ head.sectors
  pub whole : sector_bytes * head.sectors ≤ length bytes
  pub addresses : (i : ℕ) → i < head.sectors → address_in bytes i ≡ address start i
  pub filled : payload ≡ payload_of head.used bytes
  pub long : length payload ≡ head.used
  pub header : block_header ≤ head.used → take block_header payload ≡ head_bytes open_gate head.sectors head.records head.used

-- A head whose checks up to the addresses hold has its payload here, and this is the first other byte after it.
pub record IsWrongBehind (shape : Shape) (start : ℕ) (bytes payload : List ℕ) (at : ℕ) : Type 0 where
  pub head : BlockHead
  pub framed : IsFramed shape start bytes head payload
  pub other : payload_place (other_byte bytes head.used head.sectors) ≡ Some at

-- What the checks up to the addresses say of a head, whatever numbers the bytes are.
pub record HasFrame (shape : Shape) (start : ℕ) (bytes : List ℕ) (head : BlockHead) : Type 0 where
  pub gate : slice_index bytes 0 ≡ open_gate
  pub numbers : head ≡ head_of bytes
  pub some : 1 ≤ head.sectors
  pub largest : head.sectors ≤ shape.block_sectors
  pub left : head.sectors ≤ left_from shape start
  pub records : (1 ≤ head.records) × (head.records ≤ most_block_records)
  pub used : sectors head.used ≡ head.sectors
  pub whole : sector_bytes * head.sectors ≤ length bytes

-- So many bytes are enough to judge the block at the front of bytes: the first sector, and the sectors that it says to have, or those of a
-- largest block.
pub record IsEnough (shape : Shape) (bytes : List ℕ) (count : ℕ) : Type 0 where
  pub first : sector_bytes ≤ count
  pub all : (sector_bytes * (head_of bytes).sectors ≤ count) ⊎ (sector_bytes * shape.block_sectors ≤ count)
