-- How a block's payload stands in its sectors: 504 bytes of payload in each sector of 512, and after them the sector's
-- address. The payload is a header of 16 bytes, the records, and zeros. All numbers are little-endian.
use Rattle.std.specs.Prelude.{◌≡◌, ℕ, ◌+◌, ◌*◌, ◌/◌, ◌%◌, ◌<◌, List, [], ◌∷◌, ◌++◌, map, length, drop, slice_index}
use Rattle.std.specs.List.{range_with_len}
use Rattle.byteorder.specs.Endian.{little_number, little_bytes}
use Rattle.clfs_lsn.specs.Format.{sector_bytes, sector_payload, block_header}
use Rattle.clfs_lsn.specs.Lsn.{lsn_number, container_of, offset_of}
use Rattle.clfs_lsn.specs.Size.{sectors}

-- The byte of a block that holds a byte of its payload.
abbrev pub place_of : ℕ → ℕ
place_of p = sector_bytes * (p / sector_payload) + p % sector_payload

-- So many bytes of the payload of a block, from the first on.
abbrev pub payload_of : ℕ → List ℕ → List ℕ
payload_of count block = map (λ p. slice_index block (place_of p)) (range_with_len 0 count)

-- So many of them from another one on.
abbrev pub payload_from : ℕ → ℕ → List ℕ → List ℕ
payload_from first count block = map (λ p. slice_index block (place_of p)) (range_with_len first count)

-- The address of a sector of the block that begins at an LSN: the sector's own container and offset.
abbrev pub address : ℕ → ℕ → ℕ
address start sector = lsn_number (container_of start) (offset_of start + sector_bytes * sector) 0

-- The address that stands in a sector of a block.
abbrev pub address_in : List ℕ → ℕ → ℕ
address_in block sector = little_number 8 (drop (sector_bytes * sector + sector_payload) block)

-- Each is a byte.
abbrev pub AreBytes : List ℕ → Type 0
AreBytes list = (i : ℕ) → slice_index list i < 256

-- The bytes of the header: gate, version 1, sectors (2 bytes), records (2), zero (2), used payload bytes (4), zero (4).
abbrev pub head_bytes : ℕ → ℕ → ℕ → ℕ → List ℕ
head_bytes gate count records used =
    gate ∷ 1 ∷ [] ++ (little_bytes 2 count ++ (little_bytes 2 records ++ (little_bytes 2 0
    ++ (little_bytes 4 used ++ little_bytes 4 0))))

-- The payload bytes of a block with these records' bytes that are used: the header's and theirs.
abbrev pub used_bytes : List ℕ → ℕ
used_bytes content = block_header + length content

-- The used payload of a block with so many records, whose bytes these are.
abbrev pub used_payload : ℕ → ℕ → List ℕ → List ℕ
used_payload gate records content = head_bytes gate (sectors (used_bytes content)) records (used_bytes content) ++ content

-- These bytes spell a block at this place with this gate and so many records, whose bytes are the content: as many whole
-- sectors as the used payload takes, zeros after it, and in each sector its address.
pub record SpellsBlock (start gate records : ℕ) (content block : List ℕ) : Type 0 where
  pub whole : length block ≡ sector_bytes * sectors (used_bytes content)
  pub used : payload_of (used_bytes content) block ≡ used_payload gate records content
  pub zeros : (p : ℕ) → used_bytes content < p + 1 → p < sector_payload * sectors (used_bytes content)
      → slice_index block (place_of p) ≡ 0
  pub addresses : (i : ℕ) → i < sectors (used_bytes content) → address_in block i ≡ address start i
