-- What a builder of blocks shows.
use Rattle.std.specs.Prelude.{◌≡◌, ℕ, ◌+◌, ◌*◌, ◌≤◌, Bool, ◌&&◌, nat_le, nat_lt, if◌then◌else◌, List, [], ◌∷◌, ◌++◌, length, drop, Option, Some}
use Rattle.clfs_lsn.specs.Format.{sector_bytes, sector_payload, block_header, open_gate}
use Rattle.clfs_lsn.specs.Limits.{most_block_sectors, most_block_records}
use Rattle.clfs_lsn.specs.Size.{size, sectors}
use Rattle.clfs_block.specs.Frame.{place_of, used_bytes, SpellsBlock}

-- The sectors of the largest block, the records pushed and their bytes one after the other, and once it is sealed the
-- block's bytes with the one after them.
pub record Building : Type 0 where
  pub room : ℕ
  pub records : ℕ
  pub content : List ℕ
  pub sealed : Option (List ℕ)

-- A record with so many bytes of data joins the block, where so many sectors are left from the block's start on: it is not
-- the 512th, and the block's sectors with it are no more than the largest block's and those that are left.
abbrev pub fits : Building → ℕ → ℕ → Bool
fits building len left =
    nat_lt building.records most_block_records
    && (nat_le (sectors (used_bytes building.content + size len)) building.room
    && nat_le (sectors (used_bytes building.content + size len)) left)

-- The sealed bytes are a block at this place after a closed gate, and then a closed gate. With the gate opened they are an
-- open block.
pub record SealsAt (start : ℕ) (old new : Building) : Type 0 where
  pub bytes : List ℕ
  pub sealed : new ≡ record old { sealed = Some (bytes ++ 0 ∷ []) }
  pub spelled : SpellsBlock start 0 old.records old.content bytes
  pub opened : SpellsBlock start open_gate old.records old.content (open_gate ∷ drop 1 bytes)

-- What a builder keeps: memory for the largest block and one byte more. While it is open the bytes of the payload stand at
-- their places, and an address has its room as soon as the sector before it is full; once sealed, whole sectors and a byte.
pub record IsBuilt (buffer : List ℕ) (capacity used records room : ℕ) (is_sealed : Bool) : Type 0 where
  pub memory : sector_bytes * room + 1 ≤ capacity
  pub largest : room ≤ most_block_sectors
  pub header : block_header ≤ used
  pub fits : used ≤ sector_payload * room
  pub few : records ≤ most_block_records
  pub place : length buffer ≡ (if is_sealed then sector_bytes * sectors used + 1 else place_of used)
