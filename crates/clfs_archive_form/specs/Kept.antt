-- The blocks of a container that are left below an LSN.
use Rattle.std.specs.Prelude.{◌≡◌, ◌⊎◌, ℕ, ◌*◌, ◌≤◌, nat_lt, List, [], ◌∷◌, ◌++◌, length, take, drop, filter, Ok}
use Rattle.std.specs.List.{flat_map}
use Rattle.clfs_lsn.specs.Format.{sector_bytes}
use Rattle.clfs_lsn.specs.Lsn.{lsn_number}
use Rattle.clfs_lsn.specs.declared.entry.LogEntry.{LogEntry}
use Rattle.clfs_lsn.specs.declared.shape.Shape.{Shape}
use Rattle.clfs_container.specs.OpenBlocks.{block_sectors}
use Rattle.clfs_block.specs.Records.{block_records}
use Rattle.clfs_recover.specs.Stored.{stored_in}

-- the records below an LSN
abbrev pub below : ℕ → List LogEntry → List LogEntry
below up_to entries = filter (λ (entry : LogEntry). nat_lt entry.lsn up_to) entries

-- blocks one after the other, as bytes
abbrev pub in_a_row : List (List ℕ) → List ℕ
in_a_row blocks = flat_map (λ (block : List ℕ). block) blocks

-- Each block has just the sectors that it says to have.
abbrev pub AreExact : List (List ℕ) → Type 0
AreExact [] = Unit {0}
AreExact (block ∷ blocks) = (length block ≡ sector_bytes * block_sectors block) × AreExact blocks

-- Blocks stand in these bytes one after the other, from the first byte of their container on, and these are the records that are read of them.
pub record StandIn (shape : Shape) (streams id : ℕ) (entries : List LogEntry) (bytes : List ℕ) (blocks : List (List ℕ)) : Type 0 where
  pub is : bytes ≡ in_a_row blocks
  pub exact : AreExact blocks
  pub read : stored_in shape streams id 0 blocks ≡ Ok entries

-- Bytes are the blocks of a container with these records.
abbrev pub AreBlocksWith : Shape → ℕ → ℕ → List LogEntry → List ℕ → Type 0
AreBlocksWith shape streams id entries bytes = (blocks : List (List ℕ)) × StandIn shape streams id entries bytes blocks

-- Of the blocks in some bytes, which have these records, those up to a byte lie below an LSN, and of the one that begins there so many records do. No
-- more is below it.
pub record IsKeptEnd (shape : Shape) (streams id up_to : ℕ) (bytes : List ℕ) (entries : List LogEntry) (whole records : ℕ) : Type 0 where
  pub own : List LogEntry
  pub blocks : AreBlocksWith shape streams id own (take whole bytes)
  pub within : whole ≤ length bytes
  pub rest : ((records ≡ 0) × (below up_to entries ≡ own))
      ⊎ ((next : List LogEntry) × (block_records shape streams (lsn_number id whole 0) (drop whole bytes) ≡ Ok next) × (1 ≤ records)
      × (records ≤ length next) × (below up_to entries ≡ own ++ take records next))
