-- The open blocks of a file: from offset 0 on, while the gate byte is 0xA5, as many sectors as bytes 2 and 3 of the block say.
use Rattle.std.specs.Prelude.{◌≡◌, ◌≢◌, ◌⊎◌, ℕ, ◌+◌, ◌-◌, ◌*◌, ◌<◌, ◌≤◌, List, [], ◌∷◌, length, take, drop, slice_index}
use Rattle.clfs_lsn.specs.Format.{sector_bytes, open_gate}

-- How many sectors a block says that it has, in its bytes 2 and 3.
abbrev pub block_sectors : List ℕ → ℕ
block_sectors bytes = slice_index bytes 2 + 256 * slice_index bytes 3

-- The bytes begin with this open block, which lies whole in them and in the sectors that are left.
pub record BeginsWith (left : ℕ) (bytes block : List ℕ) : Type 0 where
  pub gate : slice_index bytes 0 ≡ open_gate
  pub some : 0 < block_sectors bytes
  pub fits : block_sectors bytes ≤ left
  pub whole : sector_bytes * block_sectors bytes ≤ length bytes
  pub is : block ≡ take (sector_bytes * block_sectors bytes) bytes

-- The bytes begin with these open blocks, one after the other, after which so many of the sectors that are left remain.
abbrev pub Opens : ℕ → List ℕ → List (List ℕ) → ℕ → Type 0
Opens left bytes [] rest = left ≡ rest
Opens left bytes (block ∷ blocks) rest =
    BeginsWith left bytes block × Opens (left - block_sectors bytes) (drop (sector_bytes * block_sectors bytes) bytes) blocks rest

-- No open block begins here: no sector is left, the gate is closed, or the number of sectors is 0, more than are left or
-- more than are there.
abbrev pub Ends : ℕ → List ℕ → Type 0
Ends left bytes =
    (left ≡ 0) ⊎ (slice_index bytes 0 ≢ open_gate) ⊎ (block_sectors bytes ≡ 0) ⊎ (left < block_sectors bytes)
    ⊎ (length bytes < sector_bytes * block_sectors bytes)

-- The bytes of blocks together.
abbrev pub total : List (List ℕ) → ℕ
total [] = 0
total (block ∷ blocks) = length block + total blocks

-- These are the open blocks of a container of so many sectors, and no more follow.
abbrev pub AreOpen : ℕ → List ℕ → List (List ℕ) → Type 0
AreOpen sectors bytes blocks = (rest : ℕ) × Opens sectors bytes blocks rest × Ends rest (drop (total blocks) bytes)

-- No block was to begin here: no sector is left, or a gate is there and closed. A gate that isn't there is no closed one.
abbrev pub EndsCleanly : ℕ → List ℕ → Type 0
EndsCleanly left bytes = (left ≡ 0) ⊎ ((0 < length bytes) × (slice_index bytes 0 ≢ open_gate))

-- These are the open blocks of a container of so many sectors, and the list ends cleanly: nothing after them is damage.
abbrev pub AreWhole : ℕ → List ℕ → List (List ℕ) → Type 0
AreWhole sectors bytes blocks = (rest : ℕ) × Opens sectors bytes blocks rest × EndsCleanly rest (drop (total blocks) bytes)
