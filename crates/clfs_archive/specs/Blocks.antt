-- The ends of blocks against the heads of records.
use Rattle.std.specs.Prelude.{◌≡◌, ℕ, ◌*◌, ◌<◌, ◌≤◌, Bool, ◌&&◌, not, true, nat_le, nat_lt, List, [], ◌∷◌, ◌++◌, length, filter, All, AllPairs}
use Rattle.std.specs.List.{Any, list_any}
use Rattle.clfs_lsn.specs.Lsn.{sequence_of}
use Rattle.clfs_lsn.specs.declared.entry.Head.{Head}
use Rattle.clfs_model.specs.Archive.{is_in_block}
use Rattle.clfs_model.specs.Heads.{block_end}
use Rattle.clfs_archive.specs.declared.block.BlockEnd.{BlockEnd}

-- a block's last record, by which ends of blocks are sorted
abbrev pub lsn_of_block : BlockEnd → ℕ
lsn_of_block block = block.last

-- the blocks whose last record lies at or above an LSN
abbrev pub blocks_from : ℕ → List BlockEnd → List BlockEnd
blocks_from lsn blocks = filter (λ (block : BlockEnd). nat_le lsn block.last) blocks

-- at most twice as many ends of blocks as lie from an LSN on
abbrev pub AreFew : ℕ → List BlockEnd → Type 0
AreFew lsn blocks = length blocks ≤ 2 * length (blocks_from lsn blocks)

-- whether a record is the last of its block: no other one of the block lies above it
abbrev pub is_last_in_block : List Head → Head → Bool
is_last_in_block heads head = not (list_any (λ (other : Head). is_in_block other.lsn head.lsn && nat_lt head.lsn other.lsn) heads)

-- The last record of each block that is sealed: of the blocks below the LSN at which the next one begins.
abbrev pub sealed_lasts : ℕ → List Head → List Head
sealed_lasts next heads = filter (λ (head : Head). nat_lt head.lsn next && is_last_in_block heads head) heads

-- the end of a block of these records: its last one is there, no other of the block lies above it, and the block ends after all of them
pub record IsBlock (heads : List Head) (block : BlockEnd) : Type 0 where
  pub last : Any (λ (head : Head). head.lsn ≡ block.last) heads
  pub others : All (λ (head : Head). is_in_block head.lsn block.last ≡ true → head.lsn ≤ block.last) heads
  pub behind : block.end ≡ block_end heads block.last

-- The ends of the blocks of these records, sorted: each record that lies from one LSN on and is on the disk stands in one of them, and
-- no block is on the disk in part.
pub record AreBlocks (from stable : ℕ) (blocks : List BlockEnd) (heads : List Head) : Type 0 where
  pub rising : AllPairs (λ (a b : Head). a.lsn < b.lsn) heads
  pub each : All (IsBlock heads) blocks
  pub told : All (λ (head : Head). from ≤ head.lsn → head.lsn < stable
      → Any (λ (block : BlockEnd). (is_in_block head.lsn block.last ≡ true) × (block.last < stable)) blocks) heads

-- The ends of all blocks of these records that are sealed: up to the LSN at which the next block begins. No record of that block has an end yet.
pub record AreSealed (from next : ℕ) (blocks : List BlockEnd) (heads : List Head) : Type 0 where
  pub told : AreBlocks from next blocks heads
  pub below : All (λ (block : BlockEnd). block.last < next) blocks
  pub start : sequence_of next ≡ 0

-- What becomes of the ends of blocks as the log goes on.
pub record BlocksGoOn : Type 0 where
  -- A record joins the open block: no end is told of it.
  pub joined : (from next : ℕ) (blocks : List BlockEnd) (heads : List Head) (head : Head) → AreSealed from next blocks heads → next ≤ head.lsn
      → All (λ (other : Head). other.lsn < head.lsn) heads → AreSealed from next blocks (heads ++ head ∷ [])
  -- Where no block is open the next one may begin further on, as at the first byte of the next container.
  pub moved : (from next later : ℕ) (blocks : List BlockEnd) (heads : List Head) → AreSealed from next blocks heads → next ≤ later
      → sequence_of later ≡ 0 → All (λ (head : Head). head.lsn < next) heads → AreSealed from later blocks heads
  -- What is on the disk ends with a block, so the ends of the blocks there are among these.
  pub stable : (from next stable : ℕ) (blocks : List BlockEnd) (heads : List Head) → AreSealed from next blocks heads → stable ≤ next
      → sequence_of stable ≡ 0 → AreBlocks from stable blocks heads
