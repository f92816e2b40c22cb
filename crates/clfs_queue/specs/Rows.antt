-- Records in a row, and the blocks that have them.
use Rattle.std.specs.Prelude.{◌≡◌, ℕ, ◌+◌, ◌≤◌, List, [], ◌∷◌, ◌++◌, length}
use Rattle.std.specs.List.{flat_map}
use Rattle.clfs_lsn.specs.Format.{open_gate}
use Rattle.clfs_lsn.specs.Limits.{most_block_records}
use Rattle.clfs_lsn.specs.Lsn.{lsn_number}
use Rattle.clfs_lsn.specs.Size.{sectors}
use Rattle.clfs_lsn.specs.Spelling.{FitsAt, record_bytes}
use Rattle.clfs_lsn.specs.declared.shape.Shape.{Shape}
use Rattle.clfs_lsn.specs.declared.entry.LogEntry.{LogEntry}
use Rattle.clfs_block.specs.Frame.{used_bytes, SpellsBlock}
use Rattle.clfs_block.specs.Checks.{IsCount}

-- records at LSNs in a row, from one on, each such as a log that has its stream can have it there
abbrev pub AreInRow : ℕ → List LogEntry → Type 0
AreInRow lsn [] = Unit {0}
AreInRow lsn (entry ∷ entries) = FitsAt lsn entry.stream entry × AreInRow (lsn + 1) entries

-- a block at this LSN that has these records, after an open gate: no more than a block may have, and no more sectors than its place allows
pub record IsBlock (shape : Shape) (start : ℕ) (entries : List LogEntry) (block : List ℕ) : Type 0 where
  pub some : 1 ≤ length entries
  pub few : length entries ≤ most_block_records
  pub row : AreInRow start entries
  pub count : IsCount shape start (sectors (used_bytes (flat_map record_bytes entries)))
  pub spelled : SpellsBlock start open_gate (length entries) (flat_map record_bytes entries) block

-- one block for each start, one after the other from an offset of a container on, each with its own records; in order these are all
abbrev pub AreBlocks : Shape → ℕ → ℕ → List ℕ → List LogEntry → List (List ℕ) → Type 0
AreBlocks shape id offset [] entries [] = entries ≡ []
AreBlocks shape id offset [] entries (block ∷ blocks) = ⊥
AreBlocks shape id offset (start ∷ starts) entries [] = ⊥
AreBlocks shape id offset (start ∷ starts) entries (block ∷ blocks) =
    (start ≡ lsn_number id offset 0)
    × ((own : List LogEntry) × (others : List LogEntry) × (entries ≡ own ++ others)
    × IsBlock shape start own block × AreBlocks shape id (offset + length block) starts others blocks)
