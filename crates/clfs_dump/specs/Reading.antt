-- What the parts that read a block answer, against what its bytes are.
use Rattle.std.specs.Prelude.{◌≡◌, ℕ, ◌≤◌, List, ◌++◌, length, Option, Some, None, Result, Ok, Err}
use Rattle.clfs_lsn.specs.Lsn.{lsn_number}
use Rattle.clfs_lsn.specs.declared.shape.Shape.{Shape}
use Rattle.clfs_lsn.specs.declared.entry.LogEntry.{LogEntry}
use Rattle.clfs_base.specs.declared.image.Row.{Row}
use Rattle.clfs_block.specs.Checks.{frame_at}
use Rattle.clfs_block.specs.declared.head.BlockHead.{BlockHead}
use Rattle.clfs_dump.specs.Telling.{record_text}
use Rattle.clfs_dump.specs.declared.selection.Selection.{Selection}

-- A record that is right was added as text, and this is how many bytes spell it; or nothing was added, and this is its first wrong byte.
abbrev pub TellsRecord : Selection → List Row → List ℕ → List ℕ → Result ℕ ℕ → Result (LogEntry × ℕ) ℕ → Type 0
TellsRecord selection rows before after (Ok size) read =
    (entry : LogEntry) × (read ≡ Ok (entry, size)) × (after ≡ before ++ record_text selection rows entry)
TellsRecord selection rows before after (Err at) read = (read ≡ Err at) × (after ≡ before)

-- A record ends, or is wrong first, no further than the bytes go.
abbrev pub IsNear : List ℕ → Result ℕ ℕ → Type 0
IsNear bytes (Ok size) = size ≤ length bytes
IsNear bytes (Err at) = at ≤ length bytes

-- the first wrong byte of what was read
abbrev pub first_wrong : {T : Type 0} → Result T ℕ → Option ℕ
first_wrong (Ok value) = None
first_wrong (Err at) = Some at

-- The block at an offset of a container, at the front of these bytes, has a right frame that says so many sectors.
pub record HasSectors (shape : Shape) (container offset : ℕ) (bytes : List ℕ) (sectors : ℕ) : Type 0 where
  pub head : BlockHead
  pub frame : frame_at shape (lsn_number container offset 0) bytes ≡ Ok head
  pub is : head.sectors ≡ sectors
