-- What bytes a block is judged by, and that what is read was written so: facts for whoever reads blocks.
use Rattle.std.specs.Prelude.{◌≡◌, ℕ, ◌*◌, ◌≤◌, List, ◌++◌, take, drop, Ok}
use Rattle.clfs_lsn.specs.Format.{sector_bytes, block_header, open_gate}
use Rattle.clfs_lsn.specs.Limits.{most_block_records}
use Rattle.clfs_lsn.specs.Size.{sectors}
use Rattle.clfs_lsn.specs.declared.shape.Shape.{Shape}
use Rattle.clfs_block.specs.Frame.{AreBytes, payload_of, used_bytes, used_payload, SpellsBlock}
use Rattle.clfs_block.specs.Checks.{frame_at, rest_at, head_for, IsCount, HasFrame, IsEnough}
use Rattle.clfs_block.specs.declared.head.BlockHead.{BlockHead}

-- A block is judged by its own bytes: what follows them, or that nothing does, changes no check and no byte of the payload.
pub record AreJudgedAlone : Type 0 where
  pub frame : (shape : Shape) (start : ℕ) (bytes : List ℕ) (count : ℕ) → IsEnough shape bytes count
      → frame_at shape start (take count bytes) ≡ frame_at shape start bytes
  pub payload : (bytes : List ℕ) (head : BlockHead) (count : ℕ) → sectors head.used ≡ head.sectors → sector_bytes * head.sectors ≤ count
      → payload_of head.used (take count bytes) ≡ payload_of head.used bytes
  pub rest : (bytes : List ℕ) (head : BlockHead) (count : ℕ) → sectors head.used ≡ head.sectors → sector_bytes * head.sectors ≤ count
      → rest_at (take count bytes) head ≡ rest_at bytes head

-- What the checks of a block let through was written so, and what was written passes them, whatever follows it.
pub record AreReadAsWritten : Type 0 where
  pub holds : (shape : Shape) (start : ℕ) (bytes : List ℕ) (head : BlockHead) → frame_at shape start bytes ≡ Ok head → HasFrame shape start bytes head
  pub frame : (shape : Shape) (start records : ℕ) (content block more : List ℕ) → SpellsBlock start open_gate records content block
      → 1 ≤ records → records ≤ most_block_records → IsCount shape start (sectors (used_bytes content))
      → frame_at shape start (block ++ more) ≡ Ok (head_for records content)
  pub payload : (shape : Shape) (start records : ℕ) (content block more : List ℕ) → SpellsBlock start open_gate records content block
      → 1 ≤ records → records ≤ most_block_records → IsCount shape start (sectors (used_bytes content))
      → payload_of (used_bytes content) (block ++ more) ≡ used_payload open_gate records content
  pub rest : (shape : Shape) (start records : ℕ) (content block more : List ℕ) → SpellsBlock start open_gate records content block
      → 1 ≤ records → records ≤ most_block_records → IsCount shape start (sectors (used_bytes content))
      → rest_at (block ++ more) (head_for records content) ≡ Ok (head_for records content)
  pub spelled : (shape : Shape) (start : ℕ) (bytes : List ℕ) (head : BlockHead) → AreBytes bytes → frame_at shape start bytes ≡ Ok head
      → rest_at bytes head ≡ Ok head → block_header ≤ head.used
      → SpellsBlock start open_gate head.records (drop block_header (payload_of head.used bytes)) (take (sector_bytes * head.sectors) bytes)
