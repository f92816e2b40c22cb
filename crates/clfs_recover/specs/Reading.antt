-- Where the records of a log are read: at their LSNs, in the files of their containers.
use Rattle.std.specs.Prelude.{◌≡◌, ℕ, ◌-◌, List, drop, slice_get, slice_index, Some, Ok}
use Rattle.clfs_lsn.specs.Lsn.{lsn_number, container_of, offset_of, sequence_of}
use Rattle.clfs_lsn.specs.declared.entry.LogEntry.{LogEntry}
use Rattle.clfs_lsn.specs.declared.shape.Shape.{Shape}
use Rattle.clfs_base.specs.declared.image.BaseImage.{BaseImage}
use Rattle.clfs_block.specs.Records.{block_records}

-- the number of the file in which an LSN's container lies
abbrev pub file_of : BaseImage → ℕ → ℕ
file_of image lsn = slice_index image.files (container_of lsn - image.first)

-- The block that begins at the offset of a record's LSN in these bytes has records, and this one among them, at its position.
pub record IsReadAt (shape : Shape) (streams : ℕ) (bytes : List ℕ) (entry : LogEntry) : Type 0 where
  pub records : List LogEntry
  pub read : block_records shape streams (lsn_number (container_of entry.lsn) (offset_of entry.lsn) 0) (drop (offset_of entry.lsn) bytes) ≡ Ok records
  pub at : slice_get records (sequence_of entry.lsn) ≡ Some entry
