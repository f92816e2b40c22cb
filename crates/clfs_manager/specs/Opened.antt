-- What opening finds in files, and the log that it makes of that in memory.
use Rattle.std.specs.Prelude.{◌≡◌, ℕ, ◌+◌, ◌<◌, ◌≤◌, ◌^◌, All, Some, None, false, if◌then◌else◌, length, map, []}
use Rattle.clfs_base.specs.Spelling.{IsImage}
use Rattle.clfs_base.specs.Streams.{streams_with}
use Rattle.clfs_lsn.specs.Head.{head_of}
use Rattle.clfs_lsn.specs.Lsn.{container_of, null_lsn, sequence_of}
use Rattle.clfs_lsn.specs.Place.{IsClosed, IsWithin}
use Rattle.clfs_lsn.specs.declared.entry.Head.{Head}
use Rattle.clfs_model.specs.Flush.{block_start}
use Rattle.clfs_model.specs.Heads.{block_end}
use Rattle.clfs_model.specs.Live.{hold}
use Rattle.clfs_model.specs.Storable.{IsStorable}
use Rattle.clfs_model.specs.Valid.{IsValid}
use Rattle.clfs_recover.specs.Files.{state_of}
use Rattle.clfs_recover.specs.Walk.{shape_of}
use Rattle.clfs_recover.specs.declared.parts.Parts.{Parts}
use Rattle.clfs_archive.specs.Blocks.{AreSealed}
use Rattle.clfs_archive.specs.Row.{Row}
use Rattle.clfs_tables.specs.Opening.{AreRowsAndHeads}
use Rattle.clfs_tables.specs.Tables.{Tabled}
use Rattle.clfs_manager.specs.Memory.{HasForgotten, Holds, unflushed}
use Rattle.clfs_manager.specs.declared.log.Log.{Log}

-- The rows, the heads of the records and the place of what was found fit each other.
pub record FitTables (parts : Parts) : Type 0 where
  pub rows : AreRowsAndHeads parts.image.streams parts.bases (map head_of parts.entries)
  pub ends : All (λ (head : Head). block_end (map head_of parts.entries) head.lsn < 2 ^ 32) (map head_of parts.entries)
  pub below : All (λ (head : Head). head.lsn < block_start parts.place) (map head_of parts.entries)
  pub offset : parts.place.offset < 2 ^ 32
  pub start : sequence_of (block_start parts.place) ≡ 0

-- Tables, and the ends of blocks, have the records of what was found.
pub record HaveRecords (parts : Parts) (tables : Tabled) (ends : Row) : Type 0 where
  pub streams : tables.streams ≡ streams_with parts.image.streams parts.bases
  pub heads : tables.heads ≡ map head_of parts.entries
  pub low : tables.low ≡ null_lsn
  pub tail : ends.tail ≡ (if parts.image.archiving then Some parts.image.tail else None)
  pub blocks : AreSealed 0 (block_start parts.place) ends.blocks (map head_of parts.entries)

-- What was found of a log fits memory: its tables, its newest copy and its place fit each other, and the state for which they
-- stand, with so many write buffers, is one that a log can be in and that files can hold.
pub record FitsMemory (parts : Parts) (buffers : ℕ) : Type 0 where
  pub slot : parts.slot ≤ 1
  pub image : IsImage parts.image
  pub tables : FitTables parts
  pub within : IsWithin (shape_of parts.image) parts.place
  pub closed : IsClosed parts.place
  pub flushed : unflushed (state_of parts buffers) ≡ []
  pub streams : length (streams_with parts.image.streams parts.bases) ≡ length parts.image.streams
  pub listed : parts.image.first + length parts.image.files ≡ parts.place.container + 1
  pub needed : parts.image.first ≤ container_of (hold (state_of parts buffers))
  pub valid : IsValid (state_of parts buffers)
  pub storable : IsStorable (state_of parts buffers)

-- A log that was opened, with so many write buffers and so many blocks that are read: it stands for what was found, isn't broken, and keeps nothing of
-- containers below the hold's.
pub record IsOpened (parts : Parts) (writes reads : ℕ) (log : Log) : Type 0 where
  pub state : log.state.value ≡ state_of parts writes
  pub holds : Holds log.state.value log
  pub newest : log.physical ≡ record { slot = parts.slot; image = parts.image }
  pub kept : log.buffers ≡ record { most = reads; blocks = [] }
  pub whole : log.broken ≡ false
  pub forgotten : HasForgotten log.state.value log
