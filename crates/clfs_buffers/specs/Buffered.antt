-- The blocks that are kept: where each lies and the records that were read there, the one used last first, and how many there are at most.
use Rattle.std.specs.Prelude.{◌≡◌, ℕ, ◌-◌, ◌≤◌, ◌==◌, ◌&&◌, Bool, List, ◌∷◌, take, slice_get, Contains, Option, Ok}
use Rattle.std.specs.Option.{option_map, option_and_then}
use Rattle.std.specs.Map.{lookup}
use Rattle.lru.specs.LruCache.{LruCache, promoted}
use Rattle.clfs_lsn.specs.Lsn.{sequence_of}
use Rattle.clfs_lsn.specs.declared.entry.LogEntry.{LogEntry}
use Rattle.clfs_lsn.specs.declared.shape.Shape.{Shape}
use Rattle.clfs_block.specs.Records.{block_records}
use Rattle.clfs_buffers.specs.declared.place.BlockPlace.{BlockPlace}
use Rattle.clfs_buffers.specs.Reading.{block_place, first_lsn, record_in}
use Rattle.clfs_buffers.specs.Kept.{HaveLsns}

-- blocks with their places
abbrev pub Blocks : Type 0
Blocks = List (BlockPlace × List LogEntry)

-- what is kept: so many blocks at most, and these
pub record Buffered : Type 0 where
  pub most : ℕ
  pub blocks : Blocks

-- two places are the same one
abbrev pub is_same_place : BlockPlace → BlockPlace → Bool
is_same_place a b = (a.container == b.container) && (a.offset == b.offset)

-- the records of the block that is kept of a place
abbrev pub kept_at : BlockPlace → Buffered → Option (List LogEntry)
kept_at place kept = lookup (is_same_place place) kept.blocks

-- the data of the record at an LSN, if its block is kept and has it
abbrev pub kept_data : ℕ → Buffered → Option (List ℕ)
kept_data lsn kept = option_map (λ entry. entry.bytes) (option_and_then (λ records. slice_get records (sequence_of lsn)) (kept_at (block_place lsn) kept))

-- a block was used
abbrev pub with_used : BlockPlace → Buffered → Buffered
with_used place kept = record kept { blocks = promoted (is_same_place place) kept.blocks }

-- another block is kept, and where there are too many, the one that wasn't used for longest goes
abbrev pub with_block : BlockPlace → List LogEntry → Buffered → Buffered
with_block place records kept = record kept { blocks = (place, records) ∷ take (kept.most - 1) kept.blocks }

-- Bytes were read of a place, and these are the records of the block in them, in a log of this shape and of so many streams.
pub record IsRead (shape : Shape) (streams : ℕ) (place : BlockPlace) (records : List LogEntry) : Type 0 where
  pub bytes : List ℕ
  pub is : block_records shape streams (first_lsn place) bytes ≡ Ok records

-- A block was read for the record at an LSN, and is kept: these are its records, and the record is among them. Where it is told what the file
-- has there, they are those that it has.
pub record IsAdded (shape : Shape) (streams lsn : ℕ) (told : Type 0) (there : List ℕ) (entry : LogEntry) (old new : Buffered) : Type 0 where
  pub records : List LogEntry
  pub kept : new ≡ with_block (block_place lsn) records old
  pub found : record_in lsn records ≡ Ok entry
  pub read : IsRead shape streams (block_place lsn) records
  pub same : told → block_records shape streams (first_lsn (block_place lsn)) there ≡ Ok records

-- what a table keeps
abbrev pub of_table : LruCache BlockPlace (List LogEntry) → Buffered
of_table table = record { most = table.cap; blocks = table.entries }

-- What a table of blocks is: there is room for so many, at least one, and each block's records have the LSNs of its place.
pub record IsBuffered (most : ℕ) (table : LruCache BlockPlace (List LogEntry)) : Type 0 where
  pub room : table.cap ≡ most
  pub some : 1 ≤ most
  pub lsns : (place : BlockPlace) (records : List LogEntry) → Contains table.entries (place, records) → HaveLsns (first_lsn place) records
