-- What a queue keeps: one buffer, taken when it is made, with the waiting blocks one after the other and then what there is of the open one.
use Rattle.std.specs.Prelude.{◌≡◌, ◌⊎◌, ℕ, ◌+◌, ◌-◌, ◌*◌, ◌≤◌, List, [], ◌∷◌, ◌++◌, length, drop}
use Rattle.std.specs.List.{flat_map, concat}
use Rattle.clfs_lsn.specs.Format.{sector_bytes, block_header}
use Rattle.clfs_lsn.specs.Limits.{most_write_buffers}
use Rattle.clfs_lsn.specs.Lsn.{lsn_number}
use Rattle.clfs_lsn.specs.Place.{IsWithin, IsClosed}
use Rattle.clfs_lsn.specs.Size.{IsShape}
use Rattle.clfs_lsn.specs.Spelling.{record_bytes}
use Rattle.clfs_lsn.specs.declared.place.Place.{Place}
use Rattle.clfs_lsn.specs.declared.entry.LogEntry.{LogEntry}
use Rattle.clfs_block.specs.Frame.{place_of, payload_of}
use Rattle.clfs_container.specs.OpenBlocks.{total}
use Rattle.clfs_queue.specs.Queued.{Queued}
use Rattle.clfs_queue.specs.Rows.{AreInRow, AreBlocks}

-- the bytes of an open block: its records' stand at their places, after the room of its header, and are all that the place counts
pub record IsOpenPart (place : Place) (opened : List LogEntry) (part : List ℕ) : Type 0 where
  pub some : 1 ≤ place.records
  pub header : block_header ≤ place.used
  pub length_is : length part ≡ place_of place.used
  pub content : drop block_header (payload_of place.used part) ≡ flat_map record_bytes opened
  pub count : place.records ≡ length opened
  pub row : AreInRow (lsn_number place.container place.offset 0) opened

-- After the waiting blocks stands an open one, or where none is open a closed gate.
abbrev pub EndsWith : Place → List LogEntry → List ℕ → Type 0
EndsWith place opened part = (IsClosed place × (opened ≡ []) × (part ≡ 0 ∷ [])) ⊎ IsOpenPart place opened part

-- What is true of a queue with these bytes, of which so many are those of the waiting blocks, and with room for so many bytes and starts.
pub record IsKept (q : Queued) (bytes : List ℕ) (sealed_bytes memory starts_memory : ℕ) : Type 0 where
  -- the sizes are those of a log, and the place is one of it: else a record could be too long for a block
  pub shape : IsShape q.shape
  pub some_buffers : 1 ≤ q.buffers
  pub few_buffers : q.buffers ≤ most_write_buffers
  pub place : IsWithin q.shape q.place
  -- the largest blocks, one more than there are write buffers, have room, and a gate after them: else an append could want memory
  pub memory_is : sector_bytes * q.shape.block_sectors * (q.buffers + 1) + 1 ≤ memory
  pub starts_memory_is : q.buffers + 1 ≤ starts_memory
  -- no more blocks are there, the open one among them
  pub few : length q.waiting ≤ q.buffers + 1
  pub few_sealed : 1 ≤ q.place.records → length q.waiting ≤ q.buffers
  -- the records are those of the blocks that wait and of the open one: else a record would be read that isn't there
  pub blocks : List (List ℕ)
  pub done : List LogEntry
  pub opened : List LogEntry
  pub part : List ℕ
  pub records : q.records ≡ done ++ opened
  pub bytes_are : bytes ≡ concat blocks ++ part
  -- the blocks lie in the container one after the other up to the place, as they do in the bytes: else a group would be written elsewhere
  pub sealed_is : sealed_bytes ≡ total blocks
  pub behind : sealed_bytes ≤ q.place.offset
  pub waiting : AreBlocks q.shape q.place.container (q.place.offset - sealed_bytes) q.waiting done blocks
  pub end : EndsWith q.place opened part
