-- What the exports answer, by what the layers below say of the same bytes. An answer is a code and what stands in the caller's struct.
use Rattle.std.specs.Prelude.{ℕ, ◌+◌, ◌*◌, ◌^◌, Bool, true, false, ◌&&◌, ◌==◌, nat_le, nat_lt, if◌then◌else◌, List, length, drop, Option, Some, None, Result, Ok, Err}
use Rattle.clfs_lsn.specs.Format.{sector_bytes, record_header}
use Rattle.clfs_lsn.specs.Heads.{is_restart}
use Rattle.clfs_lsn.specs.Size.{sectors}
use Rattle.clfs_lsn.specs.Spelling.{record_at}
use Rattle.clfs_lsn.specs.declared.entry.Head.{Head}
use Rattle.clfs_lsn.specs.declared.shape.Shape.{Shape}
use Rattle.clfs_record.specs.Decoding.{head_read}
use Rattle.clfs_record.specs.declared.refusal.HeadRefusal.{HeadRefusal}
use Rattle.clfs_record.specs.declared.refusal.HeadRefusal.TheVariants as heads
use Rattle.clfs_block.specs.Frame.{place_of}
use Rattle.clfs_block.specs.declared.head.BlockHead.{BlockHead}
use Rattle.clfs_block.specs.declared.head.BlockRefusal.{BlockRefusal}
use Rattle.clfs_block.specs.declared.head.BlockRefusal.TheVariants as blocks
use Rattle.clfs_base.specs.declared.layout.Numbers.{Numbers}
use Rattle.clfs_base.specs.declared.refusal.NewestRefusal.{NewestRefusal}
use Rattle.clfs_base.specs.declared.refusal.NewestRefusal.TheVariants as newest
use Rattle.clfs_base.specs.declared.entries.RowPlace.{RowPlace}
use Rattle.clfs_read.specs.declared.blocks.Measures.{Measures}
use Rattle.clfs_read.specs.declared.blocks.Block.{Block}
use Rattle.clfs_read.specs.declared.records.Record.{Record}
use Rattle.clfs_read.specs.declared.bases.Base.{Base}
use Rattle.clfs_read.specs.declared.bases.Stream.{Stream}

-- ---- the codes

-- what is asked for is there
abbrev pub right : ℕ
right = 0

-- the gate is closed: nothing begins here, and nothing is wrong
abbrev pub shut : ℕ
shut = 1

-- a byte is wrong
abbrev pub wrong : ℕ
wrong = 2

-- no record is left
abbrev pub ended : ℕ
ended = 3

-- the arguments don't belong together, and nothing was judged
abbrev pub unfit : ℕ
unfit = 4

-- what stands after an answer that is yes, and nothing after one that is no
abbrev pub if_told : {X : Type 0} → Bool → X → Option X
if_told true x = Some x
if_told false x = None

-- ---- blocks

-- the shape of a log with these measures
abbrev pub shape_of : Measures → Shape
shape_of measures = record { block_sectors = measures.block_sectors; container_sectors = measures.container_sectors }

-- the head of a block that has these numbers
abbrev pub head_from : Block → BlockHead
head_from block = record { sectors = block.sectors; records = block.records; used = block.used }

-- no block, by a wrong byte if there is one
abbrev pub no_block : ℕ → Block
no_block at = record { sectors = 0; records = 0; used = 0; bad_at = at }

-- what reading a block's header and addresses answers
abbrev pub block_told : Result BlockHead BlockRefusal → ℕ × Block
block_told (Ok head) = (right, record { sectors = head.sectors; records = head.records; used = head.used; bad_at = 0 })
block_told (Err (blocks.BadByte at)) = (wrong, no_block at)
block_told (Err blocks.Closed) = (shut, no_block 0)
block_told (Err blocks.NoMemory) = (unfit, no_block 0)

-- a block with these numbers can stand in so many bytes, and its used payload ends in its last sector
abbrev pub fits_in : Block → ℕ → Bool
fits_in block len =
    nat_le 1 block.sectors && (nat_lt block.sectors (2 ^ 16)
    && (nat_le (sector_bytes * block.sectors) len && (sectors block.used == block.sectors)))

-- what reading the bytes after a block's used payload answers
abbrev pub rest_told : Result BlockHead BlockRefusal → ℕ × ℕ
rest_told (Ok head) = (right, 0)
rest_told (Err (blocks.BadByte at)) = (wrong, at)
rest_told (Err blocks.Closed) = (unfit, 0)
rest_told (Err blocks.NoMemory) = (unfit, 0)

-- ---- records

-- no record, by a wrong byte of its block if there is one
abbrev pub no_record : ℕ → Record
no_record at = record {
  lsn = 0;
  previous = 0;
  undo_next = 0;
  new_base = 0;
  data_at = 0;
  data_len = 0;
  next_at = 0;
  bad_at = at;
  stream = 0;
  is_restart = false;
}

-- What reading the record at a byte of a block's used payload answers. A wrong byte is told by its place in the block.
abbrev pub record_told : ℕ → Result (Head × ℕ) HeadRefusal → ℕ × Record
record_told at (Ok (head, size)) = (
  right,
  record {
    lsn = head.lsn;
    previous = head.previous;
    undo_next = head.undo_next;
    new_base = head.new_base;
    data_at = at + record_header;
    data_len = head.len;
    next_at = at + size;
    bad_at = 0;
    stream = head.stream;
    is_restart = is_restart head.kind;
  },
)
record_told at (Err (heads.BadByte place)) = (wrong, no_record (place_of (at + place)))

-- What comes next of a block's records, of which so many are left: the record at this byte of the used payload. Where none is left the
-- payload ends there, or the field of its length is wrong, byte 8 of the block.
abbrev pub next_told : ℕ → ℕ → ℕ → List ℕ → ℕ → ℕ × Record
next_told left lsn streams payload at =
    if nat_lt (length payload) (2 ^ 31) && nat_lt at (2 ^ 31)
    then (if left == 0
    then (if at == length payload then (ended, no_record 0) else (wrong, no_record 8))
    else record_told at (head_read (record_at lsn streams (drop at payload))))
    else (unfit, no_record 0)

-- ---- base files

-- no copy, by a slot and a wrong byte of it if there is one
abbrev pub no_base : ℕ → ℕ → Base
no_base slot at = record {
  tail = 0;
  block_sectors = 0;
  container_sectors = 0;
  first = 0;
  slot = slot;
  bad_at = at;
  containers = 0;
  files_made = 0;
  listed = 0;
  streams = 0;
  maximum = 0;
  minimum = 0;
  growth = 0;
  version = 0;
  turn = 0;
  archiving = 0;
  automatic = 0;
  dedicated = 0;
}

-- what reading a base file answers
abbrev pub base_told : Result (ℕ × Numbers) NewestRefusal → ℕ × Base
base_told (Ok (slot, n)) = (
  right,
  record {
    tail = n.tail;
    block_sectors = n.block_sectors;
    container_sectors = n.container_sectors;
    first = n.first;
    slot = slot;
    bad_at = 0;
    containers = n.containers;
    files_made = n.files_made;
    listed = n.listed;
    streams = n.streams;
    maximum = n.maximum;
    minimum = n.minimum;
    growth = n.growth;
    version = n.version;
    turn = n.turn;
    archiving = n.archiving;
    automatic = n.automatic;
    dedicated = n.dedicated;
  },
)
base_told (Err newest.NoBase) = (shut, no_base 0 0)
base_told (Err (newest.BadByte slot at)) = (wrong, no_base slot at)
base_told (Err newest.DiskFault) = (unfit, no_base 0 0)
base_told (Err newest.NoMemory) = (unfit, no_base 0 0)

-- the place of a row, as it stands in the caller's struct
abbrev pub place_in : Stream → RowPlace
place_in stream = record { name_at = stream.name_at; name_len = stream.name_len; base = stream.base }
