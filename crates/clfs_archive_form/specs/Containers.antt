-- The containers of an archive. Their blocks are judged as opening judges those of a file, but a closed gate is wrong among them.
use Rattle.std.specs.Prelude.{ℕ, zero, suc, ◌+◌, ◌*◌, ◌%◌, max, Bool, ◌&&◌, ◌==◌, nat_le, nat_lt, if◌then◌else◌, List, [], ◌∷◌, length, take, drop, Result, Ok, Err}
use Rattle.clfs_lsn.specs.Format.{sector_bytes}
use Rattle.clfs_lsn.specs.declared.entry.LogEntry.{LogEntry}
use Rattle.clfs_lsn.specs.declared.shape.Shape.{Shape}
use Rattle.clfs_block.specs.Checks.{head_of}
use Rattle.clfs_block.specs.Records.{◌>>=◌, told_as}
use Rattle.clfs_base.specs.Layout.{number_at}
use Rattle.clfs_base.specs.Checks.{is_short}
use Rattle.clfs_recover.specs.Stored.{stored_in}
use Rattle.clfs_recover.specs.declared.refusal.LoadRefusal.{LoadRefusal}
use Rattle.clfs_recover.specs.declared.refusal.LoadRefusal.TheVariants.{NoBase, Damaged, DiskFault, NoMemory}
use Rattle.clfs_archive_form.specs.declared.archive.Stored.{Stored}
use Rattle.clfs_archive_form.specs.Form.{piece_header}

-- the bytes of the block that bytes begin with: as many sectors as it says, and at least one
abbrev pub block_bytes : List ℕ → ℕ
block_bytes bytes = sector_bytes * max 1 (head_of bytes).sectors

-- bytes taken apart into blocks, each as long as it says or as there are bytes, of which there are no more than so many
abbrev pub blocks_of : ℕ → List ℕ → List (List ℕ)
blocks_of zero bytes = []
blocks_of (suc n) [] = []
blocks_of (suc n) (byte ∷ bytes) = take (block_bytes (byte ∷ bytes)) (byte ∷ bytes) ∷ blocks_of n (drop (block_bytes (byte ∷ bytes)) (byte ∷ bytes))

-- all blocks that bytes are taken apart into: none has fewer bytes than one
abbrev pub blocks_in : List ℕ → List (List ℕ)
blocks_in bytes = blocks_of (length bytes) bytes

-- the number of four bytes at a place; where it isn't there whole, the input's end is told
abbrev pub number_there : List ℕ → ℕ → Result ℕ ℕ
number_there bytes at = if is_short bytes at 4 then Err (length bytes) else Ok (number_at at 4 bytes)

-- that number where it is this one
abbrev pub just_there : List ℕ → ℕ → ℕ → Result ℕ ℕ
just_there bytes at wanted = do
  number ← number_there bytes at
  if number == wanted then Ok number else Err at

-- the length of blocks of a container: whole sectors, and no more than a container has
abbrev pub is_length : Shape → ℕ → Bool
is_length shape len = (len % sector_bytes == 0) && nat_le len (sector_bytes * shape.container_sectors)

-- such a length at a place
abbrev pub length_there : Shape → List ℕ → ℕ → Result ℕ ℕ
length_there shape bytes at = do
  len ← number_there bytes at
  if is_length shape len then Ok len else Err at

-- the byte of an input that is told for damage in a container whose blocks begin at a byte
abbrev pub damage_told : ℕ → LoadRefusal → ℕ
damage_told from (Damaged container offset at) = from + offset + at
damage_told from NoBase = from
damage_told from DiskFault = from
damage_told from NoMemory = from

-- what stands of so many bytes from a place on
abbrev pub part_of : List ℕ → ℕ → ℕ → List ℕ
part_of bytes from len = take len (drop from bytes)

-- all of so many bytes from a place on are there; where they aren't, the input's end is told
abbrev pub whole_there : List ℕ → ℕ → ℕ → Result ℕ ℕ
whole_there bytes from len = if nat_lt (length bytes) (from + len) then Err (length bytes) else Ok len

-- the records of a container's blocks, so many bytes from a place on, in a log of so many streams; or the first wrong byte of the input
abbrev pub records_there : Shape → ℕ → ℕ → List ℕ → ℕ → ℕ → Result (List LogEntry) ℕ
records_there shape streams id bytes from len =
    told_as (damage_told from) (stored_in shape streams id 0 (blocks_in (part_of bytes from len)))

-- the container of this id at a place: its id, the length of its blocks, and the blocks
unfoldable pub container_there : Shape → ℕ → List ℕ → ℕ → ℕ → Result Stored ℕ
container_there shape streams bytes id at = do
  number ← just_there bytes at id
  len ← length_there shape bytes (at + 4)
  entries ← records_there shape streams id bytes (at + piece_header) len
  whole ← whole_there bytes (at + piece_header) len
  Ok (record { container = id; at = at + piece_header; len = len })

-- so many containers, whose ids go on from one
abbrev pub containers_there : Shape → ℕ → List ℕ → ℕ → ℕ → ℕ → Result (List Stored) ℕ
containers_there shape streams bytes zero id at = Ok []
containers_there shape streams bytes (suc count) id at = do
  stored ← container_there shape streams bytes id at
  others ← containers_there shape streams bytes count (id + 1) (at + piece_header + stored.len)
  Ok (stored ∷ others)

-- the bytes of containers one after the other
abbrev pub containers_len : List Stored → ℕ
containers_len [] = 0
containers_len (stored ∷ others) = piece_header + stored.len + containers_len others
