-- An archive of a log, byte by byte: eight letters, a base copy without its gate, the number of containers, and each of these: its id, the bytes of
-- its open blocks, and the blocks. All numbers are little-endian.
use Rattle.std.specs.Prelude.{◌≡◌, ℕ, ◌-◌, true, List, ◌++◌, length, drop, codes}
use Rattle.std.specs.List.{flat_map, range_with_len, zip}
use Rattle.byteorder.specs.Endian.{little_bytes}
use Rattle.clfs_lsn.specs.Lsn.{container_of}
use Rattle.clfs_disk.specs.Files.{Files}
use Rattle.clfs_container.specs.OpenBlocks.{total}
use Rattle.clfs_base.specs.declared.image.BaseImage.{BaseImage}
use Rattle.clfs_base.specs.Spelling.{current, spelled}
use Rattle.clfs_recover.specs.Stored.{HasLog}

-- the letters that an archive begins with
abbrev pub magic : List ℕ
magic = codes "CLFSARC1"

-- Where the base copy's slot stands after an archive's first byte. Its gate isn't there: in its place is the last letter.
abbrev pub slot_at : ℕ
slot_at = 7

-- where the number of containers stands, after the slot
abbrev pub count_at : ℕ
count_at = 16391

-- where the first container stands: no archive has fewer bytes
abbrev pub containers_at : ℕ
containers_at = 16395

-- the bytes of a container before its blocks: its id and their length
abbrev pub piece_header : ℕ
piece_header = 8

-- a base copy as an archive has it: in the second version, with turn 0
abbrev pub archived_image : BaseImage → BaseImage
archived_image image = record (current image) { turn = 0 }

-- a container's id, the length of its blocks, and these one after the other
abbrev pub piece_bytes : ℕ × List (List ℕ) → List ℕ
piece_bytes piece = little_bytes 4 piece.0 ++ (little_bytes 4 (total piece.1) ++ flat_map (λ (block : List ℕ). block) piece.1)

-- the archive of a base copy and of containers, each an id and blocks
abbrev pub archive_bytes : BaseImage → List (ℕ × List (List ℕ)) → List ℕ
archive_bytes image pieces =
    magic ++ (spelled (archived_image image) ++ (little_bytes 4 (length pieces) ++ flat_map piece_bytes pieces))

-- the containers that are archived: of those that the copy lists, whose blocks these are, the archive tail's and all after it
abbrev pub archived_pieces : BaseImage → List (List (List ℕ)) → List (ℕ × List (List ℕ))
archived_pieces image blocks = drop (container_of image.tail - image.first) (zip (range_with_len image.first (length blocks)) blocks)

-- The archive of files: that of their newest copy, in which archiving is on, and of the open blocks in the containers that it lists.
pub record IsArchiveOf (files : Files) (bytes : List ℕ) : Type 0 where
  pub slot : ℕ
  pub image : BaseImage
  pub blocks : List (List (List ℕ))
  pub log : HasLog slot image blocks files
  pub archiving : image.archiving ≡ true
  pub is : bytes ≡ archive_bytes image (archived_pieces image blocks)
