-- How a base copy is spelled in the bytes of its slot after the gate, and which images there are.
use Rattle.std.specs.Prelude.{◌≡◌, ◌≢◌, ◌⊎◌, ℕ, ◌+◌, ◌-◌, ◌^◌, ◌<◌, ◌≤◌, Bool, true, false, if◌then◌else◌, List, [], ◌∷◌, ◌++◌, length, replicate, slice_index, slice_index_or}
use Rattle.std.specs.List.{flat_map, list_all}
use Rattle.byteorder.specs.Endian.{little_bytes}
use Rattle.clfs_lsn.specs.Limits.{most_containers}
use Rattle.clfs_lsn.specs.Size.{IsShape}
use Rattle.clfs_base.specs.declared.image.BaseImage.{BaseImage}
use Rattle.clfs_lsn.specs.Names.{is_name_byte}
use Rattle.clfs_base.specs.declared.image.Row.{Row}
use Rattle.clfs_base.specs.declared.layout.Layout.{Layout}
use Rattle.clfs_base.specs.declared.layout.Numbers.{Numbers}
use Rattle.clfs_base.specs.declared.layout.Field.{Field}
use Rattle.clfs_base.specs.Layout.{slot_bytes, files_at, rows_at, fields, version_one, version_two, layout_of, most_minimum, most_tail, most_dedicated}

-- ---- which images there are

-- A name has at least one byte and no more than its room, each of them one that a name may have.
pub record IsName (room : ℕ) (name : List ℕ) : Type 0 where
  pub some : 1 ≤ length name
  pub few : length name ≤ room
  pub bytes : list_all is_name_byte name ≡ true

-- Each listed container has a file that was made, and no two have the same.
pub record AreFiles (made : ℕ) (files : List ℕ) : Type 0 where
  pub from_one : (i : ℕ) → i < length files → 1 ≤ slice_index files i
  pub to_last : (i : ℕ) → i < length files → slice_index files i ≤ made
  pub different : (i j : ℕ) → i < j → j < length files → slice_index files i ≢ slice_index files j

-- the row of the stream so many after the first
abbrev pub row_in : List Row → ℕ → Row
row_in rows i = slice_index_or rows i (record { name = []; base = 0 })

-- Each stream has a name, and no two have the same. A base is a number of eight bytes.
pub record AreRows (room : ℕ) (rows : List Row) : Type 0 where
  pub named : (i : ℕ) → i < length rows → IsName room (row_in rows i).name
  pub different : (i j : ℕ) → i < j → j < length rows → (row_in rows i).name ≢ (row_in rows j).name
  pub bases : (i : ℕ) → i < length rows → (row_in rows i).base < 2 ^ 64

-- a policy's value from the least to the most, or 0 where none is installed
abbrev pub IsPolicy : ℕ → ℕ → ℕ → Type 0
IsPolicy least most value = (value ≡ 0) ⊎ ((least ≤ value) × (value ≤ most))

-- 1 where it is on, else 0
abbrev pub flag : Bool → ℕ
flag on = if on then 1 else 0

-- What a base copy of this version may say of its log.
pub record IsImageOf (layout : Layout) (image : BaseImage) : Type 0 where
  pub version : image.version ≡ layout.version
  pub turn : image.turn ≤ 2
  pub shape : IsShape (record { block_sectors = image.block_sectors; container_sectors = image.container_sectors })
  pub some_containers : 1 ≤ image.containers
  pub containers_made : image.containers ≤ image.files_made
  pub few_made : image.files_made ≤ most_containers
  pub first : 1 ≤ image.first
  pub some_listed : 1 ≤ length image.files
  pub few_listed : length image.files ≤ image.containers
  pub last_id : image.first + length image.files ≤ 2 ^ 32
  pub maximum : IsPolicy 2 most_containers image.maximum
  pub minimum : IsPolicy 2 (most_minimum image.maximum) image.minimum
  pub growth : image.growth ≤ most_containers - 2
  pub tail : image.tail ≤ most_tail (flag image.archiving)
  pub dedicated : flag image.dedicated ≤ most_dedicated layout (length image.streams)
  pub files : AreFiles image.files_made image.files
  pub few_streams : length image.streams ≤ layout.most_streams
  pub rows : AreRows layout.longest_name image.streams

-- What a base copy may say of its log, in the version that it is of.
abbrev pub IsImage : BaseImage → Type 0
IsImage image = IsImageOf (layout_of image.version) image

-- The image as a copy has it that is written from now on.
abbrev pub current : BaseImage → BaseImage
current image = record image { version = version_two.version }

-- An image that the first version has room for: no dedicated log, and no more streams and no longer names than that version can have.
pub record FitsOne (image : BaseImage) : Type 0 where
  pub dedicated : image.dedicated ≡ false
  pub few_streams : length image.streams ≤ version_one.most_streams
  pub names : (i : ℕ) → i < length image.streams → length (row_in image.streams i).name ≤ version_one.longest_name

-- ---- how they are spelled

-- the numbers in the fields of an image
abbrev pub numbers_for : BaseImage → Numbers
numbers_for image = record {
  version = image.version;
  turn = image.turn;
  zero = 0;
  block_sectors = image.block_sectors;
  container_sectors = image.container_sectors;
  containers = image.containers;
  files_made = image.files_made;
  first = image.first;
  listed = length image.files;
  streams = length image.streams;
  archiving = flag image.archiving;
  automatic = flag image.automatic;
  maximum = image.maximum;
  minimum = image.minimum;
  growth = image.growth;
  tail = image.tail;
  dedicated = flag image.dedicated;
}

-- bytes filled up with zeros to so many
abbrev pub filled : ℕ → List ℕ → List ℕ
filled count bytes = bytes ++ replicate (count - length bytes) 0

-- a field's bytes
abbrev pub field_bytes : Field → List ℕ
field_bytes f = little_bytes f.width f.number

-- a file number's bytes
abbrev pub number_bytes : ℕ → List ℕ
number_bytes number = little_bytes 2 number

-- a row with so much room for the name: the name's length, seven zeros, the base, and the name filled up with zeros
abbrev pub spelled_row : ℕ → Row → List ℕ
spelled_row room row = length row.name ∷ replicate 7 0 ++ (little_bytes 8 row.base ++ filled room row.name)

-- Bytes 1 to 16,383 of a slot: the fields, the file numbers and the rows, each filled up with zeros.
abbrev pub spelled_as : Layout → BaseImage → List ℕ
spelled_as layout image =
    filled (files_at - 1) (flat_map field_bytes (fields layout (numbers_for image)))
    ++ (filled (rows_at - files_at) (flat_map number_bytes image.files)
    ++ filled (slot_bytes - rows_at) (flat_map (spelled_row layout.longest_name) image.streams))

-- The bytes of an image in the version that it is of.
abbrev pub spelled : BaseImage → List ℕ
spelled image = spelled_as (layout_of image.version) image
