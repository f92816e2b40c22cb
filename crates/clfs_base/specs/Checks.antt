-- The image that a slot spells, and the first wrong byte of one that spells none. A byte that isn't there is wrong.
use Rattle.std.specs.Prelude.{ℕ, zero, suc, ◌+◌, ◌-◌, Bool, not, ◌&&◌, ◌||◌, ◌==◌, nat_lt, nat_le, if◌then◌else◌, List, length, take, drop, map, find, slice_index}
use Rattle.std.specs.Prelude.{Option, Some, None, Result, Ok}
use Rattle.std.specs.List.{range_with_len, list_any, list_all}
use Rattle.std.specs.Option.{option_map, option_or}
use Rattle.std.specs.Str.{bytes_eq}
use Rattle.clfs_lsn.specs.Names.{is_name_byte}
use Rattle.clfs_lsn.specs.Checks.{unless_wrong}
use Rattle.clfs_base.specs.declared.image.BaseImage.{BaseImage}
use Rattle.clfs_base.specs.declared.image.Row.{Row}
use Rattle.clfs_base.specs.declared.layout.Layout.{Layout}
use Rattle.clfs_base.specs.declared.layout.Numbers.{Numbers}
use Rattle.clfs_base.specs.declared.layout.Field.{Field}
use Rattle.clfs_base.specs.Layout.{slot_bytes, fields_end, files_at, rows_at, file_place, row_bytes, row_place, number_at, numbers_of, layout_in, fields}

-- some of so many bytes from a place on aren't there
abbrev pub is_short : List ℕ → ℕ → ℕ → Bool
is_short bytes at width = nat_lt (length bytes) (at + width)

-- The first that is found, counting on from a number so many times.
unfoldable pub first_some : (ℕ → Option ℕ) → ℕ → ℕ → Option ℕ
first_some fault from zero = None
first_some fault from (suc n) = option_or (fault from) (first_some fault (from + 1) n)

-- what is wrong, told at a place
abbrev pub told : Bool → ℕ → Option ℕ
told is_wrong at = if is_wrong then Some at else None

-- a byte isn't there or isn't 0
abbrev pub is_other : List ℕ → ℕ → Bool
is_other bytes at = is_short bytes at 1 || not (slice_index bytes at == 0)

-- the first byte from one place up to another that isn't 0
abbrev pub other_byte : List ℕ → ℕ → ℕ → Option ℕ
other_byte bytes from end = first_some (λ at. told (is_other bytes at) at) from (end - from)

-- a field isn't there, or its number is none that it may have
abbrev pub is_wrong_field : List ℕ → Field → Bool
is_wrong_field bytes f =
    is_short bytes f.at f.width
    || not ((f.may_be_zero && (f.number == 0)) || (nat_le f.least f.number && nat_le f.number f.most))

-- the first byte of the first field that is wrong
abbrev pub wrong_field : List ℕ → List Field → Option ℕ
wrong_field bytes table = option_map (λ f. f.at) (find (is_wrong_field bytes) table)

-- the file number of the listed container so many after the first
abbrev pub file_in : List ℕ → ℕ → ℕ
file_in bytes i = number_at (file_place i) 2 bytes

-- the file numbers of so many listed containers
abbrev pub files_in : List ℕ → ℕ → List ℕ
files_in bytes count = map (file_in bytes) (range_with_len 0 count)

-- a number that no further container's file can have: none of those made, or one of these
abbrev pub is_no_file : ℕ → List ℕ → ℕ → Bool
is_no_file made earlier file = not (nat_le 1 file && nat_le file made) || list_any (λ other. other == file) earlier

-- a file number isn't there, or none that its container can have after the earlier ones
abbrev pub is_wrong_file : List ℕ → ℕ → ℕ → Bool
is_wrong_file bytes made i = is_short bytes (file_place i) 2 || is_no_file made (files_in bytes i) (file_in bytes i)

-- the first byte of the first file number that is wrong
abbrev pub wrong_file : List ℕ → ℕ → ℕ → Option ℕ
wrong_file bytes made count = first_some (λ i. told (is_wrong_file bytes made i) (file_place i)) 0 count

-- the length of the name that a row at a place begins with
abbrev pub name_len : List ℕ → ℕ → ℕ
name_len bytes at = slice_index bytes at

-- the name in a row at a place
abbrev pub name_in : List ℕ → ℕ → List ℕ
name_in bytes at = take (name_len bytes at) (drop (at + 16) bytes)

-- the stream of the row so many after the first
abbrev pub row_of : Layout → List ℕ → ℕ → Row
row_of layout bytes i =
    record { name = name_in bytes (row_place layout i); base = number_at (row_place layout i + 8) 8 bytes }

-- the streams of so many rows
abbrev pub rows_of : Layout → List ℕ → ℕ → List Row
rows_of layout bytes count = map (row_of layout bytes) (range_with_len 0 count)

-- one of these streams has this name
abbrev pub is_taken : List ℕ → List Row → Bool
is_taken name rows = list_any (λ row. bytes_eq row.name name) rows

-- a name's length isn't there, or is none that a name may have
abbrev pub is_wrong_length : Layout → List ℕ → ℕ → Bool
is_wrong_length layout bytes at =
    is_short bytes at 1 || not (nat_le 1 (name_len bytes at) && nat_le (name_len bytes at) layout.longest_name)

-- a name that no further stream can have: a byte of it is none that a name may have, or one of these streams has it
abbrev pub is_no_name : List Row → List ℕ → Bool
is_no_name earlier name = not (list_all is_name_byte name) || is_taken name earlier

-- a name isn't there whole, or none that its stream can have after the earlier ones
abbrev pub is_wrong_name : List ℕ → ℕ → List Row → Bool
is_wrong_name bytes at earlier = is_short bytes (at + 16) (name_len bytes at) || is_no_name earlier (name_in bytes at)

-- The first wrong byte of a row at a place, after these rows: the length of the name, the seven zeros, the base, which only has
-- to be there, the name, and the zeros after it.
abbrev pub row_fault : Layout → List ℕ → ℕ → List Row → Option ℕ
row_fault layout bytes at earlier =
    option_or (told (is_wrong_length layout bytes at) at)
    (option_or (other_byte bytes (at + 1) (at + 8))
    (option_or (told (is_short bytes (at + 8) 8) (at + 8))
    (option_or (told (is_wrong_name bytes at earlier) (at + 16))
    (other_byte bytes (at + 16 + name_len bytes at) (at + row_bytes layout)))))

-- the first wrong byte of so many rows
abbrev pub wrong_row : Layout → List ℕ → ℕ → Option ℕ
wrong_row layout bytes count = first_some (λ i. row_fault layout bytes (row_place layout i) (rows_of layout bytes i)) 0 count

-- The first wrong byte after the fields of a slot with these numbers: the zeros after them, the file numbers, the zeros after those,
-- the rows, and the zeros up to the slot's end.
abbrev pub behind_fields : Layout → List ℕ → Numbers → Option ℕ
behind_fields layout bytes n =
    option_or (other_byte bytes fields_end files_at)
    (option_or (wrong_file bytes n.files_made n.listed)
    (option_or (other_byte bytes (file_place n.listed) rows_at)
    (option_or (wrong_row layout bytes n.streams)
    (other_byte bytes (row_place layout n.streams) slot_bytes))))

-- The first wrong byte of a slot, its gate apart: the fields in their order, and then what is after them.
unfoldable pub slot_fault : Layout → List ℕ → Option ℕ
slot_fault layout bytes =
    let n = numbers_of bytes in option_or (wrong_field bytes (fields layout n)) (behind_fields layout bytes n)

-- the image of a slot's numbers, files and streams
abbrev pub image_with : Numbers → List ℕ → List Row → BaseImage
image_with n files streams = record {
  version = n.version;
  turn = n.turn;
  block_sectors = n.block_sectors;
  container_sectors = n.container_sectors;
  containers = n.containers;
  files_made = n.files_made;
  first = n.first;
  archiving = n.archiving == 1;
  automatic = n.automatic == 1;
  maximum = n.maximum;
  minimum = n.minimum;
  growth = n.growth;
  tail = n.tail;
  dedicated = n.dedicated == 1;
  files = files;
  streams = streams;
}

-- what a slot says of its log where nothing is wrong in it
abbrev pub image_of : Layout → List ℕ → BaseImage
image_of layout bytes =
    let n = numbers_of bytes in image_with n (files_in bytes n.listed) (rows_of layout bytes n.streams)

-- the image that a slot spells, or the first byte at which it is wrong
abbrev pub image_at : List ℕ → Result BaseImage ℕ
image_at bytes = unless_wrong (λ at. at) (slot_fault (layout_in bytes) bytes) (Ok (image_of (layout_in bytes) bytes))
