-- The base copy of an archive. It is judged by the table of all base copies, with narrower ranges of some fields. A wrong field is told at its first
-- byte; one that the input's end cuts short is told there, whatever its first bytes are.
use Rattle.std.specs.Prelude.{ℕ, ◌+◌, ◌-◌, ◌^◌, ◌%◌, ◌==◌, nat_lt, if◌then◌else◌, List, length, take, drop, find, Option, Result, Ok}
use Rattle.std.specs.Option.{option_map_or}
use Rattle.clfs_lsn.specs.Lsn.{lsn_number}
use Rattle.clfs_lsn.specs.Checks.{unless_wrong}
use Rattle.clfs_base.specs.declared.demands.Asked.{Asked}
use Rattle.clfs_base.specs.declared.demands.Asked.TheVariants.{Anything, Between}
use Rattle.clfs_base.specs.declared.demands.Demands.{Demands}
use Rattle.clfs_base.specs.declared.image.BaseImage.{BaseImage}
use Rattle.clfs_base.specs.declared.layout.Field.{Field}
use Rattle.clfs_base.specs.Layout.{version_two, slot_bytes, files_at, rows_at, file_place, row_bytes, row_place, number_at, numbers_of, layout_in, fields}
use Rattle.clfs_base.specs.Checks.{is_short, name_len, image_of}
use Rattle.clfs_base.specs.Demands.{fault_within}
use Rattle.clfs_archive_form.specs.Form.{slot_at}

-- this number and no other
abbrev pub just : ℕ → Asked
just number = Between number number

-- what is asked of the copy of a first archive besides its tail: the second version, turn 0, and archiving that is on
abbrev pub first_demands : Demands
first_demands = record {
  version = just version_two.version;
  turn = just 0;
  block_sectors = Anything;
  container_sectors = Anything;
  streams = Anything;
  archiving = just 1;
  tail = Anything;
}

-- what is asked of the copy after this one: it is of the same shape, and has no fewer streams
abbrev pub later_demands : BaseImage → Demands
later_demands before = record first_demands {
  block_sectors = just before.block_sectors;
  container_sectors = just before.container_sectors;
  streams = Between (length before.streams) (2 ^ 16 - 1);
}

-- the id of the first container that a copy lists, 0 where it isn't there
abbrev pub first_listed : List ℕ → ℕ
first_listed slot = if is_short slot 16 4 then 0 else number_at 16 4 slot

-- and its tail doesn't lie in a container below the first one that it lists itself
abbrev pub with_tail : List ℕ → Demands → Demands
with_tail slot demands = record demands { tail = Between (lsn_number (first_listed slot) 0 0) (2 ^ 64 - 1) }

-- The slot of the archive that begins at a byte, as much as is there. The gate isn't judged.
abbrev pub slot_in : List ℕ → ℕ → List ℕ
slot_in bytes at = take slot_bytes (drop (at + slot_at) bytes)

-- the number of two bytes at a place, 0 where it isn't there
abbrev pub count_in : List ℕ → ℕ → ℕ
count_in slot at = if is_short slot at 2 then 0 else number_at at 2 slot

-- how many bytes a field has, one where there is none
abbrev pub width_of : Option Field → ℕ
width_of field = option_map_or (λ (f : Field). f.width) field 1

-- How many bytes are judged together at this byte of a copy's front: those of a field of the table.
abbrev pub field_width : List ℕ → ℕ → ℕ
field_width slot at = width_of (find (λ (f : Field). f.at == at) (fields version_two (numbers_of slot)))

-- At this byte of a row: those of its base, and those of its name.
abbrev pub row_width : List ℕ → ℕ → ℕ → ℕ
row_width slot at in_row = if in_row == 8 then 8 else if in_row == 16 then name_len slot (at - 16) else 1

-- And at this byte of a copy: besides these, those of the number of a listed container's file. Any other byte stands alone.
abbrev pub width_at : List ℕ → ℕ → ℕ
width_at slot at =
    if nat_lt at files_at then field_width slot at
    else if nat_lt at (file_place (count_in slot 20)) then 2
    else if nat_lt at rows_at then 1
    else if nat_lt at (row_place version_two (count_in slot 22)) then row_width slot at ((at - rows_at) % row_bytes version_two)
    else 1

-- The byte of the input that is told for a wrong byte of the copy in an archive that begins at a byte.
abbrev pub copy_told : List ℕ → ℕ → ℕ → ℕ
copy_told bytes at wrong =
    if is_short (slot_in bytes at) wrong (width_at (slot_in bytes at) wrong) then length bytes else at + slot_at + wrong

-- the image of a copy that is as asked, or its first wrong byte
abbrev pub copy_judged : Demands → List ℕ → Result BaseImage ℕ
copy_judged demands slot =
    unless_wrong (λ at. at) (fault_within (with_tail slot demands) (layout_in slot) slot) (Ok (image_of (layout_in slot) slot))
