-- One or more archives one after the other. The checks go from the first byte on; the first that fails tells its byte.
use Rattle.std.specs.Prelude.{ℕ, zero, suc, ◌+◌, ◌-◌, ◌/◌, Bool, ◌&&◌, ◌==◌, nat_lt, if◌then◌else◌, List, [], ◌∷◌, ◌++◌, length, slice_index, Option, Some, None, Result, Ok, Err}
use Rattle.clfs_lsn.specs.Lsn.{container_of}
use Rattle.clfs_base.specs.declared.demands.Demands.{Demands}
use Rattle.clfs_base.specs.declared.image.BaseImage.{BaseImage}
use Rattle.clfs_block.specs.Checks.{first_failing}
use Rattle.clfs_block.specs.Records.{◌>>=◌, told_as}
use Rattle.clfs_recover.specs.Walk.{shape_of}
use Rattle.clfs_archive_form.specs.declared.archive.Archive.{Archive}
use Rattle.clfs_archive_form.specs.declared.archive.Stored.{Stored}
use Rattle.clfs_archive_form.specs.Form.{magic, count_at, containers_at}
use Rattle.clfs_archive_form.specs.Copies.{first_demands, later_demands, slot_in, copy_told, copy_judged}
use Rattle.clfs_archive_form.specs.Containers.{just_there, containers_there, containers_len}

-- a place, or the byte that was found to be wrong before it
abbrev pub unless_found : Option ℕ → ℕ → Result ℕ ℕ
unless_found None at = Ok at
unless_found (Some wrong) at = Err (at + wrong)

-- the letter of this number stands after a place
abbrev pub has_letter : List ℕ → ℕ → ℕ → Bool
has_letter bytes at i = nat_lt (at + i) (length bytes) && (slice_index bytes (at + i) == slice_index magic i)

-- the letters that an archive begins with stand at a place; else the first byte that isn't there or is none of them
abbrev pub magic_there : List ℕ → ℕ → Result ℕ ℕ
magic_there bytes at = unless_found (first_failing (has_letter bytes at) 0 (length magic)) at

-- the base copy of the archive that begins at a place
unfoldable pub copy_there : Demands → List ℕ → ℕ → Result BaseImage ℕ
copy_there demands bytes at = told_as (copy_told bytes at) (copy_judged demands (slot_in bytes at))

-- the id of the last container that a copy lists
abbrev pub last_listed : BaseImage → ℕ
last_listed image = image.first + length image.files - 1

-- how many containers an archive has: those from its tail's to the last one that its copy lists
abbrev pub wanted_count : BaseImage → ℕ
wanted_count image = last_listed image + 1 - container_of image.tail

-- the containers of the archive that begins at a place and has this copy
unfoldable pub rest_there : BaseImage → List ℕ → ℕ → Result (List Stored) ℕ
rest_there image bytes at = do
  count ← just_there bytes (at + count_at) (wanted_count image)
  containers_there (shape_of image) (length image.streams) bytes count (container_of image.tail) (at + containers_at)

-- the archive that begins at a place, and the place after it
unfoldable pub archive_there : Demands → List ℕ → ℕ → Result (Archive × ℕ) ℕ
archive_there demands bytes at = do
  start ← magic_there bytes at
  image ← copy_there demands bytes at
  containers ← rest_there image bytes at
  Ok (record { image = image; containers = containers }, at + containers_at + containers_len containers)

-- the archives from a place on, of which there are no more than so many, after one with this copy
abbrev pub archives_behind : ℕ → BaseImage → List ℕ → ℕ → Result (List Archive) ℕ
archives_behind zero before bytes at = Ok []
archives_behind (suc n) before bytes at = if nat_lt at (length bytes) then (do
  next ← archive_there (later_demands before) bytes at
  others ← archives_behind n next.0.image bytes next.1
  Ok (next.0 ∷ others))
    else Ok []

-- The archives that bytes are, one or more; or the first wrong byte, the bytes' end where bytes are missing.
unfoldable pub archives_in : List ℕ → Result (List Archive) ℕ
archives_in bytes = do
  first ← archive_there first_demands bytes 0
  others ← archives_behind (length bytes / containers_at) first.0.image bytes first.1
  Ok (first.0 ∷ others)

-- An archive with another one after it: the later base copy counts, and the containers of both are there.
abbrev pub with_later : Archive → Archive → Archive
with_later earlier later = record { image = later.image; containers = earlier.containers ++ later.containers }

-- archives after one, taken together with it
abbrev pub joined_from : Archive → List Archive → Archive
joined_from archive [] = archive
joined_from archive (later ∷ others) = joined_from (with_later archive later) others

-- Archives taken together, where there are any.
abbrev pub joined : List Archive → Option Archive
joined [] = None
joined (archive ∷ others) = Some (joined_from archive others)
