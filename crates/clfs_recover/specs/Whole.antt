-- Whether the files of a log are there at full length, as a test.
use Rattle.std.specs.Prelude.{ℕ, zero, suc, ◌*◌, Bool, true, false, ◌&&◌, nat_le, List, length, Result, Ok, Err}
use Rattle.clfs_lsn.specs.Format.{sector_bytes}
use Rattle.clfs_disk.specs.Files.{Files}
use Rattle.clfs_base.specs.declared.image.BaseImage.{BaseImage}
use Rattle.clfs_base.specs.declared.refusal.NewestRefusal.{NewestRefusal}
use Rattle.clfs_base.specs.Layout.{slot_bytes}
use Rattle.clfs_base.specs.Slots.{newest_of}

-- files 1 to this number have at least so many bytes
abbrev pub all_long : Files → ℕ → ℕ → Bool
all_long files bytes zero = true
all_long files bytes (suc n) = nat_le bytes (length (files (suc n))) && all_long files bytes n

-- the base file, and the files that this newest copy says were made, are there at full length
abbrev pub are_long : Files → Result (ℕ × BaseImage) NewestRefusal → Bool
are_long files (Ok (slot, image)) =
    nat_le (2 * slot_bytes) (length (files 0)) && all_long files (sector_bytes * image.container_sectors) image.files_made
are_long files (Err refusal) = false

-- the files of a log are there at full length
abbrev pub are_whole : Files → Bool
are_whole files = are_long files (newest_of (files 0))
