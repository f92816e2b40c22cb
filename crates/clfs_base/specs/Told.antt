-- What is told of a base file without its images: numbers, and places of the file at which the rest stands.
use Rattle.std.specs.Prelude.{ℕ, List, take, drop, Result, Ok, Err}
use Rattle.clfs_base.specs.declared.image.BaseImage.{BaseImage}
use Rattle.clfs_base.specs.declared.image.Row.{Row}
use Rattle.clfs_base.specs.declared.entries.RowPlace.{RowPlace}
use Rattle.clfs_base.specs.declared.layout.Numbers.{Numbers}
use Rattle.clfs_base.specs.declared.refusal.NewestRefusal.{NewestRefusal}
use Rattle.clfs_base.specs.Spelling.{numbers_for}

-- the slot that counts and the numbers of its image, or why there is none
abbrev pub numbers_told : Result (ℕ × BaseImage) NewestRefusal → Result (ℕ × Numbers) NewestRefusal
numbers_told (Ok x) = Ok (x.0, numbers_for x.1)
numbers_told (Err refusal) = Err refusal

-- the row whose name and base are told so
abbrev pub row_told : List ℕ → RowPlace → Row
row_told bytes place = record { name = take place.name_len (drop place.name_at bytes); base = place.base }
