-- An archive as it is put together, piece by piece.
use Rattle.std.specs.Prelude.{◌≡◌, ℕ, ◌≤◌, List, ◌++◌, length, take, Result, Ok, Err}
use Rattle.byteorder.specs.Endian.{little_bytes}
use Rattle.clfs_base.specs.declared.image.BaseImage.{BaseImage}
use Rattle.clfs_base.specs.Spelling.{spelled}
use Rattle.clfs_recover.specs.declared.refusal.LoadRefusal.{LoadRefusal}
use Rattle.clfs_recover.specs.declared.refusal.LoadRefusal.TheVariants.{NoBase, Damaged, DiskFault, NoMemory}
use Rattle.clfs_archive_form.specs.Form.{magic, archived_image}

-- the most bytes that an archive may have
abbrev pub most_archive : ℕ
most_archive = 67108864

-- the bytes that were there before, and those of the archive so far
pub record Drafted : Type 0 where
  pub before : List ℕ
  pub archive : List ℕ

-- what an archive has before its containers: the letters, the base copy, and how many containers follow
abbrev pub front_bytes : BaseImage → ℕ → List ℕ
front_bytes image count = magic ++ (spelled (archived_image image) ++ little_bytes 4 count)

-- what it has of a container whose blocks are these bytes
abbrev pub container_bytes : ℕ → List ℕ → List ℕ
container_bytes id blocks = little_bytes 4 id ++ (little_bytes 4 (length blocks) ++ blocks)

-- The bytes from before are at the front. Those of the archive are counted, and stand after them as long as they are no more than it may have.
pub record IsDraft (bytes : List ℕ) (start count : ℕ) (archive : List ℕ) : Type 0 where
  pub within : start ≤ length bytes
  pub counted : count ≡ length archive
  pub kept : length archive ≤ most_archive → bytes ≡ take start bytes ++ archive

-- The open blocks end at this byte. Out of memory may come in place of that, and nothing else.
abbrev pub EndsAt : Result ℕ LoadRefusal → ℕ → Type 0
EndsAt (Ok end) bytes = end ≡ bytes
EndsAt (Err NoBase) bytes = ⊥
EndsAt (Err (Damaged container offset at)) bytes = ⊥
EndsAt (Err DiskFault) bytes = ⊥
EndsAt (Err NoMemory) bytes = Unit {0}
