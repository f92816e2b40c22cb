-- Blocks that are written after the open blocks of a file.
use Rattle.std.specs.Prelude.{◌≡◌, ◌≢◌, ◌⊎◌, ℕ, ◌+◌, ◌<◌, ◌≤◌, List, ◌∷◌, ◌++◌, length, take, drop, slice_index}
use Rattle.clfs_lsn.specs.Format.{open_gate}
use Rattle.clfs_disk.specs.Files.{Files}
use Rattle.clfs_disk.specs.State.{DiskState, Leaves}
use Rattle.clfs_container.specs.OpenBlocks.{Opens, total}

-- A file has these open blocks, and then so many sectors, the first of which begins at this place with a gate that is there
-- and closed.
pub record IsBehind (sectors file : ℕ) (blocks : List (List ℕ)) (rest at : ℕ) (files : Files) : Type 0 where
  pub opens : Opens sectors (files file) blocks rest
  pub place : total blocks ≡ at
  pub there : at < length (files file)
  pub closed : slice_index (files file) at ≢ open_gate

-- A file has these open blocks, and then no sector or a gate that is there and closed.
pub record HasBlocks (sectors file : ℕ) (blocks : List (List ℕ)) (rest : ℕ) (files : Files) : Type 0 where
  pub opens : Opens sectors (files file) blocks rest
  pub shut : (rest ≡ 0) ⊎ ((total blocks < length (files file)) × (slice_index (files file) (total blocks) ≢ open_gate))

-- These bytes stand after the gate at a place of a file.
pub record HasBody (file at : ℕ) (body : List ℕ) (files : Files) : Type 0 where
  pub whole : at + 1 + length body ≤ length (files file)
  pub is : take (length body) (drop (at + 1) (files file)) ≡ body

-- The bytes after a gate that, once it is open, begin with these blocks: after them no sector is left, or a closed gate
-- is among the bytes.
pub record IsGroup (rest : ℕ) (body : List ℕ) (blocks : List (List ℕ)) (left : ℕ) : Type 0 where
  pub opens : Opens rest (open_gate ∷ body) blocks left
  pub some : 0 < total blocks
  pub whole : total blocks ≤ length body + 1
  pub shut : (left ≡ 0) ⊎ ((total blocks ≤ length body) × (slice_index (open_gate ∷ body) (total blocks) ≢ open_gate))

-- The other files hold what they held.
abbrev pub OthersStay : ℕ → Files → Files → Type 0
OthersStay file old new = (other : ℕ) → other ≢ file → new other ≡ old other

-- At each moment from old to new a crash leaves the open blocks that lie before a closed gate, the gate closed, and the
-- other files as they were.
abbrev pub KeepsBlocks : ℕ → ℕ → DiskState → DiskState → Type 0
KeepsBlocks file at old new = (sectors : ℕ) (blocks : List (List ℕ)) (rest : ℕ) → IsBehind sectors file blocks rest at old.files
    → Leaves (λ image. IsBehind sectors file blocks rest at image × OthersStay file old.files image) old new

-- A closed gate is closed still, after the same open blocks, and the other files are as they were.
abbrev pub StaysBehind : ℕ → ℕ → Files → Files → Type 0
StaysBehind file at old new = (sectors : ℕ) (blocks : List (List ℕ)) (rest : ℕ) → IsBehind sectors file blocks rest at old
    → IsBehind sectors file blocks rest at new × OthersStay file old new

-- Where the bytes of a group stand after a closed gate, a crash at each moment from old to new leaves the blocks of before,
-- or these and all of the group, and the other files as they were.
abbrev pub OpensInCrash : ℕ → ℕ → DiskState → DiskState → Type 0
OpensInCrash file at old new = (sectors : ℕ) (blocks : List (List ℕ)) (rest : ℕ) (body : List ℕ) (more : List (List ℕ)) (left : ℕ)
    → IsBehind sectors file blocks rest at old.files → HasBody file at body old.files → IsGroup rest body more left
    → Leaves (λ image. (IsBehind sectors file blocks rest at image ⊎ HasBlocks sectors file (blocks ++ more) left image)
    × OthersStay file old.files image) old new

-- Where the bytes of a group stand after a closed gate, the file now has the blocks of before and those of the group, and
-- the other files are as they were.
abbrev pub OpensGroup : ℕ → ℕ → Files → Files → Type 0
OpensGroup file at old new = (sectors : ℕ) (blocks : List (List ℕ)) (rest : ℕ) (body : List ℕ) (more : List (List ℕ)) (left : ℕ)
    → IsBehind sectors file blocks rest at old → HasBody file at body old → IsGroup rest body more left
    → HasBlocks sectors file (blocks ++ more) left new × OthersStay file old new
