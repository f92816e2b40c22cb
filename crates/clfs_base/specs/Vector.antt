-- The first copy of a small log, byte by byte, for the worked rows.
use Rattle.std.specs.Prelude.{ℕ, ◌-◌, false, List, [], ◌∷◌, ◌++◌, replicate, Option}
use Rattle.clfs_base.specs.declared.image.BaseImage.{BaseImage}
use Rattle.clfs_base.specs.Layout.{slot_bytes, layout_in, numbers_of, fields}
use Rattle.clfs_base.specs.Checks.{wrong_field}

-- The front of the slot of a log with blocks of 2 sectors and 2 containers of 8 sectors, of which container 1 is listed, in a version.
abbrev pub front : ℕ → List ℕ
front version =
    165 ∷ version ∷ 0 ∷ 0 ∷ 2 ∷ 0 ∷ 0 ∷ 0 ∷ 8 ∷ 0 ∷ 0 ∷ 0 ∷ 2 ∷ 0 ∷ 2 ∷ 0 ∷ 1 ∷ 0 ∷ 0 ∷ 0 ∷ 1 ∷ 0 ∷ 0 ∷ 0 ∷ replicate 40 0 ++ (1 ∷ 0 ∷ [])

-- the image of that log in the second version
abbrev pub small_image : BaseImage
small_image = record {
  version = 2;
  turn = 0;
  block_sectors = 2;
  container_sectors = 8;
  containers = 2;
  files_made = 2;
  first = 1;
  archiving = false;
  automatic = false;
  maximum = 0;
  minimum = 0;
  growth = 0;
  tail = 0;
  dedicated = false;
  files = 1 ∷ [];
  streams = [];
}

-- A base file that has the first three bytes of both slots, all others 0: of each its gate, its version and its turn.
abbrev pub two_slots : ℕ → ℕ → ℕ → ℕ → ℕ → ℕ → List ℕ
two_slots gate version turn other_gate other_version other_turn =
    gate ∷ version ∷ turn ∷ replicate (slot_bytes - 3) 0 ++ (other_gate ∷ other_version ∷ other_turn ∷ [])

-- the first wrong field of a front
abbrev pub fault : List ℕ → Option ℕ
fault bytes = wrong_field bytes (fields (layout_in bytes) (numbers_of bytes))
