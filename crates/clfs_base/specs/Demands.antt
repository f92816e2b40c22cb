-- What may be asked of a copy besides what every copy keeps to: narrower ranges of single fields.
use Rattle.std.specs.Prelude.{◌≤◌, ℕ, Bool, true, not, ◌&&◌, ◌||◌, nat_le, List, [], ◌∷◌, length, find, Option}
use Rattle.std.specs.List.{zip}
use Rattle.std.specs.Option.{option_map, option_or}
use Rattle.clfs_base.specs.declared.demands.Asked.{Asked}
use Rattle.clfs_base.specs.declared.demands.Asked.TheVariants.{Anything, Between}
use Rattle.clfs_base.specs.declared.demands.Demands.{Demands}
use Rattle.clfs_base.specs.declared.image.BaseImage.{BaseImage}
use Rattle.clfs_base.specs.declared.layout.Layout.{Layout}
use Rattle.clfs_base.specs.declared.layout.Field.{Field}
use Rattle.clfs_base.specs.Layout.{numbers_of, fields}
use Rattle.clfs_base.specs.Spelling.{flag}
use Rattle.clfs_base.specs.Checks.{is_wrong_field, behind_fields}

-- any copy
abbrev pub anything : Demands
anything = record {
  version = Anything;
  turn = Anything;
  block_sectors = Anything;
  container_sectors = Anything;
  streams = Anything;
  archiving = Anything;
  tail = Anything;
}

-- what is asked of each field of the table, in its order
abbrev pub asked : Demands → List Asked
asked demands =
    demands.version
    ∷ demands.turn
    ∷ Anything
    ∷ demands.block_sectors
    ∷ demands.container_sectors
    ∷ Anything
    ∷ Anything
    ∷ Anything
    ∷ Anything
    ∷ demands.streams
    ∷ demands.archiving
    ∷ Anything
    ∷ Anything
    ∷ Anything
    ∷ Anything
    ∷ demands.tail
    ∷ Anything
    ∷ []

-- the test that a number is asked for
abbrev pub is_asked : Asked → ℕ → Bool
is_asked Anything number = true
is_asked (Between least most) number = nat_le least number && nat_le number most

-- a field is wrong, or its number is none that is asked for
abbrev pub is_wrong_within : List ℕ → Field × Asked → Bool
is_wrong_within bytes x = is_wrong_field bytes x.0 || not (is_asked x.1 x.0.number)

-- the first byte of the first such field
abbrev pub wrong_within : List ℕ → List (Field × Asked) → Option ℕ
wrong_within bytes table = option_map (λ (x : Field × Asked). x.0.at) (find (is_wrong_within bytes) table)

-- The first byte of a slot that is wrong or has another number than is asked for, its gate apart, in the order of the checks.
unfoldable pub fault_within : Demands → Layout → List ℕ → Option ℕ
fault_within demands layout bytes =
    option_or (wrong_within bytes (zip (fields layout (numbers_of bytes)) (asked demands))) (behind_fields layout bytes (numbers_of bytes))

-- A number is asked for.
abbrev pub IsAsked : Asked → ℕ → Type 0
IsAsked Anything number = Unit {0}
IsAsked (Between least most) number = (least ≤ number) × (number ≤ most)

-- An image is one that is asked for.
pub record Meets (demands : Demands) (image : BaseImage) : Type 0 where
  pub version : IsAsked demands.version image.version
  pub turn : IsAsked demands.turn image.turn
  pub block_sectors : IsAsked demands.block_sectors image.block_sectors
  pub container_sectors : IsAsked demands.container_sectors image.container_sectors
  pub streams : IsAsked demands.streams (length image.streams)
  pub archiving : IsAsked demands.archiving (flag image.archiving)
  pub tail : IsAsked demands.tail image.tail
