-- What the three parts of writing a base copy leave in the base file.
use Rattle.std.specs.Prelude.{◌≡◌, ◌≢◌, ◌⊎◌, ℕ, ◌+◌, ◌-◌, ◌%◌, ◌≤◌, false, List, length, take, drop, Ok}
use Rattle.clfs_disk.specs.Files.{Files}
use Rattle.clfs_disk.specs.State.{DiskState, Leaves}
use Rattle.clfs_base.specs.declared.image.BaseImage.{BaseImage}
use Rattle.clfs_base.specs.Layout.{slot_bytes}
use Rattle.clfs_base.specs.Spelling.{IsImage, spelled}
use Rattle.clfs_base.specs.Slots.{slot_place, is_open_slot, newest_of}

-- the slot beside one
abbrev pub older_of : ℕ → ℕ
older_of slot = 1 - slot

-- the bytes of a slot after its gate, as many as are there
abbrev pub body_of : List ℕ → ℕ → List ℕ
body_of base slot = take (slot_bytes - 1) (drop (slot_place slot + 1) base)

-- Of the old files the base file alone was changed, not in its length, and its newest copy is this one.
pub record HasNewest (slot : ℕ) (image : BaseImage) (old files : Files) : Type 0 where
  pub newest : newest_of (files 0) ≡ Ok (slot, image)
  pub same_length : length (files 0) ≡ length (old 0)
  pub elsewhere : (file : ℕ) → file ≢ 0 → files file ≡ old file

-- This slot is the one that a newer copy is written to: the one beside the newest copy.
pub record IsOlder (slot used : ℕ) (image : BaseImage) (files : Files) : Type 0 where
  pub newest : newest_of (files 0) ≡ Ok (used, image)
  pub beside : slot ≡ older_of used

-- After its closed gate the older slot has all of a copy whose turn is the newest one's plus 1 modulo 3.
pub record IsFilled (slot : ℕ) (image next : BaseImage) (files : Files) : Type 0 where
  pub next_image : IsImage next
  pub turn : next.turn ≡ (image.turn + 1) % 3
  pub closed : is_open_slot (files 0) slot ≡ false
  pub body : body_of (files 0) slot ≡ spelled next

-- No slot is open, and after the gate of this one stands all of a copy: the first one of a new log.
pub record IsFirst (slot : ℕ) (next : BaseImage) (files : Files) : Type 0 where
  pub next_image : IsImage next
  pub closed : (other : ℕ) → other ≤ 1 → is_open_slot (files 0) other ≡ false
  pub body : body_of (files 0) slot ≡ spelled next

-- No slot is open.
abbrev pub HasNoCopy : Files → Type 0
HasNoCopy files = (slot : ℕ) → slot ≤ 1 → is_open_slot (files 0) slot ≡ false

-- No slot is open, or the newest copy is the first one of a new log.
abbrev pub NoneOrFirst : ℕ → BaseImage → Files → Files → Type 0
NoneOrFirst slot next old files = HasNoCopy files ⊎ HasNewest slot next old files

-- A crash at each moment from old to new leaves the newest copy of before.
abbrev pub KeepsNewest : ℕ → DiskState → DiskState → Type 0
KeepsNewest slot old new =
    (used : ℕ) (image : BaseImage) → IsOlder slot used image old.files → Leaves (HasNewest used image old.files) old new

-- The newest copy is that of before.
abbrev pub StaysNewest : ℕ → Files → Files → Type 0
StaysNewest slot old new = (used : ℕ) (image : BaseImage) → IsOlder slot used image old → HasNewest used image old new

-- The newest copy is that of before or the next one.
abbrev pub EitherNewest : ℕ → ℕ → BaseImage → BaseImage → Files → Files → Type 0
EitherNewest slot used image next old files = HasNewest used image old files ⊎ HasNewest slot next old files
