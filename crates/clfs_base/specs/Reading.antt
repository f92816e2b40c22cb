-- What reading the newest base copy makes of the bytes that it is given, whatever the disk.
use Rattle.std.specs.Prelude.{ℕ, ◌≤◌, List, length, Result, Ok, Err}
use Rattle.clfs_base.specs.declared.image.BaseImage.{BaseImage}
use Rattle.clfs_base.specs.declared.refusal.NewestRefusal.{NewestRefusal}
use Rattle.clfs_base.specs.Layout.{slot_bytes}
use Rattle.clfs_base.specs.Checks.{image_at}
use Rattle.clfs_base.specs.Slots.{front_of, slot_by, copy_in}
use Rattle.clfs_base.specs.Decoding.{GivesNewest}

-- the slot that counts with its image by these bytes, where one counts
abbrev pub copy_with : List ℕ → Result ℕ NewestRefusal → Result (ℕ × BaseImage) NewestRefusal
copy_with bytes (Ok slot) = copy_in slot (image_at bytes)
copy_with bytes (Err refusal) = Err refusal

-- The slot that counts is told by some bytes of each of the two, no more than three.
pub record IsUsedSlot (answer : Result ℕ NewestRefusal) : Type 0 where
  pub first : List ℕ
  pub second : List ℕ
  pub few_first : length first ≤ 3
  pub few_second : length second ≤ 3
  pub used : GivesNewest answer (slot_by (front_of first 0) (front_of second 0))

-- The newest copy is told by some bytes of each slot, no more than three, and by some of the slot that counts, no more than a slot has. That they
-- are those that the disk gave can't be said of a disk that doesn't tell what its files hold.
pub record IsReadCopy (answer : Result (ℕ × BaseImage) NewestRefusal) : Type 0 where
  pub first : List ℕ
  pub second : List ℕ
  pub bytes : List ℕ
  pub few_first : length first ≤ 3
  pub few_second : length second ≤ 3
  pub few : length bytes ≤ slot_bytes
  pub read : GivesNewest answer (copy_with bytes (slot_by (front_of first 0) (front_of second 0)))
