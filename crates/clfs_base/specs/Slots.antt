-- The two slots of the base file, and which of them counts.
use Rattle.std.specs.Prelude.{◌==◌, ℕ, ◌+◌, ◌*◌, ◌%◌, Bool, ◌&&◌, ◌||◌, nat_lt, if◌then◌else◌, List, length, take, drop, slice_index, Result, Ok, Err}
use Rattle.clfs_lsn.specs.Format.{open_gate}
use Rattle.clfs_base.specs.declared.image.BaseImage.{BaseImage}
use Rattle.clfs_base.specs.declared.newest.Front.{Front}
use Rattle.clfs_base.specs.declared.refusal.NewestRefusal.{NewestRefusal}
use Rattle.clfs_base.specs.declared.refusal.NewestRefusal.TheVariants.{NoBase, BadByte}
use Rattle.clfs_base.specs.Layout.{slot_bytes}
use Rattle.clfs_base.specs.Checks.{image_at}

-- a slot's first byte in the base file
abbrev pub slot_place : ℕ → ℕ
slot_place slot = slot_bytes * slot

-- the bytes of a slot that are there
abbrev pub slot_of : List ℕ → ℕ → List ℕ
slot_of base slot = take slot_bytes (drop (slot_place slot) base)

-- a slot's gate byte is there and open
abbrev pub is_open_slot : List ℕ → ℕ → Bool
is_open_slot base slot = slice_index base (slot_place slot) == open_gate

-- a slot's turn
abbrev pub turn_of : List ℕ → ℕ → ℕ
turn_of base slot = slice_index base (slot_place slot + 2)

-- a slot's turn isn't there, or is none
abbrev pub is_wrong_turn : List ℕ → ℕ → Bool
is_wrong_turn base slot = nat_lt (length base) (slot_place slot + 3) || nat_lt 2 (turn_of base slot)

-- Of two turns the newer one is the other plus 1 modulo 3; equal ones are wrong.
abbrev pub newer_slot : ℕ → ℕ → Result ℕ NewestRefusal
newer_slot first second =
    if first == second then Err (BadByte 1 2) else if second == (first + 1) % 3 then Ok 1 else Ok 0

-- what decides on a slot: its gate and its turn
abbrev pub front_of : List ℕ → ℕ → Front
front_of base slot = record {
  is_open = is_open_slot base slot;
  is_wrong_turn = is_wrong_turn base slot;
  turn = turn_of base slot;
}

-- The slot that counts: the open one, or of two open ones that with the newer turn, where both are turns.
abbrev pub slot_by : Front → Front → Result ℕ NewestRefusal
slot_by first second =
    if first.is_open && second.is_open
    then (if first.is_wrong_turn then Err (BadByte 0 2)
    else if second.is_wrong_turn then Err (BadByte 1 2)
    else newer_slot first.turn second.turn)
    else if first.is_open then Ok 0
    else if second.is_open then Ok 1
    else Err NoBase

-- the slot of a base file that counts
abbrev pub used_slot : List ℕ → Result ℕ NewestRefusal
used_slot base = slot_by (front_of base 0) (front_of base 1)

-- the slot with its image, or its first wrong byte
abbrev pub copy_in : ℕ → Result BaseImage ℕ → Result (ℕ × BaseImage) NewestRefusal
copy_in slot (Ok image) = Ok (slot, image)
copy_in slot (Err at) = Err (BadByte slot at)

-- the image of the slot that counts, where one does
abbrev pub copy_of : List ℕ → Result ℕ NewestRefusal → Result (ℕ × BaseImage) NewestRefusal
copy_of base (Ok slot) = copy_in slot (image_at (slot_of base slot))
copy_of base (Err refusal) = Err refusal

-- The newest copy of a base file: the slot that counts and its image, or why there is none.
abbrev pub newest_of : List ℕ → Result (ℕ × BaseImage) NewestRefusal
newest_of base = copy_of base (used_slot base)
