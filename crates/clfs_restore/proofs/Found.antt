-- What was read of a file: the bytes that are there, as many as there is room for; and the newest copy in those of the base file.
use Rattle.clfs_restore.proofs.Words.{◌≡◌, ℕ, zero, suc, ◌-◌, ◌≤◌, min, List, [], ◌∷◌, length, take, drop, Some, None, Result, Ok, Err, refl, sym, ◌∙◌, ap}
use Rattle.clfs_restore.proofs.Words.{arith, take-take, drop-take, GivesCopy, ArchiveRefusal, Log, TooLong, NoMemory, BaseImage, NewestRefusal, image_at}
use Rattle.clfs_restore.proofs.Words.{slot_of, copy_in, newest_of}
use Rattle.clfs_model.specs.declared.refusal.Refusal.TheVariants as refusals
use Rattle.clfs_base.specs.declared.refusal.NewestRefusal.TheVariants as newest
use Rattle.clfs_base.specs.Layout.{layout_in}
use Rattle.clfs_base.specs.Checks.{slot_fault, image_of}
use Rattle.clfs_base.specs.Slots.{used_slot, copy_of}

-- the bytes that a read finds are the front of the file that there is room for
abbrev nothing : List ℕ
nothing = []

by_count : (n m : ℕ) (file : List ℕ) → n ≡ m → take n file ≡ take m file
by_count n m file e = ap (λ (k : ℕ). take k file) e

front_all : (room : ℕ) (file : List ℕ) → take (min room (length file)) file ≡ take room file
front_all zero file = by_count (min 0 (length file)) 0 file (omega arith)
front_all (suc room) [] = by_count (min (suc room) (length nothing)) 0 [] (omega arith)
front_all (suc room) (byte ∷ file) =
    by_count (min (suc room) (length (byte ∷ file))) (suc (min room (length file))) (byte ∷ file) (omega arith)
    ∙ ap (λ (l : List ℕ). byte ∷ l) (front_all room file)

pub front_found : (file : List ℕ) (room n : ℕ) → n ≡ min room (length file - 0) → take n (drop 0 file) ≡ take room file
front_found file room n is = ap (λ (k : ℕ). take k file) (is ∙ same) ∙ front_all room file
  where
    same : min room (length file - 0) ≡ min room (length file)
    same = omega arith

-- the slots of a base file stand in its first 32,768 bytes
pub same_slot : (file : List ℕ) (slot : ℕ) → slot ≤ 1 → slot_of (take 32768 file) slot ≡ slot_of file slot
same_slot file zero few = take-take 16384 32768 file (omega arith)
same_slot file (suc zero) few = ap (take 16384) (drop-take 16384 16384 file) ∙ take-take 16384 16384 (drop 16384 file) (omega arith)
same_slot file (suc (suc n)) few = absurd (omega (arith, few))

pub image_right : (bytes : List ℕ) (image : BaseImage) → slot_fault (layout_in bytes) bytes ≡ None → image ≡ image_of (layout_in bytes) bytes
    → image_at bytes ≡ Ok image
image_right bytes image none is = rw (none, is) refl

pub image_wrong : (bytes : List ℕ) (at : ℕ) → slot_fault (layout_in bytes) bytes ≡ Some at → image_at bytes ≡ Err at
image_wrong bytes at some = rw some refl

-- the newest copy, by that of the slot that counts
pub copy_found : (file bytes : List ℕ) (slot : ℕ) (image : BaseImage) → used_slot file ≡ Ok slot → bytes ≡ slot_of file slot
    → slot_fault (layout_in bytes) bytes ≡ None → image ≡ image_of (layout_in bytes) bytes → newest_of file ≡ Ok (slot, image)
copy_found file bytes slot image used there none is =
    ap (copy_of file) used ∙ ap (λ (l : List ℕ). copy_in slot (image_at l)) (sym there) ∙ ap (copy_in slot) (image_right bytes image none is)

pub copy_wrong : (file bytes : List ℕ) (slot at : ℕ) → used_slot file ≡ Ok slot → bytes ≡ slot_of file slot
    → slot_fault (layout_in bytes) bytes ≡ Some at → newest_of file ≡ Err (newest.BadByte slot at)
copy_wrong file bytes slot at used there some =
    ap (copy_of file) used ∙ ap (λ (l : List ℕ). copy_in slot (image_at l)) (sym there) ∙ ap (copy_in slot) (image_wrong bytes at some)

pub no_slot : (file : List ℕ) (refusal : NewestRefusal) → used_slot file ≡ Err refusal → newest_of file ≡ Err refusal
no_slot file refusal used = ap (copy_of file) used

-- and why there is none
pub no_copy : (refusal : ArchiveRefusal) (read : Result (ℕ × BaseImage) NewestRefusal) → (cause : NewestRefusal) × (read ≡ Err cause)
    → GivesCopy (Err refusal) read
no_copy (Log refusals.DiskFault) read n = tt
no_copy (Log refusal) read n = n
no_copy (TooLong bytes) read n = n
no_copy NoMemory read n = tt
