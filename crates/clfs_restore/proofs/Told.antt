-- By what bytes damage is told that archiving meets.
use Rattle.clfs_restore.proofs.Words.{inl, inr, ◌≡◌, ◌⊎◌, ℕ, ◌+◌, ◌-◌, ◌*◌, ◌<◌, ◌≤◌, Bool, eqb, ltb, ◌||◌, List, [], ◌∷◌, length, take, drop, Result, Ok}
use Rattle.clfs_restore.proofs.Words.{Err, refl, sym, ◌∙◌, ap, subst, arith, length-drop, length-take, lsn_number, Shape, BaseImage, Front, NewestRefusal}
use Rattle.clfs_restore.proofs.Words.{image_at, copy_in, front_of, slot_by, slot_of, shape_of, LoadRefusal, archived_image, TellsArchived, TellsContainer}
use Rattle.clfs_restore.proofs.Words.{refused_as, ArchiveRefusal, Log, TooLong, NoMemory}
use Rattle.std.proofs.lemmas.Bool.{le-ltb}
use Rattle.clfs_base.specs.declared.refusal.NewestRefusal.TheVariants as newest
use Rattle.clfs_base.specs.Layout.{slot_bytes}
use Rattle.clfs_base.specs.Decoding.{GivesNewest}
use Rattle.clfs_base.specs.Reading.{IsReadCopy, IsUsedSlot, copy_with}
use Rattle.clfs_base.specs.Slots.{slot_place}
use Rattle.clfs_block.specs.Records.{block_records}
use Rattle.clfs_block.specs.declared.head.BlockRefusal.TheVariants as blocks
use Rattle.clfs_model.specs.declared.refusal.Refusal.TheVariants as refusals
use Rattle.clfs_recover.specs.Files.{without_copy}
use Rattle.clfs_recover.specs.declared.refusal.LoadRefusal.TheVariants as loading
use Rattle.clfs_restore.specs.Archiving.{TellsDamage}
use Rattle.clfs_restore.proofs.Archived.{skipped}

-- ---- the slot that counts

-- three bytes of a slot decide on it
front_of_three : (bytes : List ℕ) → front_of bytes 0 ≡ front_of (take 3 bytes) 0
front_of_three [] = refl
front_of_three (a ∷ []) = refl
front_of_three (a ∷ b ∷ []) = refl
front_of_three (a ∷ b ∷ c ∷ more) = ap by_length (le-ltb (length (a ∷ b ∷ c ∷ more)) 3 (omega arith))
  where
    by_length : Bool → Front
    by_length short = record { is_open = eqb a 165; is_wrong_turn = short || ltb 2 c; turn = c }

three_at_most : (bytes : List ℕ) → length (take 3 bytes) ≤ 3
three_at_most [] = omega arith
three_at_most (a ∷ []) = omega arith
three_at_most (a ∷ b ∷ []) = omega arith
three_at_most (a ∷ b ∷ c ∷ more) = omega arith

gives_itself : (answer : Result ℕ NewestRefusal) → GivesNewest answer answer
gives_itself (Ok slot) = refl
gives_itself (Err newest.NoBase) = refl
gives_itself (Err (newest.BadByte slot at)) = refl
gives_itself (Err newest.DiskFault) = tt
gives_itself (Err newest.NoMemory) = tt

pub slot_told : (answer : Result ℕ NewestRefusal) (first second : List ℕ) → answer ≡ slot_by (front_of first 0) (front_of second 0) → IsUsedSlot answer
slot_told answer first second is = record {
  first = take 3 first;
  second = take 3 second;
  few_first = three_at_most first;
  few_second = three_at_most second;
  used = subst (λ (r : Result ℕ NewestRefusal). GivesNewest answer r) (is ∙ (λ i. slot_by (front_of_three first i) (front_of_three second i))) (gives_itself answer);
}

-- ---- the newest copy

-- the bytes of a slot are no more than a slot has
pub one_slot : (base : List ℕ) (slot : ℕ) (bytes : List ℕ) → bytes ≡ slot_of base slot → length bytes ≤ slot_bytes
one_slot base slot bytes is = omega (arith, ap length is, length-take 16384 (drop (slot_place slot) base))

by_no_slot : (reason : NewestRefusal) (slot : Result ℕ NewestRefusal) → GivesNewest {Y = ℕ} (Err reason) slot
    → GivesNewest {Y = ℕ × BaseImage} (Err reason) (copy_with [] slot)
by_no_slot newest.NoBase slot is = ap (λ (r : Result ℕ NewestRefusal). copy_with [] r) is
by_no_slot (newest.BadByte n at) slot is = ap (λ (r : Result ℕ NewestRefusal). copy_with [] r) is
by_no_slot newest.DiskFault slot is = tt
by_no_slot newest.NoMemory slot is = tt

no_slot_told : (reason : NewestRefusal) → IsUsedSlot (Err reason) → IsReadCopy (Err reason)
no_slot_told reason at = record {
  first = at.first;
  second = at.second;
  bytes = [];
  few_first = at.few_first;
  few_second = at.few_second;
  few = omega arith;
  read = by_no_slot reason (slot_by (front_of at.first 0) (front_of at.second 0)) at.used;
}

slot_with : (answer : Result (ℕ × BaseImage) NewestRefusal) (slot : ℕ) (bytes : List ℕ) → IsUsedSlot (Ok slot) → length bytes ≤ slot_bytes
    → GivesNewest answer (copy_in slot (image_at bytes)) → IsReadCopy answer
slot_with answer slot bytes at few is = record {
  first = at.first;
  second = at.second;
  bytes = bytes;
  few_first = at.few_first;
  few_second = at.few_second;
  few = few;
  read = subst (λ (r : Result ℕ NewestRefusal). GivesNewest answer (copy_with bytes r)) (sym at.used) is;
}

pub copy_told : (slot : ℕ) (bytes : List ℕ) (image : BaseImage) → IsUsedSlot (Ok slot) → length bytes ≤ slot_bytes → image_at bytes ≡ Ok image
    → IsReadCopy (Ok (slot, image))
copy_told slot bytes image at few is = slot_with (Ok (slot, image)) slot bytes at few (ap (copy_in slot) is)

-- ---- damage

damage_by : (refusal : ArchiveRefusal) (reason : NewestRefusal) → IsReadCopy (Err reason) → refusal ≡ refused_as (without_copy reason) → TellsDamage refusal
damage_by (Log (refusals.Damaged container offset at)) reason copy is = record { newest = Err reason; copy = copy; told = is }
damage_by (Log refusal) reason copy is = tt
damage_by (TooLong bytes) reason copy is = tt
damage_by NoMemory reason copy is = tt

-- of the base file
pub no_slot_damage : (refusal : ArchiveRefusal) (reason : NewestRefusal) → IsUsedSlot (Err reason) → refusal ≡ refused_as (without_copy reason) → TellsDamage refusal
no_slot_damage refusal reason at is = damage_by refusal reason (no_slot_told reason at) is

pub slot_damage : (refusal : ArchiveRefusal) (slot at : ℕ) (bytes : List ℕ) → IsUsedSlot (Ok slot) → length bytes ≤ slot_bytes → image_at bytes ≡ Err at
    → refusal ≡ refused_as (without_copy (newest.BadByte slot at)) → TellsDamage refusal
slot_damage refusal slot at bytes used few is told =
    damage_by refusal (newest.BadByte slot at) (slot_with (Err (newest.BadByte slot at)) slot bytes used few (ap (copy_in slot) is)) told

pub fault_told : (refusal : ArchiveRefusal) → refusal ≡ Log refusals.DiskFault → TellsDamage refusal
fault_told refusal is = subst TellsDamage (sym is) tt

-- archiving is off
pub off_told : (refusal : ArchiveRefusal) (Off : Type 0) → (refusal ≡ NoMemory) ⊎ ((refusal ≡ Log refusals.Ephemeral) × Off) → TellsDamage refusal
off_told refusal Off (inl is) = subst TellsDamage (sym is) tt
off_told refusal Off (inr is) = subst TellsDamage (sym is.0) tt

-- of a container
pub container_told : (shape : Shape) (streams id : ℕ) (bytes : List ℕ) (refusal : LoadRefusal) → length bytes ≤ 512 * shape.container_sectors
    → ((container offset at : ℕ) → refusal ≡ loading.Damaged container offset at
    → (container ≡ id) × (block_records shape streams (lsn_number id offset 0) (drop offset bytes) ≡ Err (blocks.BadByte at)))
    → (refusal ≡ loading.NoBase → ⊥) → TellsContainer shape streams id 1 (refused_as refusal)
container_told shape streams id bytes loading.NoBase few damage based = absurd (based refl)
container_told shape streams id bytes (loading.Damaged container offset at) few damage based =
    let here = damage container offset at refl in (
      omega (arith, here.0),
      omega (arith, here.0),
      record {
        bytes = bytes;
        few = few;
        wrong = subst (λ (n : ℕ). block_records shape streams (lsn_number n offset 0) (drop offset bytes) ≡ Err (blocks.BadByte at)) (sym here.0) here.1;
      },
    )
container_told shape streams id bytes loading.DiskFault few damage based = tt
container_told shape streams id bytes loading.NoMemory few damage based = tt

pub fault_in_container : (shape : Shape) (streams id count : ℕ) (refusal : ArchiveRefusal) → refusal ≡ Log refusals.DiskFault → TellsContainer shape streams id count refusal
fault_in_container shape streams id count refusal is = subst (TellsContainer shape streams id count) (sym is) tt

-- one of those that are archived
pub among_containers : (shape : Shape) (streams from count i : ℕ) (refusal : ArchiveRefusal) → i < count → TellsContainer shape streams (from + i) 1 refusal
    → TellsContainer shape streams from count refusal
among_containers shape streams from count i (Log (refusals.Damaged container offset at)) within (above, below, wrong) =
    (omega (arith, above), omega (arith, below, within), wrong)
among_containers shape streams from count i (Log refusal) within told = tt
among_containers shape streams from count i (TooLong bytes) within told = tt
among_containers shape streams from count i NoMemory within told = tt

pub archived_told : (image : BaseImage) (refusal : ArchiveRefusal)
    → TellsContainer (shape_of image) (length image.streams) (image.first + skipped image) (length (drop (skipped image) image.files)) refusal
    → TellsArchived image refusal
archived_told image (Log (refusals.Damaged container offset at)) (above, below, wrong) =
    let count = length-drop (skipped image) image.files in
    (omega (arith, above), omega (arith, above), omega (arith, above, below, count), wrong)
archived_told image (Log refusal) told = tt
archived_told image (TooLong bytes) told = tt
archived_told image NoMemory told = tt

pub archive_damage : (slot : ℕ) (copy : BaseImage) (refusal : ArchiveRefusal) → IsReadCopy (Ok (slot, copy)) → TellsArchived (archived_image copy) refusal
    → TellsDamage refusal
archive_damage slot copy (Log (refusals.Damaged container offset at)) is told = record { newest = Ok (slot, copy); copy = is; told = told }
archive_damage slot copy (Log refusal) is told = tt
archive_damage slot copy (TooLong bytes) is told = tt
archive_damage slot copy NoMemory is told = tt
