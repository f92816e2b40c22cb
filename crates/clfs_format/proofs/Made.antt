-- The files of a log that has just been made, and how they come to be there.
use Rattle.std.proofs.Common.{◌≢◌, inl, inr, ⊎_elim, ℕ, zero, suc, ◌<◌, ◌≤◌, Bool, true, false, List, [], ◌∷◌, length, refl, sym, ◌∙◌, ap, subst, arith}
use Rattle.std.specs.Prelude.{slice_index}
use Rattle.clfs_lsn.specs.Format.{open_gate}
use Rattle.clfs_lsn.specs.Limits.{most_containers}
use Rattle.clfs_lsn.specs.Size.{IsShape}
use Rattle.clfs_lsn.specs.declared.shape.Shape.{Shape}
use Rattle.clfs_disk.specs.Files.{Files}
use Rattle.clfs_disk.specs.State.{DiskState, IsSettled, Later, Leaves}
use Rattle.clfs_base.specs.Spelling.{IsImage, flag}
use Rattle.clfs_base.specs.Slots.{is_open_slot}
use Rattle.clfs_base.specs.Writing.{HasNewest, HasNoCopy, NoneOrFirst}
use Rattle.clfs_format.specs.Making.{first_image, HasNoGates, IsMade, IsMadeAtOnce}

-- no slot is open where no gate is
pub none_open : (files : Files) → HasNoGates files → HasNoCopy files
none_open files none zero le = none.first_slot
none_open files none (suc zero) le = none.second_slot
none_open files none (suc (suc n)) le = absurd (omega (arith, le))

-- the first copy was written, and the other files are as they were
pub made_by : (shape : Shape) (dedicated : Bool) (containers : ℕ) (mid files : Files) → HasNoGates mid → HasNewest 0 (first_image shape dedicated containers) mid files
    → IsMade shape dedicated containers files
made_by shape dedicated containers mid files gates has = record {
  newest = has.newest;
  there = subst (λ (l : List ℕ). 0 < length l) (sym (has.elsewhere 1 (λ is. omega (arith, is)))) gates.there;
  closed = subst (λ (l : List ℕ). slice_index l 0 ≢ open_gate) (sym (has.elsewhere 1 (λ is. omega (arith, is)))) gates.closed;
}

-- the log comes to be there at once
pub made_at_once : (shape : Shape) (dedicated : Bool) (containers : ℕ) (old mid new : DiskState) → Later old mid → IsSettled mid → HasNoGates mid.files
    → Leaves (NoneOrFirst 0 (first_image shape dedicated containers) mid.files) mid new → IsMadeAtOnce shape dedicated containers old new
made_at_once shape dedicated containers old mid new past settled gates leaves = record {
  since = mid.clock;
  begun = past.later;
  ended = leaves.later;
  none = λ image at slot few.
      ap (λ (l : List ℕ). is_open_slot l slot) (settled.only image (leaves.past mid.clock image (omega arith) at) 0) ∙ none_open mid.files gates slot few;
  later = λ moment image from until at. ⊎_elim
      (λ (none : HasNoCopy image). inl none)
      (λ (has : HasNewest 0 (first_image shape dedicated containers) mid.files image).
      inr (made_by shape dedicated containers mid.files image gates has))
      (leaves.each moment image from until at);
}

-- the first copy is one that a log can have
pub first_fits : (shape : Shape) (dedicated : Bool) (containers : ℕ) → IsShape shape → 1 ≤ containers → containers ≤ most_containers
    → IsImage (first_image shape dedicated containers)
first_fits shape dedicated containers is_shape some few = record {
  version = refl;
  turn = omega arith;
  shape = record {
    some_sectors = is_shape.some_sectors;
    largest_block = is_shape.largest_block;
    two_blocks = is_shape.two_blocks;
    largest_container = is_shape.largest_container;
  };
  some_containers = some;
  containers_made = omega arith;
  few_made = few;
  first = omega arith;
  some_listed = omega arith;
  few_listed = some;
  last_id = omega arith;
  maximum = inl refl;
  minimum = inl refl;
  growth = omega arith;
  tail = omega arith;
  dedicated = may_be dedicated;
  files = record { from_one = one_file; to_last = last_file; different = λ i j before lt. absurd (omega (arith, before, lt)) };
  few_streams = omega arith;
  rows = record {
    named = λ i lt. absurd (omega (arith, lt));
    different = λ i j before lt. absurd (omega (arith, lt));
    bases = λ i lt. absurd (omega (arith, lt));
  };
}
  where
    may_be : (b : Bool) → flag b ≤ 1
    may_be true = omega arith
    may_be false = omega arith

    one_file : (i : ℕ) → i < 1 → 1 ≤ slice_index (1 ∷ []) i
    one_file zero lt = omega arith
    one_file (suc i) lt = absurd (omega (arith, lt))

    last_file : (i : ℕ) → i < 1 → slice_index (1 ∷ []) i ≤ containers
    last_file zero lt = some
    last_file (suc i) lt = absurd (omega (arith, lt))
