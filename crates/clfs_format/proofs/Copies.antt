-- The first copy of a log, written after closed gates.
use Rattle.std.proofs.Common.{◌≡◌, inl, inr, ⊎_elim, ℕ, zero, suc, ◌+◌, ◌*◌, ◌≤◌, List, eqb, ◌∙◌, ap, arith}
use Rattle.clfs_base.specs.Layout.{slot_bytes}
use Rattle.clfs_base.specs.Slots.{slot_place}
use Rattle.clfs_disk.specs.Files.{Files, TornIn}
use Rattle.clfs_base.specs.declared.image.BaseImage.{BaseImage}
use Rattle.clfs_base.specs.Spelling.{IsImage, spelled}
use Rattle.clfs_base.specs.Writing.{body_of, HasNewest, IsFirst, HasNoCopy, NoneOrFirst}

-- bytes after the gate of slot 0 leave both gates
gates_stay : (old new : Files) → HasNoCopy old → TornIn 0 1 16383 old new → HasNoCopy new
gates_stay old new none torn zero le = ap (λ (k : ℕ). eqb k 165) (torn.here.below 0 (omega arith)) ∙ none 0 (omega arith)
gates_stay old new none torn (suc zero) le = ap (λ (k : ℕ). eqb k 165) (torn.here.above 16384 (omega arith)) ∙ none 1 (omega arith)
gates_stay old new none torn (suc (suc n)) le = absurd (omega (arith, le))

-- after the closed gates the copy stands whole
pub first_is : (image : BaseImage) (body : List ℕ) (old mid : Files) → IsImage image → body ≡ spelled image
    → HasNoCopy old → TornIn 0 1 16383 old mid → body_of (mid 0) 0 ≡ body → IsFirst 0 image mid
first_is image body old mid fits is none torn stands = record {
  next_image = fits;
  closed = gates_stay old mid none torn;
  body = stands ∙ is;
}

-- the copy is the newest, and the other files are as they were before its bytes were written
pub newest_from : (image : BaseImage) (old mid new : Files) → TornIn 0 1 16383 old mid → HasNewest 0 image mid new → HasNewest 0 image old new
newest_from image old mid new torn has = record {
  newest = has.newest;
  same_length = has.same_length ∙ torn.here.same_length;
  elsewhere = λ file apart. has.elsewhere file apart ∙ torn.elsewhere file apart;
}

-- while the bytes are written
pub none_yet : (image : BaseImage) (old files : Files) → HasNoCopy old → TornIn 0 1 16383 old files → NoneOrFirst 0 image old files
none_yet image old files none torn = inl (gates_stay old files none torn)

-- while the gate is opened
pub none_or_first : (image : BaseImage) (old mid files : Files) → TornIn 0 1 16383 old mid → NoneOrFirst 0 image mid files → NoneOrFirst 0 image old files
none_or_first image old mid files torn either = ⊎_elim (λ (none : HasNoCopy files). inl none)
    (λ (has : HasNewest 0 image mid files). inr (newest_from image old mid files torn has)) either

-- a base file with two slots has room for the first one, and for its gate
pub first_fits_in : (n : ℕ) → 2 * slot_bytes ≤ n → slot_place 0 + slot_bytes ≤ n
first_fits_in n long = omega (arith, long)

pub gate_fits_in : (n m : ℕ) → m ≡ n → 2 * slot_bytes ≤ n → slot_place 0 + 1 ≤ m
gate_fits_in n m same long = omega (arith, same, long)
