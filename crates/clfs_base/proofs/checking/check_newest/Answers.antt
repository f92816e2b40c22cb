use Rattle.clfs_base.proofs.Words.{◌≡◌, ℕ, List, Option, None, Result, Ok, Err, ap, sym, ◌∙◌, err_from_is_err_and, unless_wrong, BaseImage, Numbers}
use Rattle.clfs_base.proofs.Words.{NewestRefusal, layout_in, slot_fault, image_of, image_at, used_slot, copy_in, copy_of, newest_of}
use Rattle.clfs_base.specs.Slots as slots
use Rattle.clfs_base.specs.Told.{numbers_told}
use Rattle.clfs_base.proofs.Telling.{same_numbers}
use Rattle.clfs_base.proofs.checking.check_newest.Goals as goal

module _ (base : List ℕ) where
  -- the answer by that for the slot
  by_slot : (used : Result ℕ NewestRefusal) → used_slot base ≡ used → numbers_told (newest_of base) ≡ numbers_told (copy_of base used)
  by_slot used is = ap (λ (u : Result ℕ NewestRefusal). numbers_told (copy_of base u)) is

  -- and by what the slot's bytes are read as
  by_bytes : (slot : ℕ) (bytes : List ℕ) (read : Result BaseImage ℕ) → used_slot base ≡ Ok slot → bytes ≡ slots.slot_of base slot
      → image_at bytes ≡ read → numbers_told (newest_of base) ≡ numbers_told (copy_in slot read)
  by_bytes slot bytes read used there is =
      by_slot (Ok slot) used
      ∙ ap (λ (l : List ℕ). numbers_told (copy_in slot (image_at l))) (sym there)
      ∙ ap (λ (r : Result BaseImage ℕ). numbers_told (copy_in slot r)) is

told_of : ℕ → Numbers → Result (ℕ × Numbers) NewestRefusal
told_of slot n = Ok (slot, n)

pub returns-in_err-slot-clause-exact : goal.returns-in_err-slot-clause-exact
returns-in_err-slot-clause-exact c =
    let p = err_from_is_err_and c.from_residual.result c.from_residual.ensures.1 in
    rw (p.1, p.2) (sym (by_slot c.args.base.now (Err c.in_err-slot.field-0.0) (sym c.used_slot.ensures.exact ∙ c.in_err-slot.was)))

pub returns-in-Some-clause-exact : goal.returns-in-Some-clause-exact
returns-in-Some-clause-exact c =
    let bytes = c.slot_of-bytes.result.now in
    let image = image_of (layout_in bytes) bytes in
    sym (by_bytes c.args.base.now c.in_ok-slot.slot bytes (Err c.in-Some.at) (sym c.used_slot.ensures.exact ∙ c.in_ok-slot.was) c.slot_of-bytes.ensures
    (ap (λ (o : Option ℕ). unless_wrong (λ (at : ℕ). at) o (Ok image)) (sym c.check_copy.ensures.exact ∙ c.in-Some.is)))

pub returns-in-None-clause-exact : goal.returns-in-None-clause-exact
unfolding told_of
returns-in-None-clause-exact c =
    let slot = c.in_ok-slot.slot in
    let bytes = c.slot_of-bytes.result.now in
    let layout = layout_in bytes in
    let right : slot_fault layout bytes ≡ None = sym c.check_copy.ensures.exact ∙ c.in-None.is in
    sym (by_bytes c.args.base.now slot bytes (Ok (image_of layout bytes)) (sym c.used_slot.ensures.exact ∙ c.in_ok-slot.was) c.slot_of-bytes.ensures
    (c.check_copy.ensures.read c.in-None.is)
    ∙ ap (λ (n : Numbers). told_of slot n) (same_numbers layout bytes right ∙ sym c.numbers_of.ensures))
