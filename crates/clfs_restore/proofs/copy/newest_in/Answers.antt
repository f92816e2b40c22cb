use Rattle.clfs_restore.proofs.Words.{ℕ, List, ◌∙◌, ap, arith, err_from_is_err_and, slot_of}
use Rattle.clfs_base.specs.declared.refusal.NewestRefusal.TheVariants as newest
use Rattle.clfs_restore.proofs.Found.{same_slot, copy_found, copy_wrong, image_right, image_wrong, no_slot, no_copy}
use Rattle.clfs_restore.proofs.Told.{copy_told, no_slot_damage, one_slot, slot_damage}
use Rattle.clfs_restore.proofs.copy.newest_in.Goals as goal

pub returns-in_err-slot-clause-copy : goal.returns-in_err-slot-clause-copy
returns-in_err-slot-clause-copy c file is =
    let p = err_from_is_err_and c.from_residual.result c.from_residual.ensures.1 in
    let first = c.slot_of.ensures ∙ ap (λ (l : List ℕ). slot_of l 0) is ∙ same_slot file 0 (omega arith) in
    let second = c.slot_of-2.ensures ∙ ap (λ (l : List ℕ). slot_of l 1) is ∙ same_slot file 1 (omega arith) in
    let none = c.in_err-slot.ensures.used file first second in
    rw (p.1, p.2) (no_copy c.in_err-slot.field-0.0 _ (none.0, no_slot file none.0 none.1))

pub returns-in-Ok-clause-copy : goal.returns-in-Ok-clause-copy
returns-in-Ok-clause-copy c file is =
    let slot = c.in_ok-slot.slot in
    let first = c.slot_of.ensures ∙ ap (λ (l : List ℕ). slot_of l 0) is ∙ same_slot file 0 (omega arith) in
    let second = c.slot_of-2.ensures ∙ ap (λ (l : List ℕ). slot_of l 1) is ∙ same_slot file 1 (omega arith) in
    let used = c.in_ok-slot.ensures.used file first second in
    let there = c.slot_of-bytes.ensures ∙ ap (λ (l : List ℕ). slot_of l slot) is ∙ same_slot file slot c.in_ok-slot.ensures.slot in
    (slot, copy_found file c.slot_of-bytes.result.now slot c.in-Ok.image used there c.in-Ok.ensures.exact.0 c.in-Ok.ensures.exact.1)

pub returns-in-Err-BadByte-clause-copy : goal.returns-in-Err-BadByte-clause-copy
returns-in-Err-BadByte-clause-copy c file is =
    let slot = c.in_ok-slot.slot in
    let first = c.slot_of.ensures ∙ ap (λ (l : List ℕ). slot_of l 0) is ∙ same_slot file 0 (omega arith) in
    let second = c.slot_of-2.ensures ∙ ap (λ (l : List ℕ). slot_of l 1) is ∙ same_slot file 1 (omega arith) in
    let used = c.in_ok-slot.ensures.used file first second in
    let there = c.slot_of-bytes.ensures ∙ ap (λ (l : List ℕ). slot_of l slot) is ∙ same_slot file slot c.in_ok-slot.ensures.slot in
    rw c.wrong_slot.ensures (
      newest.BadByte slot c.in-Err-BadByte.at,
      copy_wrong file c.slot_of-bytes.result.now slot c.in-Err-BadByte.at used there
          (rw c.in-Err-BadByte.field-0-is at c.in-Err-BadByte.ensures.exact),
    )

pub returns-in_err-slot-clause-damage : goal.returns-in_err-slot-clause-damage
returns-in_err-slot-clause-damage c =
    let p = err_from_is_err_and c.from_residual.result c.from_residual.ensures.1 in
    let none = c.in_err-slot.ensures.told in
    rw (p.1, p.2) (no_slot_damage c.in_err-slot.field-0.0 none.0 none.1 none.2)

pub returns-in-Ok-clause-told : goal.returns-in-Ok-clause-told
returns-in-Ok-clause-told c = (
  c.in_ok-slot.slot,
  copy_told c.in_ok-slot.slot c.slot_of-bytes.result.now c.in-Ok.image c.in_ok-slot.ensures.told (one_slot c.args.base.now c.in_ok-slot.slot _ c.slot_of-bytes.ensures)
      (image_right c.slot_of-bytes.result.now c.in-Ok.image c.in-Ok.ensures.exact.0 c.in-Ok.ensures.exact.1),
)

pub returns-in-Err-BadByte-clause-damage : goal.returns-in-Err-BadByte-clause-damage
returns-in-Err-BadByte-clause-damage c =
    slot_damage c.wrong_slot.result c.in_ok-slot.slot c.in-Err-BadByte.at c.slot_of-bytes.result.now c.in_ok-slot.ensures.told
    (one_slot c.args.base.now c.in_ok-slot.slot _ c.slot_of-bytes.ensures)
    (image_wrong c.slot_of-bytes.result.now c.in-Err-BadByte.at (rw c.in-Err-BadByte.field-0-is at c.in-Err-BadByte.ensures.exact)) c.wrong_slot.ensures
