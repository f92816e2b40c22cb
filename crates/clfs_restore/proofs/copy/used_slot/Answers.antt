use Rattle.clfs_restore.proofs.Words.{Ok, Err, sym, ◌∙◌, ap, arith, Front, front_of, slot_by, refused_as}
use Rattle.clfs_restore.proofs.Told.{slot_told}
use Rattle.clfs_restore.proofs.copy.used_slot.Goals as goal

pub returns-in-Ok-clause-used : goal.returns-in-Ok-clause-used
returns-in-Ok-clause-used c file first second =
    let a = c.front_of_bytes.ensures.in_file file 0 16384 (omega arith) first in
    let b = c.front_of_bytes-2.ensures.in_file file 1 16384 (omega arith) second in
    sym (ap (λ (f : Front). slot_by f (front_of file 1)) a) ∙ sym (ap (λ (f : Front). slot_by c.front_of_bytes.result f) b)
    ∙ sym c.slot_by.ensures.exact ∙ c.in-Ok.is

pub returns-in-Err-clause-used : goal.returns-in-Err-clause-used
returns-in-Err-clause-used c file first second =
    let a = c.front_of_bytes.ensures.in_file file 0 16384 (omega arith) first in
    let b = c.front_of_bytes-2.ensures.in_file file 1 16384 (omega arith) second in (
      c.in-Err.refusal,
      sym (ap (λ (f : Front). slot_by f (front_of file 1)) a) ∙ sym (ap (λ (f : Front). slot_by c.front_of_bytes.result f) b)
          ∙ sym c.slot_by.ensures.exact ∙ c.in-Err.is,
    )

pub returns-in-Ok-clause-told : goal.returns-in-Ok-clause-told
returns-in-Ok-clause-told c =
    let a = c.front_of_bytes.ensures.exact in
    let b = c.front_of_bytes-2.ensures.exact in
    slot_told (Ok c.in-Ok.slot) c.args.first.now c.args.second.now (sym c.in-Ok.is ∙ c.slot_by.ensures.exact ∙ (λ i. slot_by (a i) (b i)))

pub returns-in-Err-clause-told : goal.returns-in-Err-clause-told
returns-in-Err-clause-told c =
    let a = c.front_of_bytes.ensures.exact in
    let b = c.front_of_bytes-2.ensures.exact in (
      c.in-Err.refusal,
      slot_told (Err c.in-Err.refusal) c.args.first.now c.args.second.now (sym c.in-Err.is ∙ c.slot_by.ensures.exact ∙ (λ i. slot_by (a i) (b i))),
      c.into.ensures ∙ ap refused_as c.from.ensures,
    )
