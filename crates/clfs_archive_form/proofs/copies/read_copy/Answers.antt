use Rattle.clfs_archive_form.proofs.Words.{ℕ, ◌+◌, List, sym, subst, arith, AreBytes, Meets, Demands}
use Rattle.clfs_archive_form.proofs.Slots.{copy_right, part_of_bytes, whole_slot, suits}
use Rattle.clfs_archive_form.proofs.copies.read_copy.Goals as goal

pub returns-in-Ok-clause-exact : goal.returns-in-Ok-clause-exact
returns-in-Ok-clause-exact c =
    copy_right c.args.asked.now c.with_tail-demands.result c.args.bytes.now c.args.at c.slot_in-slot.result.now c.in-Ok.image c.slot_in-slot.ensures
    c.with_tail-demands.ensures c.in-Ok.ensures.exact.0 c.in-Ok.ensures.exact.1

pub returns-in-Ok-clause-image : goal.returns-in-Ok-clause-image
returns-in-Ok-clause-image c =
    let all : AreBytes c.args.bytes.now = λ i. omega (arith, c.type_inv.bytes i) in
    let bytes = subst (λ (l : List ℕ). AreBytes l) (sym c.slot_in-slot.ensures) (part_of_bytes c.args.bytes.now (c.args.at + 7) 16384 all) in
    (c.copies_are_read_as_written.ensures.read c.slot_in-slot.result.now c.in-Ok.image bytes c.in-Ok.ensures.found.0).0

pub returns-in-Ok-clause-whole : goal.returns-in-Ok-clause-whole
returns-in-Ok-clause-whole c =
    let all : AreBytes c.args.bytes.now = λ i. omega (arith, c.type_inv.bytes i) in
    let bytes = subst (λ (l : List ℕ). AreBytes l) (sym c.slot_in-slot.ensures) (part_of_bytes c.args.bytes.now (c.args.at + 7) 16384 all) in
    let read = c.copies_are_read_as_written.ensures.read c.slot_in-slot.result.now c.in-Ok.image bytes c.in-Ok.ensures.found.0 in
    whole_slot c.args.bytes.now c.args.at c.slot_in-slot.result.now _ c.slot_in-slot.ensures read.1 (c.copies_are_read_as_written.ensures.length c.in-Ok.image read.0)

pub returns-in-Ok-clause-suits : goal.returns-in-Ok-clause-suits
returns-in-Ok-clause-suits c =
    let all : AreBytes c.args.bytes.now = λ i. omega (arith, c.type_inv.bytes i) in
    let bytes = subst (λ (l : List ℕ). AreBytes l) (sym c.slot_in-slot.ensures) (part_of_bytes c.args.bytes.now (c.args.at + 7) 16384 all) in
    let read = c.copies_are_read_as_written.ensures.read c.slot_in-slot.result.now c.in-Ok.image bytes c.in-Ok.ensures.found.0 in
    suits c.args.asked.now c.slot_in-slot.result.now _ c.in-Ok.image c.in-Ok.ensures.exact.1 read.1 (c.copies_are_read_as_written.ensures.length c.in-Ok.image read.0)
    (subst (λ (d : Demands). Meets d c.in-Ok.image) c.with_tail-demands.ensures c.in-Ok.ensures.found.1)
