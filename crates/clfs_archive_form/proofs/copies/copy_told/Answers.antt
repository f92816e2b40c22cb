use Rattle.clfs_archive_form.proofs.Slots.{told_at_end, told_there}
use Rattle.clfs_archive_form.proofs.copies.copy_told.Goals as goal

pub returns-then-slot-wrong : goal.returns-then-slot-wrong
returns-then-slot-wrong c =
    told_at_end c.args.bytes.now c.args.at c.args.wrong c.slot_in-slot.result.now c.width_at.result c.slot_in-slot.ensures c.width_at.ensures c.if-slot-wrong.true

pub returns : goal.returns
returns c =
    told_there c.args.bytes.now c.args.at c.args.wrong c.slot_in-slot.result.now c.width_at.result c.slot_in-slot.ensures c.width_at.ensures c.if-slot-wrong.false
