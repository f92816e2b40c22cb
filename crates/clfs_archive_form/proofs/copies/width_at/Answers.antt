use Rattle.clfs_archive_form.proofs.Words.{sym, ◌∙◌}
use Rattle.clfs_archive_form.proofs.Slots.{of_file, of_row, of_end}
use Rattle.clfs_archive_form.proofs.copies.width_at.Goals as goal

pub returns-then-at-count_in : goal.returns-then-at-count_in
returns-then-at-count_in c = sym (of_file c.args.slot.now c.args.at c.if-at-lt64.false (rw c.count_in.ensures at c.if-at-count_in.true))

pub returns-then-at-count_in-2 : goal.returns-then-at-count_in-2
returns-then-at-count_in-2 c =
    c.row_width.ensures
    ∙ sym (of_row c.args.slot.now c.args.at c.if-at-lt64.false (rw c.count_in.ensures at c.if-at-count_in.false) c.if-at-lt576.false
    (rw c.count_in-else-at-lt576.ensures at c.if-at-count_in-2.true))

pub returns-else-at-count_in-2 : goal.returns-else-at-count_in-2
returns-else-at-count_in-2 c =
    sym (of_end c.args.slot.now c.args.at c.if-at-lt64.false (rw c.count_in.ensures at c.if-at-count_in.false) c.if-at-lt576.false
    (rw c.count_in-else-at-lt576.ensures at c.if-at-count_in-2.false))
