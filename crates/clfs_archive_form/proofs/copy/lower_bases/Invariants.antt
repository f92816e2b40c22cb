use Rattle.clfs_archive_form.proofs.Words.{◌≡◌, ◌++◌, take, drop, lowered_rows}
use Rattle.clfs_archive_form.proofs.copy.lower_bases.Given as goal

abbrev pub invariant-loop-i : goal.invariant-loop-i
invariant-loop-i l = record {
  rows : l.rows.items ≡ lowered_rows l.end (take l.i l.initial.rows.items) ++ drop l.i l.initial.rows.items;
}
