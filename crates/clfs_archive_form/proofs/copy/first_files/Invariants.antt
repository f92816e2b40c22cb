use Rattle.clfs_archive_form.proofs.Words.{◌≡◌, ◌-◌, ◌≤◌, range_with_len}
use Rattle.clfs_archive_form.proofs.copy.first_files.Given as goal

abbrev pub invariant-loop-number : goal.invariant-loop-number
invariant-loop-number l = record {
  some : 1 ≤ l.number;
  files : l.files ≡ range_with_len 1 (l.number - 1);
}
