use Rattle.clfs_archive_form.proofs.Words.{◌≡◌, ◌+◌, ◌-◌, ◌≤◌, length, first_failing, has_letter}
use Rattle.clfs_archive_form.proofs.archives.wrong_letter.Given as goal

-- the first wrong letter from here on is the first of all, and the letters before it are there
abbrev pub invariant-loop-i : goal.invariant-loop-i
invariant-loop-i l = record {
  first : first_failing (has_letter l.bytes l.at) l.i (8 - l.i) ≡ first_failing (has_letter l.bytes l.at) 0 8;
  there : l.at + l.i ≤ length l.bytes;
}
