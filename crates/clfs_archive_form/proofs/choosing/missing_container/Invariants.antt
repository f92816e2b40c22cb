use Rattle.clfs_archive_form.proofs.Words.{◌≡◌, ◌+◌, ◌-◌, length, find, range_with_len, is_missing}
use Rattle.clfs_archive_form.proofs.choosing.missing_container.Given as goal

-- the first that is missing from here on is the first of all
abbrev pub invariant-loop-i : goal.invariant-loop-i
invariant-loop-i l =
    find (is_missing l.archive.containers) (range_with_len (l.archive.image.first + l.i) (length l.archive.image.files - l.i))
    ≡ find (is_missing l.archive.containers) (range_with_len l.archive.image.first (length l.archive.image.files))
