use Rattle.clfs_archive_form.proofs.Words.{◌-◌, ◌≤◌, length, container_of, IsImage, LieWithin, AreReadable}
use Rattle.clfs_archive_form.proofs.Grammar.{ReadTo}
use Rattle.clfs_archive_form.proofs.archives.read_archives.Given as goal

abbrev pub invariant-loop-at : goal.invariant-loop-at
invariant-loop-at l = record {
  within : l.at ≤ length l.bytes;
  copy : IsImage l.image;
  read : ReadTo l.bytes l.image l.containers.items l.at;
  lie : LieWithin (length l.bytes) l.containers.items;
  tail : l.image.first ≤ container_of l.image.tail;
  readable : AreReadable l.bytes l.image l.containers.items;
}

abbrev pub decreases-loop-at : goal.decreases-loop-at
decreases-loop-at l = length l.bytes - l.at
