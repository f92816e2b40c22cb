use Rattle.clfs_disk.proofs.Places.{length-overwritten, overwritten_below, overwritten_inside, overwritten_above, part_overwritten}
use Rattle.clfs_disk.proofs.laws.overwritten_bytes_stand_in_place.Goals as goal

pub returns : goal.returns
returns c = record {
  size = length-overwritten;
  below = overwritten_below;
  inside = overwritten_inside;
  above = overwritten_above;
  part = part_overwritten;
}
