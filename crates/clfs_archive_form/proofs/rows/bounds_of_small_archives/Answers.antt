use Rattle.clfs_archive_form.proofs.Words.{refl, record_at, frame_at, sectors_at, block_records, copy_there, rest_there, container_there, kept_records}
use Rattle.clfs_archive_form.proofs.rows.bounds_of_small_archives.Goals as goal

pub returns : goal.returns
unfolding copy_there rest_there container_there kept_records block_records frame_at sectors_at record_at
returns c = record {
  bounds = refl;
  highest = refl;
  lowest = refl;
  frontier = refl;
  below = refl;
  above = refl;
  base = refl;
  high_base = refl;
  gap = refl;
  first_gap = refl;
  no_gap = refl;
  none_of_them = refl;
  in_order = refl;
  twice = refl;
  other_order = refl;
}
