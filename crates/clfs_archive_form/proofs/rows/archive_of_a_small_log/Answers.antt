use Rattle.clfs_archive_form.proofs.Words.{refl, record_at, frame_at, sectors_at, block_records, copy_there, rest_there, container_there, kept_records}
use Rattle.clfs_archive_form.proofs.rows.archive_of_a_small_log.Goals as goal

pub returns : goal.returns
unfolding copy_there rest_there container_there kept_records block_records frame_at sectors_at record_at
returns c = record {
  length = refl;
  front = refl;
  empty = refl;
  turn = refl;
  version = refl;
  from_first = refl;
  from_tail = refl;
  count = refl;
  later_tail = refl;
  high_tail = refl;
}
