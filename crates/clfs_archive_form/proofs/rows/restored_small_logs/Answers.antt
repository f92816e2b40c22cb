use Rattle.clfs_archive_form.proofs.Words.{refl, record_at, frame_at, sectors_at, block_records, copy_there, rest_there, container_there, kept_records}
use Rattle.clfs_archive_form.proofs.rows.restored_small_logs.Goals as goal

pub returns : goal.returns
unfolding copy_there rest_there container_there kept_records block_records frame_at sectors_at record_at
returns c = record {
  all = refl;
  block = refl;
  nothing = refl;
  within = refl;
  used = refl;
  base = refl;
  restart_base = refl;
  no_restart_area = refl;
  tail = refl;
  later_container = refl;
  both_containers = refl;
  last_copy = refl;
  other_order = refl;
}
