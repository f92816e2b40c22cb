use Rattle.clfs_archive_form.proofs.Words.{refl, record_at, frame_at, sectors_at, block_records, copy_there, rest_there, container_there, kept_records}
use Rattle.clfs_archive_form.proofs.rows.containers_of_an_archive.Goals as goal

pub returns : goal.returns
unfolding copy_there rest_there container_there kept_records block_records frame_at sectors_at record_at
returns c = record {
  right = refl;
  count = refl;
  id = refl;
  part_of_a_sector = refl;
  above_a_container = refl;
  a_block_less = refl;
  no_letters_there = refl;
  past_the_input = refl;
  closed_gate = refl;
  within_a_block = refl;
  used = refl;
  block_version = refl;
  records = refl;
  address = refl;
  last_byte = refl;
  cut_id = refl;
  cut_count = refl;
  byte_more = refl;
  no_containers = refl;
}
