use Rattle.clfs_rows.proofs.Words.{refl, digits, decode_pairs, encode_with, grown, has_room, fine_outcome, request_in}
use Rattle.clfs_rows.proofs.disk_and_memory.calls_that_reach_the_disk.Goals as goal

pub returns : goal.returns
unfolding grown has_room fine_outcome request_in digits decode_pairs encode_with
returns c = record {
  an_append_that_flushes = refl;
  the_fourth_sealed_block = refl;
  the_fourth_block_begun = refl;
  a_block_begun_and_sealed_as_the_fourth = refl;
  a_move_to_the_next_container = refl;
  an_append_that_grows_the_log = refl;
  a_reservation_that_grows_the_log = refl;
  a_flush_of_an_open_block = refl;
  a_flush_of_a_block_that_waits = refl;
  a_flush_up_to_an_open_block = refl;
  a_new_stream = refl;
  a_restart_area = refl;
  a_new_base = refl;
  archiving = refl;
  an_archive_tail = refl;
  the_end_of_archiving = refl;
  a_policy = refl;
  the_end_of_a_policy = refl;
  a_new_size = refl;
  a_read = refl;
  reading_on = refl;
  a_read_of_a_restart_area = refl;
  an_older_restart_area = refl;
}
