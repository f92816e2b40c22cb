use Rattle.clfs_rows.proofs.Words.{refl, digits, decode_pairs, encode_with, grown, has_room, fine_outcome, request_in}
use Rattle.clfs_rows.proofs.disk_and_memory.calls_that_leave_the_disk_alone.Goals as goal

pub returns : goal.returns
unfolding grown has_room fine_outcome request_in digits decode_pairs encode_with
returns c = record {
  a_first_append = refl;
  a_block_begun_with_two_waiting = refl;
  a_block_begun_behind_none_with_three_waiting = refl;
  the_third_sealed_block = refl;
  an_append_that_needs_no_growth = refl;
  a_reservation_that_needs_no_growth = refl;
  a_release = refl;
  sizes_that_are_added_up = refl;
  a_flush_of_nothing = refl;
  a_flush_up_to_what_is_flushed = refl;
  a_stream_that_is_there = refl;
  an_area = refl;
  an_area_dropped = refl;
  a_cursor_ended = refl;
  archiving_that_is_on = refl;
  archiving_that_is_off = refl;
  extents = refl;
  the_size_that_it_has = refl;
  what_the_log_is_like = refl;
}
