use Rattle.clfs_rows.proofs.Words.{refl, digits, decode_pairs, encode_with, grown, has_room, fine_outcome, request_in}
use Rattle.clfs_rows.proofs.streams_and_cursors.cursors_that_go_on.Goals as goal

pub returns : goal.returns
unfolding grown has_room fine_outcome request_in digits decode_pairs encode_with
returns c = record {
  base_of_the_moment = refl;
  end_of_the_log_is_no_end = refl;
  a_link_at_the_base_is_followed = refl;
  each_moves_alone = refl;
  restart_areas_are_records = refl;
  least_unused_number = refl;
}
