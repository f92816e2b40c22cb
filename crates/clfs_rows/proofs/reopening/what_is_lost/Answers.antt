use Rattle.clfs_rows.proofs.Words.{refl, digits, decode_pairs, encode_with, grown, has_room, fine_outcome, request_in}
use Rattle.clfs_rows.proofs.reopening.what_is_lost.Goals as goal

pub returns : goal.returns
unfolding grown has_room fine_outcome request_in digits decode_pairs encode_with
returns c = record {
  records_areas_and_reservations = refl;
  blocks_that_wait = refl;
  blocks_that_waited_count_no_more = refl;
  of_all_clients = refl;
  in_the_second_container = refl;
}
