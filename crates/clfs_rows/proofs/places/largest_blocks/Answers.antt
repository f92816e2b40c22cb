use Rattle.clfs_rows.proofs.Words.{refl, digits, decode_pairs, encode_with, grown, has_room, fine_outcome, request_in}
use Rattle.clfs_rows.proofs.places.largest_blocks.Goals as goal

pub returns : goal.returns
unfolding grown has_room fine_outcome request_in digits decode_pairs encode_with
returns c = record {
  joins_up_to_the_last_byte_of_payload = refl;
  begins_a_block_one_byte_later = refl;
  joins_no_further_than_the_container = refl;
  large_blocks = refl;
  smallest_blocks = refl;
}
