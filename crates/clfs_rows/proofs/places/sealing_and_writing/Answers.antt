use Rattle.clfs_rows.proofs.Words.{refl, digits, decode_pairs, encode_with, grown, has_room, fine_outcome, request_in}
use Rattle.clfs_rows.proofs.places.sealing_and_writing.Goals as goal

pub returns : goal.returns
unfolding grown has_room fine_outcome request_in digits decode_pairs encode_with
returns c = record {
  the_fourth_sealed_block_writes_all = refl;
  one_write_buffer = refl;
  sealed_behind_the_record = refl;
  nothing_to_flush = refl;
  a_flush_up_to_a_record = refl;
  a_flush_up_to_no_record = refl;
}
