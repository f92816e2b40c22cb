use Rattle.clfs_rows.proofs.Words.{refl, digits, decode_pairs, encode_with, grown, has_room, fine_outcome, request_in}
use Rattle.clfs_rows.proofs.archive.blocks_to_archive.Goals as goal

pub returns : goal.returns
unfolding grown has_room fine_outcome request_in digits decode_pairs encode_with
returns c = record {
  whole_blocks = refl;
  below_every_base_too = refl;
  a_block_of_two_records = refl;
  a_blocks_header_counts = refl;
  not_what_is_open_or_waits = refl;
  of_all_streams = refl;
  ten_containers = refl;
}
