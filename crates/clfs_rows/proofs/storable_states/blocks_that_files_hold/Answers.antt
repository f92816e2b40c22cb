use Rattle.clfs_rows.proofs.Words.{refl, digits, decode_pairs, encode_with, grown, has_room, fine_outcome, request_in, arranged_log, block_of, open_at}
use Rattle.clfs_rows.proofs.Words.{with_place, with_one_changed, without_first, without_one, opened_log}
use Rattle.clfs_rows.specs.Arranged.{with_bytes}
use Rattle.clfs_rows.proofs.Decisions.{no, yes}
use Rattle.clfs_rows.proofs.StorableTests.{is_storable}
use Rattle.clfs_rows.proofs.storable_states.blocks_that_files_hold.Goals as goal

pub returns : goal.returns
unfolding grown has_room fine_outcome request_in digits decode_pairs encode_with
returns c = record {
  no_blocks = yes (is_storable opened_log) refl;
  without_the_first_container = yes (is_storable (without_first 8 arranged_log)) refl;
  the_most_records_of_a_block = yes (is_storable (block_of 511)) refl;
  no_gap_between_blocks = no (is_storable (without_one 3 arranged_log)) refl;
  no_gap_at_a_containers_begin = no (is_storable (without_one 0 arranged_log)) refl;
  no_block_without_its_first_record = no (is_storable (without_one 8 arranged_log)) refl;
  no_gap_between_records = no (is_storable (without_one 9 arranged_log)) refl;
  no_block_over_the_next_one = no (is_storable (with_one_changed (with_bytes 600) 3 arranged_log)) refl;
  a_block_of_two_sectors = yes (is_storable (with_place (open_at 1024 1008 1) (with_one_changed (with_bytes 960) 12 arranged_log))) refl;
  no_block_of_three_sectors = no (is_storable (with_place (open_at 1024 1016 1) (with_one_changed (with_bytes 968) 12 arranged_log))) refl;
  no_block_over_its_containers_end = no (is_storable (with_one_changed (with_bytes 600) 7 arranged_log)) refl;
  no_more_records_of_a_block = no (is_storable (block_of 512)) refl;
}
