use Rattle.clfs_rows.proofs.Words.{refl, digits, decode_pairs, encode_with, grown, has_room, fine_outcome, request_in, log_of, block_of, open_log, with_place}
use Rattle.clfs_rows.proofs.Words.{closed_at, worked}
use Rattle.clfs_rows.proofs.Decisions.{yes, no}
use Rattle.clfs_rows.proofs.ValidTests.{is_valid}
use Rattle.clfs_rows.proofs.valid_states.numbers_in_their_ranges.Goals as goal

pub returns : goal.returns
unfolding grown has_room fine_outcome request_in digits decode_pairs encode_with
returns c = record {
  some_sectors_of_a_block = no (is_valid (log_of 0 8 2 4)) refl;
  few_sectors_of_a_block = no (is_valid (log_of 129 16384 2 4)) refl;
  two_blocks_of_a_container = no (is_valid (log_of 5 9 2 4)) refl;
  few_sectors_of_a_container = no (is_valid (log_of 2 16385 2 4)) refl;
  some_containers = no (is_valid (log_of 2 8 0 4)) refl;
  few_containers = no (is_valid (log_of 2 8 257 4)) refl;
  some_write_buffers = no (is_valid (log_of 2 8 2 0)) refl;
  few_write_buffers = no (is_valid (log_of 2 8 2 65)) refl;
  a_container_of_the_place = no (is_valid (with_place (closed_at 0 0) worked)) refl;
  whole_sectors = no (is_valid (with_place (closed_at 1 100) worked)) refl;
  within_the_container = no (is_valid (with_place (closed_at 1 4608) worked)) refl;
  no_bytes_without_records = no (is_valid (with_place (record (closed_at 1 0) { used = 16 }) worked)) refl;
  no_records_without_bytes = no (is_valid (with_place (record (closed_at 1 0) { records = 1 }) open_log)) refl;
  the_most_records_of_a_block = yes (is_valid (block_of 511)) refl;
  no_more_records_of_a_block = no (is_valid (block_of 512)) refl;
  a_block_that_is_no_longer_than_it_may_be = no (is_valid (with_place (record (closed_at 1 0) { used = 1016; records = 1 }) open_log)) refl;
}
