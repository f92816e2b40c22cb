use Rattle.clfs_rows.proofs.Words.{refl, digits, decode_pairs, encode_with, grown, has_room, fine_outcome, request_in, log_of, arranged_log, open_log}
use Rattle.clfs_rows.proofs.Words.{waiting_log, worked}
use Rattle.clfs_rows.proofs.Decisions.{yes}
use Rattle.clfs_rows.proofs.ValidTests.{is_valid}
use Rattle.clfs_rows.proofs.valid_states.states_that_a_log_can_be_in.Goals as goal

pub returns : goal.returns
unfolding grown has_room fine_outcome request_in digits decode_pairs encode_with
returns c = record {
  just_made = yes (is_valid worked) refl;
  with_blocks_that_wait = yes (is_valid waiting_log) refl;
  with_an_open_block = yes (is_valid open_log) refl;
  of_two_containers = yes (is_valid arranged_log) refl;
  with_the_largest_numbers = yes (is_valid (log_of 128 16384 256 64)) refl;
}
