use Rattle.clfs_rows.proofs.Words.{refl, digits, decode_pairs, encode_with, grown, has_room, fine_outcome, line_request, request_in, closed_at, left_of}
use Rattle.clfs_rows.proofs.Words.{long_append, long_log, waiting_log, opened_log, codes}
use Rattle.clfs_rows.specs.Crashes.{skipping_log, turned_log, turning_log}
use Rattle.clfs_rows.proofs.Decisions.{no, yes}
use Rattle.clfs_rows.proofs.SurvivorTests.{is_survivor_of_line, is_survivor}
use Rattle.clfs_rows.proofs.crashes.places_that_a_crash_leaves.Goals as goal

pub returns : goal.returns
unfolding grown has_room fine_outcome request_in digits decode_pairs encode_with
returns c = record {
  flushed_before = refl;
  flushed_behind = refl;
  where_it_was_flushed = yes (is_survivor_of_line waiting_log long_append (left_of long_log 2 1 1024)) refl;
  behind_the_block_that_waited = yes (is_survivor_of_line waiting_log long_append (left_of long_log 4 1 1536)) refl;
  behind_all = yes (is_survivor_of_line waiting_log long_append (left_of long_log 5 1 2560)) refl;
  not_below_what_was_flushed = no (is_survivor_of_line waiting_log long_append (left_of long_log 1 1 512)) refl;
  not_within_a_block = no (is_survivor_of_line waiting_log long_append (left_of long_log 5 1 2048)) refl;
  not_above_what_is_flushed = no (is_survivor_of_line waiting_log (codes "1 append 1 a4 0:0:0 0:0:0") (left_of waiting_log 4 1 1536)) refl;
  not_in_a_container_above_it = no (is_survivor_of_line waiting_log long_append (left_of long_log 5 2 0)) refl;
  no_bytes_in_a_block = no (is_survivor_of_line waiting_log long_append
      (record (left_of long_log 4 1 1536) { place = record (closed_at 1 1536) { used = 16 } })) refl;
  no_records_in_a_block = no (is_survivor_of_line waiting_log long_append
      (record (left_of long_log 5 1 1536) { place = record (closed_at 1 1536) { records = 1 } })) refl;
  where_no_block_ends = yes (is_survivor_of_line opened_log (codes "1 append 1 aa 0:0:0 0:0:0 flush") (left_of opened_log 0 1 0)) refl;
  flushed_behind_a_turn = refl;
  before_the_open_block = yes (is_survivor_of_line turning_log long_append (left_of turned_log 3 1 2560)) refl;
  behind_the_open_block = yes (is_survivor_of_line turning_log long_append (left_of turned_log 4 1 3584)) refl;
  in_the_next_container = yes (is_survivor_of_line turning_log long_append (left_of turned_log 4 2 0)) refl;
  behind_the_record_in_it = yes (is_survivor_of_line turning_log long_append (left_of turned_log 5 2 1024)) refl;
  not_at_the_containers_end = no (is_survivor_of_line turning_log long_append (left_of turned_log 4 1 4096)) refl;
  not_at_another_containers_end_of_a_block = no (is_survivor_of_line turning_log long_append (left_of turned_log 5 2 512)) refl;
  not_in_the_container_after_the_next = no (is_survivor (line_request (codes "1 flush 1")) turning_log skipping_log (left_of turning_log 4 3 0)) refl;
  in_the_next_of_a_log_that_skips_one = yes (is_survivor (line_request (codes "1 flush 1")) turning_log skipping_log (left_of turning_log 4 2 0)) refl;
}
