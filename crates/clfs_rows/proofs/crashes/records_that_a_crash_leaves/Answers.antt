use Rattle.clfs_rows.proofs.Words.{refl, digits, decode_pairs, encode_with, grown, has_room, fine_outcome, request_in, left_of, long_append, long_log}
use Rattle.clfs_rows.proofs.Words.{waiting_log, with_other_data, map}
use Rattle.std.specs.Prelude.{drop}
use Rattle.clfs_rows.proofs.Decisions.{no}
use Rattle.clfs_rows.proofs.SurvivorTests.{is_survivor_of_line}
use Rattle.clfs_rows.proofs.crashes.records_that_a_crash_leaves.Goals as goal

pub returns : goal.returns
unfolding grown has_room fine_outcome request_in digits decode_pairs encode_with
returns c = record {
  not_one_fewer = no (is_survivor_of_line waiting_log long_append (left_of long_log 3 1 1536)) refl;
  not_one_more = no (is_survivor_of_line waiting_log long_append (left_of long_log 5 1 1536)) refl;
  not_without_the_first = no (is_survivor_of_line waiting_log long_append
      (record (left_of long_log 4 1 1536) { records = drop 1 waiting_log.records })) refl;
  not_with_other_data = no (is_survivor_of_line waiting_log long_append
      (record (left_of long_log 4 1 1536) { records = map with_other_data waiting_log.records })) refl;
}
