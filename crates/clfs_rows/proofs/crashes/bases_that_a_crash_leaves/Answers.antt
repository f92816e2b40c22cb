use Rattle.clfs_rows.proofs.Words.{refl, digits, decode_pairs, encode_with, grown, has_room, lsn_number, cut, fine_outcome, request_in, left_of, with_base}
use Rattle.clfs_rows.proofs.Words.{codes}
use Rattle.clfs_rows.specs.Crashes.{advance, advanced_log, rebasing_log, restart, restarted_log, two_streams_log, with_streams_of}
use Rattle.clfs_rows.proofs.Decisions.{no, yes}
use Rattle.clfs_rows.proofs.SurvivorTests.{is_survivor_of_line}
use Rattle.clfs_rows.proofs.crashes.bases_that_a_crash_leaves.Goals as goal

pub returns : goal.returns
unfolding grown has_room fine_outcome request_in digits decode_pairs encode_with
returns c = record {
  with_the_restart_area = yes (is_survivor_of_line rebasing_log restart (cut restarted_log)) refl;
  not_the_old_base_with_it = no (is_survivor_of_line rebasing_log restart (with_streams_of rebasing_log (cut restarted_log))) refl;
  without_the_restart_area = yes (is_survivor_of_line rebasing_log restart (with_streams_of rebasing_log (left_of restarted_log 2 1 1024))) refl;
  not_the_new_base_without_it = no (is_survivor_of_line rebasing_log restart (left_of restarted_log 2 1 1024)) refl;
  without_any_record_of_it = yes (is_survivor_of_line rebasing_log restart (cut rebasing_log)) refl;
  not_the_new_base_without_any = no (is_survivor_of_line rebasing_log restart (with_streams_of restarted_log (cut rebasing_log))) refl;
  advanced_with_all = yes (is_survivor_of_line rebasing_log advance (cut advanced_log)) refl;
  not_yet_advanced_with_all = yes (is_survivor_of_line rebasing_log advance (with_streams_of rebasing_log (cut advanced_log))) refl;
  not_advanced_without_all = yes (is_survivor_of_line rebasing_log advance (cut rebasing_log)) refl;
  never_advanced_without_all = no (is_survivor_of_line rebasing_log advance (with_streams_of advanced_log (cut rebasing_log))) refl;
  no_third_base_of_an_advance = no (is_survivor_of_line rebasing_log advance (with_base (lsn_number 1 0 0) (cut advanced_log))) refl;
  no_other_base_of_another_stream = no (is_survivor_of_line two_streams_log (codes "1 flush 1")
      (with_base (lsn_number 1 0 0) (cut two_streams_log))) refl;
  no_third_base_of_a_flush = no (is_survivor_of_line rebasing_log (codes "1 flush 1") (with_base (lsn_number 1 0 0) (cut advanced_log))) refl;
}
