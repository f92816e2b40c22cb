use Rattle.clfs_rows.proofs.Words.{refl, digits, decode_pairs, encode_with, grown, has_room, cut, fine_outcome, request_in, with_broken, left_of, waiting_log}
use Rattle.clfs_rows.proofs.Words.{codes}
use Rattle.clfs_rows.proofs.Decisions.{no, yes}
use Rattle.clfs_rows.proofs.SurvivorTests.{is_survivor_of_line}
use Rattle.clfs_rows.proofs.crashes.lines_that_flush_nothing.Goals as goal

pub returns : goal.returns
unfolding grown has_room fine_outcome request_in digits decode_pairs encode_with
returns c = record {
  a_flush_may_leave_more = yes (is_survivor_of_line waiting_log (codes "1 flush 1") (left_of waiting_log 4 1 1536)) refl;
  opening_anew = yes (is_survivor_of_line waiting_log (codes "1 reopen") (cut waiting_log)) refl;
  opening_anew_leaves_no_more = no (is_survivor_of_line waiting_log (codes "1 reopen") (left_of waiting_log 4 1 1536)) refl;
  opening_anew_leaves_no_less = no (is_survivor_of_line waiting_log (codes "1 reopen") (left_of waiting_log 1 1 512)) refl;
  a_bad_line = yes (is_survivor_of_line waiting_log (codes "1 flush") (cut waiting_log)) refl;
  a_bad_line_leaves_no_more = no (is_survivor_of_line waiting_log (codes "1 flush") (left_of waiting_log 4 1 1536)) refl;
  a_bad_line_leaves_no_less = no (is_survivor_of_line waiting_log (codes "1 flush") (left_of waiting_log 1 1 512)) refl;
  a_refused_line = yes (is_survivor_of_line waiting_log (codes "1 flush 5") (cut waiting_log)) refl;
  a_refused_line_leaves_no_more = no (is_survivor_of_line waiting_log (codes "1 flush 5") (left_of waiting_log 4 1 1536)) refl;
  a_broken_log = yes (is_survivor_of_line (with_broken waiting_log) (codes "1 flush 1") (cut waiting_log)) refl;
  a_broken_log_leaves_no_more = no (is_survivor_of_line (with_broken waiting_log) (codes "1 flush 1") (left_of waiting_log 4 1 1536)) refl;
}
