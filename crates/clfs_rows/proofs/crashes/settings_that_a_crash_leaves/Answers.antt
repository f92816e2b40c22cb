use Rattle.clfs_rows.proofs.Words.{refl, digits, decode_pairs, encode_with, grown, has_room, cut, fine_outcome, line_request, request_in, state_behind}
use Rattle.clfs_rows.proofs.Words.{flushed_log, Some, codes}
use Rattle.clfs_rows.specs.Crashes.{growing_append, growing_log}
use Rattle.std.specs.Prelude.{true}
use Rattle.clfs_rows.proofs.Decisions.{no, yes}
use Rattle.clfs_rows.proofs.SurvivorTests.{is_survivor_of_line, is_survivor}
use Rattle.clfs_rows.proofs.crashes.settings_that_a_crash_leaves.Goals as goal

pub returns : goal.returns
unfolding grown has_room fine_outcome request_in digits decode_pairs encode_with
returns c = record {
  without_the_new_stream = yes (is_survivor_of_line flushed_log (codes "1 open b") (cut flushed_log)) refl;
  with_the_new_stream = yes (is_survivor_of_line flushed_log (codes "1 open b") (cut (state_behind flushed_log (codes "1 open b")))) refl;
  not_with_another_stream = no (is_survivor_of_line flushed_log (codes "1 open b") (cut (state_behind flushed_log (codes "1 open c")))) refl;
  not_with_other_containers = no (is_survivor_of_line flushed_log (codes "1 open b") (record (cut flushed_log) { containers = 3 })) refl;
  not_with_another_archive = no (is_survivor_of_line flushed_log (codes "1 open b") (record (cut flushed_log) { archive = Some 0 })) refl;
  not_with_another_maximum = no (is_survivor_of_line flushed_log (codes "1 open b") (record (cut flushed_log) { maximum = Some 2 })) refl;
  not_with_another_minimum = no (is_survivor_of_line flushed_log (codes "1 open b") (record (cut flushed_log) { minimum = Some 2 })) refl;
  not_with_another_growth = no (is_survivor_of_line flushed_log (codes "1 open b") (record (cut flushed_log) { growth = Some 1 })) refl;
  not_with_growth_by_itself = no (is_survivor_of_line flushed_log (codes "1 open b") (record (cut flushed_log) { automatic = true })) refl;
  not_as_a_dedicated_log = no (is_survivor_of_line flushed_log (codes "1 open b") (record (cut flushed_log) { dedicated = true })) refl;
  not_some_of_each = no (is_survivor (line_request (codes "1 open b")) flushed_log
      (record (state_behind flushed_log (codes "1 open b")) { containers = 3 }) (record (cut flushed_log) { containers = 3 })) refl;
  three_containers = refl;
  neither_grown_nor_appended = yes (is_survivor_of_line growing_log growing_append (cut growing_log)) refl;
  grown_without_the_record = yes (is_survivor_of_line growing_log growing_append (record (cut growing_log) { containers = 3 })) refl;
  grown_with_the_record = yes (is_survivor_of_line growing_log growing_append (cut (state_behind growing_log growing_append))) refl;
  not_the_record_without_growth = no (is_survivor_of_line growing_log growing_append
      (record (cut (state_behind growing_log growing_append)) { containers = 2 })) refl;
}
