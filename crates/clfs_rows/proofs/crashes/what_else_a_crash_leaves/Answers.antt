use Rattle.clfs_rows.proofs.Words.{refl, digits, decode_pairs, encode_with, grown, has_room, fine_outcome, request_in, with_broken, left_of, long_append}
use Rattle.clfs_rows.proofs.Words.{long_log, waiting_log}
use Rattle.clfs_rows.proofs.Decisions.{no, yes}
use Rattle.clfs_rows.proofs.SurvivorTests.{is_survivor_of_line}
use Rattle.clfs_rows.proofs.crashes.what_else_a_crash_leaves.Goals as goal

pub returns : goal.returns
unfolding grown has_room fine_outcome request_in digits decode_pairs encode_with
returns c = record {
  other_buffers = yes (is_survivor_of_line waiting_log long_append (record (left_of long_log 5 1 2560) { buffers = 1 })) refl;
  no_other_blocks = no (is_survivor_of_line waiting_log long_append (record (left_of long_log 5 1 2560)
      { shape = record { block_sectors = 3; container_sectors = 8 } })) refl;
  no_other_container_sizes = no (is_survivor_of_line waiting_log long_append
      (record (left_of long_log 5 1 2560) { shape = record { block_sectors = 2; container_sectors = 9 } })) refl;
  no_areas = no (is_survivor_of_line waiting_log long_append (record (left_of long_log 5 1 2560) { areas = waiting_log.areas })) refl;
  nothing_that_waits = no (is_survivor_of_line waiting_log long_append (record (left_of long_log 5 1 2560) { waiting = waiting_log.waiting })) refl;
  not_broken = no (is_survivor_of_line waiting_log long_append (with_broken (left_of long_log 5 1 2560))) refl;
}
