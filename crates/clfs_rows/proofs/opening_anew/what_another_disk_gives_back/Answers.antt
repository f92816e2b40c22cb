use Rattle.clfs_rows.proofs.Words.{refl, digits, decode_pairs, encode_with, grown, has_room, lsn_number, cut, fine_outcome, request_in, with_broken}
use Rattle.clfs_rows.proofs.Words.{unflushed_log, with_link_to_itself, with_one_changed, without_one, state_behind, opened_log, codes, []}
use Rattle.std.specs.Prelude.{false}
use Rattle.clfs_rows.proofs.Decisions.{no, yes}
use Rattle.clfs_rows.proofs.SameTests.{reopens_up_to}
use Rattle.clfs_rows.proofs.opening_anew.what_another_disk_gives_back.Goals as goal

pub returns : goal.returns
unfolding grown has_room fine_outcome request_in digits decode_pairs encode_with
returns c = record {
  the_flushed_part = yes (reopens_up_to false unflushed_log (lsn_number 2 512 0) (cut unflushed_log)) refl;
  another_log = yes (reopens_up_to false unflushed_log (lsn_number 1 0 0) (cut opened_log)) refl;
  not_one_more = no (reopens_up_to false unflushed_log (lsn_number 1 0 1) (cut opened_log)) refl;
  not_with_an_area = no (reopens_up_to false unflushed_log (lsn_number 1 0 0) opened_log) refl;
  not_with_other_buffers = no (reopens_up_to false unflushed_log (lsn_number 1 0 0) (record (cut opened_log) { buffers = 3 })) refl;
  not_with_an_open_block = no (reopens_up_to false unflushed_log (lsn_number 1 0 0)
      (record (state_behind opened_log (codes "1 append 1 aa 0:0:0 0:0:0")) { areas = [] })) refl;
  not_with_a_block_that_waits = no (reopens_up_to false unflushed_log (lsn_number 1 0 0)
      (record (state_behind opened_log (codes "1 append 1 aa 0:0:0 0:0:0 seal")) { areas = [] })) refl;
  not_broken = no (reopens_up_to false unflushed_log (lsn_number 1 0 0) (with_broken (cut opened_log))) refl;
  not_what_no_log_is_like = no (reopens_up_to false unflushed_log (lsn_number 2 512 0) (with_one_changed with_link_to_itself 3 (cut unflushed_log))) refl;
  not_with_a_gap_between_blocks = no (reopens_up_to false unflushed_log (lsn_number 2 512 0) (without_one 3 (cut unflushed_log))) refl;
}
