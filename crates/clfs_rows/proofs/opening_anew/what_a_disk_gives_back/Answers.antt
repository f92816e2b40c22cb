use Rattle.clfs_rows.proofs.Words.{refl, digits, decode_pairs, encode_with, grown, has_room, lsn_number, cut, fine_outcome, request_in, two_containers}
use Rattle.clfs_rows.proofs.Words.{unflushed_log, with_link_to_itself, with_one_changed, without_first, without_one, closed_at, with_other_data, ◌∷◌, []}
use Rattle.std.specs.Prelude.{true}
use Rattle.clfs_rows.proofs.Decisions.{no, yes}
use Rattle.clfs_rows.proofs.SameTests.{reopens_up_to}
use Rattle.clfs_rows.proofs.opening_anew.what_a_disk_gives_back.Goals as goal

pub returns : goal.returns
unfolding grown has_room fine_outcome request_in digits decode_pairs encode_with
returns c = record {
  up_to_where = refl;
  the_flushed_part = yes (reopens_up_to true unflushed_log (lsn_number 2 512 0) (cut unflushed_log)) refl;
  without_the_first_container = yes (reopens_up_to true unflushed_log (lsn_number 2 512 0) (without_first 8 (cut unflushed_log))) refl;
  with_other_records_there = yes (reopens_up_to true unflushed_log (lsn_number 2 512 0) (with_one_changed with_other_data 3 (cut unflushed_log))) refl;
  not_one_more = no (reopens_up_to true unflushed_log (lsn_number 2 512 1) (cut unflushed_log)) refl;
  not_another_place = no (reopens_up_to true unflushed_log (lsn_number 3 0 0) (record (cut unflushed_log) { place = closed_at 3 0 })) refl;
  not_another_lsn_than_the_logs = no (reopens_up_to true (record two_containers { waiting = lsn_number 2 512 1 ∷ [] }) (lsn_number 2 512 0)
      (cut two_containers)) refl;
  not_with_another_record = no (reopens_up_to true unflushed_log (lsn_number 2 512 0) (with_one_changed with_other_data 8 (cut unflushed_log))) refl;
  not_without_a_record = no (reopens_up_to true unflushed_log (lsn_number 2 512 0) (without_one 10 (cut unflushed_log))) refl;
  not_with_an_area = no (reopens_up_to true unflushed_log (lsn_number 2 512 0) (record (cut unflushed_log) { areas = unflushed_log.areas })) refl;
  not_with_other_buffers = no (reopens_up_to true unflushed_log (lsn_number 2 512 0) (record (cut unflushed_log) { buffers = 3 })) refl;
  not_what_no_log_is_like = no (reopens_up_to true unflushed_log (lsn_number 2 512 0) (with_one_changed with_link_to_itself 3 (cut unflushed_log))) refl;
  not_with_a_gap_between_blocks = no (reopens_up_to true unflushed_log (lsn_number 2 512 0) (without_one 3 (cut unflushed_log))) refl;
}
