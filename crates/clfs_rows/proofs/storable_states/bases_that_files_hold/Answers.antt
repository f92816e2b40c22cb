use Rattle.clfs_rows.proofs.Words.{refl, digits, decode_pairs, encode_with, grown, has_room, lsn_number, fine_outcome, request_in, arranged_log}
use Rattle.clfs_rows.proofs.Words.{with_one_changed, with_base}
use Rattle.clfs_rows.specs.Arranged.{with_new_base}
use Rattle.clfs_rows.proofs.Decisions.{no, yes}
use Rattle.clfs_rows.proofs.StorableTests.{is_storable}
use Rattle.clfs_rows.proofs.storable_states.bases_that_files_hold.Goals as goal

pub returns : goal.returns
unfolding grown has_room fine_outcome request_in digits decode_pairs encode_with
returns c = record {
  a_restart_area = yes (is_storable arranged_log) refl;
  a_base_further_on = yes (is_storable (with_base (lsn_number 2 0 2) arranged_log)) refl;
  a_restart_area_at_its_own_base = yes (is_storable (with_base (lsn_number 2 512 0)
      (with_one_changed (with_new_base (lsn_number 2 512 0)) 11 arranged_log))) refl;
  no_base_of_a_plain_record = no (is_storable (with_one_changed (with_new_base (lsn_number 2 0 1)) 12 arranged_log)) refl;
  no_base_above_its_own_lsn = no (is_storable (with_base (lsn_number 2 1024 0)
      (with_one_changed (with_new_base (lsn_number 2 512 1)) 11 arranged_log))) refl;
  no_stream_below_the_new_base = no (is_storable (with_base (lsn_number 2 0 0) arranged_log)) refl;
}
