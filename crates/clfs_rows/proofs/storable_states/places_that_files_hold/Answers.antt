use Rattle.clfs_rows.proofs.Words.{refl, digits, decode_pairs, encode_with, grown, has_room, sealed, fine_outcome, request_in, arranged_log, open_at}
use Rattle.clfs_rows.proofs.Words.{with_place, closed_at}
use Rattle.clfs_rows.specs.Filled.{last_of_all}
use Rattle.clfs_rows.proofs.Decisions.{no, yes}
use Rattle.clfs_rows.proofs.StorableTests.{is_storable}
use Rattle.clfs_rows.proofs.storable_states.places_that_files_hold.Goals as goal

pub returns : goal.returns
unfolding grown has_room fine_outcome request_in digits decode_pairs encode_with
returns c = record {
  behind_the_last_block = yes (is_storable (with_place (sealed arranged_log.place) arranged_log)) refl;
  in_the_next_container = yes (is_storable (with_place (closed_at 3 0) arranged_log)) refl;
  in_the_last_container_of_all = yes (is_storable (with_place last_of_all arranged_log)) refl;
  not_further_on = no (is_storable (with_place (closed_at 2 2048) arranged_log)) refl;
  not_before_the_last_block = no (is_storable (with_place (closed_at 2 1024) arranged_log)) refl;
  not_with_other_bytes_in_the_block = no (is_storable (with_place (open_at 1024 64 1) arranged_log)) refl;
  not_with_other_records_in_the_block = no (is_storable (with_place (open_at 1024 56 2) arranged_log)) refl;
  not_within_the_next_container = no (is_storable (with_place (closed_at 3 512) arranged_log)) refl;
  not_in_an_earlier_container = no (is_storable (with_place (closed_at 1 0) arranged_log)) refl;
  not_above_the_last_container_of_all = no (is_storable (with_place (closed_at 4294967296 0) arranged_log)) refl;
}
