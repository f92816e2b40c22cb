use Rattle.clfs_rows.proofs.Words.{refl, digits, decode_pairs, encode_with, grown, has_room, lsn_number, null_lsn, fine_outcome, request_in, open_log}
use Rattle.clfs_rows.proofs.Words.{with_place, with_records, with_link_to_itself, closed_at, empty_record, ◌∷◌, []}
use Rattle.clfs_rows.proofs.Decisions.{no}
use Rattle.clfs_rows.proofs.ValidTests.{is_valid}
use Rattle.clfs_rows.proofs.valid_states.records_of_a_log.Goals as goal

pub returns : goal.returns
unfolding grown has_room fine_outcome request_in digits decode_pairs encode_with
returns c = record {
  rising = no (is_valid (with_records (empty_record 1 ∷ empty_record 0 ∷ []) (closed_at 1 512))) refl;
  not_twice = no (is_valid (with_records (empty_record 0 ∷ empty_record 0 ∷ []) (closed_at 1 512))) refl;
  a_records_stream = no (is_valid (with_records (record (empty_record 0) { stream = 2 } ∷ []) (closed_at 1 512))) refl;
  no_record_without_a_stream = no (is_valid (with_records (record (empty_record 0) { stream = 0 } ∷ []) (closed_at 1 512))) refl;
  above_null = no (is_valid (with_records (record (empty_record 0) { lsn = null_lsn } ∷ []) (closed_at 1 512))) refl;
  below_the_place = no (is_valid (with_records (record (empty_record 0) { lsn = lsn_number 1 1024 0 } ∷ []) (closed_at 1 512))) refl;
  previous_below_it = no (is_valid (with_records (with_link_to_itself (empty_record 0) ∷ []) (closed_at 1 512))) refl;
  undo_next_below_it = no (is_valid (with_records (record (empty_record 0) { undo_next = lsn_number 1 0 0 } ∷ []) (closed_at 1 512))) refl;
  as_many_as_the_place_says = no (is_valid (with_place (record (closed_at 1 0) { used = 80; records = 2 }) open_log)) refl;
  one_behind_the_other = no (is_valid (with_records (empty_record 1 ∷ []) (record (closed_at 1 0) { used = 48; records = 1 }))) refl;
}
