use Rattle.clfs_rows.proofs.Words.{refl, digits, decode_pairs, encode_with, grown, has_room, lsn_number, fine_outcome, request_in, Forward, Records}
use Rattle.clfs_rows.proofs.Words.{RestartAreas, an_area, arranged_log, cursor_at, with_areas, with_cursors, worked, replicate, ◌∷◌, []}
use Rattle.clfs_rows.proofs.Decisions.{no, yes}
use Rattle.clfs_rows.proofs.StorableTests.{is_storable}
use Rattle.clfs_rows.proofs.storable_states.cursors_within_limits.Goals as goal

pub returns : goal.returns
unfolding grown has_room fine_outcome request_in digits decode_pairs encode_with
returns c = record {
  the_most_reads = yes (is_storable (with_areas (record an_area { reads = 16 } ∷ []) worked)) refl;
  no_area_for_0_cursors = no (is_storable (with_areas (record an_area { reads = 0 } ∷ []) worked)) refl;
  no_area_for_17_cursors = no (is_storable (with_areas (record an_area { reads = 17 } ∷ []) worked)) refl;
  two_cursors = yes (is_storable (with_cursors (cursor_at 2 (Records Forward) (lsn_number 1 0 0) ∷ cursor_at 1 RestartAreas (lsn_number 2 512 0)
      ∷ []) arranged_log)) refl;
  no_three_cursors_of_two = no (is_storable (with_cursors (replicate 3 (cursor_at 1 (Records Forward) (lsn_number 1 0 0))) arranged_log)) refl;
  no_cursor_0 = no (is_storable (with_cursors (cursor_at 0 (Records Forward) (lsn_number 1 0 0) ∷ []) arranged_log)) refl;
  no_cursor_3_of_two = no (is_storable (with_cursors (cursor_at 3 (Records Forward) (lsn_number 1 0 0) ∷ []) arranged_log)) refl;
  no_cursor_without_a_record = no (is_storable (with_cursors (cursor_at 1 (Records Forward) (lsn_number 1 0 1) ∷ []) arranged_log)) refl;
  no_cursor_at_another_streams_record = no (is_storable (with_areas (record an_area
      { stream = 2; cursors = cursor_at 1 (Records Forward) (lsn_number 1 0 0) ∷ [] } ∷ []) arranged_log)) refl;
  a_cursor_over_records_at_a_restart_area = yes (is_storable (with_cursors (cursor_at 1 (Records Forward) (lsn_number 2 512 0) ∷ []) arranged_log)) refl;
  no_cursor_over_restart_areas_at_a_plain_record = no (is_storable (with_cursors (cursor_at 1 RestartAreas (lsn_number 1 0 0) ∷ []) arranged_log)) refl;
}
