use Rattle.clfs_rows.proofs.Words.{refl, digits, decode_pairs, encode_with, grown, has_room, lsn_number, null_lsn, fine_outcome, request_in, Forward, Records}
use Rattle.clfs_rows.proofs.Words.{an_area, arranged_log, cursor_at, with_areas, with_cursors, streams_of, opened_log, worked, codes, ◌∷◌, []}
use Rattle.std.specs.Prelude.{true}
use Rattle.clfs_rows.proofs.Decisions.{yes, no}
use Rattle.clfs_rows.proofs.ValidTests.{is_valid}
use Rattle.clfs_rows.proofs.valid_states.tables_of_a_log.Goals as goal

pub returns : goal.returns
unfolding grown has_room fine_outcome request_in digits decode_pairs encode_with
returns c = record {
  different_names = no (is_valid (record worked {
    streams = record { name = codes "a"; base = null_lsn } ∷ record
        { name = codes "a"; base = null_lsn } ∷ [];
  })) refl;
  different_numbers_of_areas = no (is_valid (with_areas (an_area ∷ an_area ∷ []) opened_log)) refl;
  areas_of_different_clients = yes (is_valid (with_areas (an_area ∷ record an_area { client = 2 } ∷ []) opened_log)) refl;
  areas_of_one_client = yes (is_valid (with_areas (an_area ∷ record an_area { number = 2 } ∷ []) opened_log)) refl;
  an_areas_stream = no (is_valid (with_areas (record an_area { stream = 2 } ∷ []) opened_log)) refl;
  an_areas_largest_record = no (is_valid (with_areas (record an_area { largest = 961 } ∷ []) opened_log)) refl;
  different_numbers_of_cursors = no (is_valid (with_cursors (cursor_at 1 (Records Forward) (lsn_number 1 0 0) ∷ cursor_at 1 (Records Forward)
      (lsn_number 1 0 0) ∷ []) arranged_log)) refl;
  one_stream_of_a_dedicated_log = yes (is_valid (record (streams_of 1) { dedicated = true })) refl;
  two_streams_of_another = yes (is_valid (streams_of 2)) refl;
  no_two_streams_of_a_dedicated_log = no (is_valid (record (streams_of 2) { dedicated = true })) refl;
}
