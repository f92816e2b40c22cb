use Rattle.clfs_rows.proofs.Words.{refl, digits, decode_pairs, encode_with, grown, has_room, null_lsn, fine_outcome, request_in, an_area, with_areas}
use Rattle.clfs_rows.proofs.Words.{two_containers, with_base, opened_log, ◌∷◌, []}
use Rattle.clfs_rows.proofs.Decisions.{yes, no}
use Rattle.clfs_rows.proofs.ValidTests.{is_valid}
use Rattle.clfs_rows.proofs.valid_states.space_of_a_log.Goals as goal

pub returns : goal.returns
unfolding grown has_room fine_outcome request_in digits decode_pairs encode_with
returns c = record {
  containers_in_use = no (is_valid (record (with_base null_lsn two_containers) { containers = 1 })) refl;
  all_that_is_free = yes (is_valid (with_areas (record an_area { held = 14 } ∷ []) opened_log)) refl;
  no_more_than_is_free = no (is_valid (with_areas (record an_area { held = 15 } ∷ []) opened_log)) refl;
  two_containers = no (is_valid (record (with_areas (record an_area { held = 1 } ∷ []) opened_log) { containers = 1 })) refl;
  nothing_of_one_container = yes (is_valid (record opened_log { containers = 1 })) refl;
}
