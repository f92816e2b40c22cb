use Rattle.clfs_rows.proofs.Words.{refl, digits, decode_pairs, encode_with, grown, has_room, lsn_number, null_lsn, fine_outcome, request_in, open_log}
use Rattle.clfs_rows.proofs.Words.{two_containers, long_log, waiting_log, with_base, ◌∷◌, []}
use Rattle.clfs_rows.proofs.Decisions.{yes, no}
use Rattle.clfs_rows.proofs.ValidTests.{is_valid}
use Rattle.clfs_rows.proofs.valid_states.blocks_that_wait.Goals as goal

pub returns : goal.returns
unfolding grown has_room fine_outcome request_in digits decode_pairs encode_with
returns c = record {
  fewer_than_buffers = no (is_valid (record waiting_log { buffers = 1 })) refl;
  one_fewer = yes (is_valid (record waiting_log { buffers = 2 })) refl;
  rising = no (is_valid (record waiting_log { waiting = lsn_number 1 1024 0 ∷ lsn_number 1 512 0 ∷ [] })) refl;
  in_the_places_container = no (is_valid (record (with_base null_lsn two_containers) { waiting = lsn_number 1 0 0 ∷ [] })) refl;
  by_their_first_record = no (is_valid (record waiting_log { waiting = lsn_number 1 1024 1 ∷ [] })) refl;
  which_is_there = no (is_valid (record long_log { waiting = lsn_number 1 2048 0 ∷ [] })) refl;
  below_the_open_block = no (is_valid (record open_log { waiting = lsn_number 1 0 0 ∷ [] })) refl;
}
