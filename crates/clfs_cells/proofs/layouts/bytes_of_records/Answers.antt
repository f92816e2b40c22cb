use Rattle.clfs_cells.proofs.Words.{refl, digits, decode_pairs, encode_with, grown, has_room, fine_outcome, request_in, txn_call_in, fine_load, fine_call}
use Rattle.clfs_cells.proofs.Words.{call_without_memory}
use Rattle.clfs_cells.proofs.layouts.bytes_of_records.Goals as goal

pub returns : goal.returns
unfolding grown has_room fine_outcome request_in digits decode_pairs encode_with txn_call_in fine_load fine_call call_without_memory
returns c = record { set = refl; compensation = refl; commit = refl; rolled_back = refl; short = refl; long = refl; no_tag = refl; fifth_tag = refl; no_zero = refl; no_transaction = refl; no_cell = refl; no_cell_of_two_bytes = refl; end_with_a_cell = refl; end_with_an_old_value = refl; end_with_a_new_value = refl }
