use Rattle.clfs_cells.proofs.Words.{refl, digits, decode_pairs, encode_with, grown, has_room, fine_outcome, request_in, txn_call_in, fine_load, fine_call}
use Rattle.clfs_cells.proofs.Words.{call_without_memory}
use Rattle.clfs_cells.proofs.tables.committed_cells.Goals as goal

pub returns : goal.returns
unfolding grown has_room fine_outcome request_in digits decode_pairs encode_with txn_call_in fine_load fine_call call_without_memory
returns c = record { none = refl; one = refl; one_of_two = refl; open_ones = refl; with_open_ones = refl; taken_back = refl; rolled_back_and_flushed = refl; above_a_checkpoint = refl }
