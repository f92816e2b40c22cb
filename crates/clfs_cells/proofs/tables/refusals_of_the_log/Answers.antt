use Rattle.clfs_cells.proofs.Words.{refl, digits, decode_pairs, encode_with, grown, has_room, fine_outcome, request_in, txn_call_in, fine_load, fine_call}
use Rattle.clfs_cells.proofs.Words.{call_without_memory}
use Rattle.clfs_cells.proofs.tables.refusals_of_the_log.Goals as goal

pub returns : goal.returns
unfolding grown has_room fine_outcome request_in digits decode_pairs encode_with txn_call_in fine_load fine_call call_without_memory
returns c = record { another_stream = (refl, refl, refl); one_container = (refl, refl, refl); no_room = (refl, refl, refl) }
