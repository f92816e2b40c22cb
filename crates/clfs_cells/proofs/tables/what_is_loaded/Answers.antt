use Rattle.clfs_cells.proofs.Words.{refl, digits, decode_pairs, encode_with, grown, has_room, fine_outcome, request_in, txn_call_in, fine_load, fine_call}
use Rattle.clfs_cells.proofs.Words.{call_without_memory}
use Rattle.clfs_cells.proofs.tables.what_is_loaded.Goals as goal

pub returns : goal.returns
unfolding grown has_room fine_outcome request_in digits decode_pairs encode_with txn_call_in fine_load fine_call call_without_memory
returns c = record {
  new = (refl, refl, refl, refl);
  committed = (refl, refl, refl, refl);
  open_ones = (refl, refl, refl, refl);
  by_a_compensation = (refl, refl, refl, refl);
  below_a_restart_area = (refl, refl, refl, refl);
}
