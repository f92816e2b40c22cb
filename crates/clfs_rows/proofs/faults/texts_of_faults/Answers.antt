use Rattle.clfs_rows.proofs.Words.{refl, digits, decode_pairs, encode_with, grown, has_room, fine_outcome, request_in}
use Rattle.clfs_rows.proofs.faults.texts_of_faults.Goals as goal

pub returns : goal.returns
unfolding grown has_room fine_outcome request_in digits decode_pairs encode_with
returns c = record { fault_of_the_disk = refl; damage = refl; want_of_memory = refl; lines_that_take_memory = refl; lines_that_take_none = refl }
