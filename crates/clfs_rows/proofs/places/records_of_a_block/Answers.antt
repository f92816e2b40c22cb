use Rattle.clfs_rows.proofs.Words.{refl, digits, decode_pairs, encode_with, grown, has_room, fine_outcome, request_in}
use Rattle.clfs_rows.proofs.places.records_of_a_block.Goals as goal

pub returns : goal.returns
unfolding grown has_room fine_outcome request_in digits decode_pairs encode_with
returns c = record { fresh_log = refl; first_record = refl; second_record_joins = refl; empty_record = refl; no_record_is_longer_than_a_block = refl }
