use Rattle.clfs_rows.proofs.Words.{refl, digits, decode_pairs, encode_with, grown, has_room, fine_outcome, request_in}
use Rattle.clfs_rows.proofs.names_and_limits.names_of_streams.Goals as goal

pub returns : goal.returns
unfolding grown has_room fine_outcome request_in digits decode_pairs encode_with
returns c = record { bytes_of_a_name = refl; longest_name = refl; empty_name = refl; bytes_above_127 = refl; opened_before = refl }
