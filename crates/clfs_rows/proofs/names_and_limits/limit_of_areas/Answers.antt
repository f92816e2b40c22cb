use Rattle.clfs_rows.proofs.Words.{refl, digits, decode_pairs, encode_with, grown, has_room, fine_outcome, request_in}
use Rattle.clfs_rows.proofs.names_and_limits.limit_of_areas.Goals as goal

pub returns : goal.returns
unfolding grown has_room fine_outcome request_in digits decode_pairs encode_with
returns c = record { the_seventeenth = refl; stream_before_largest = refl; largest_of_the_area = refl; of_each_client = refl }
