use Rattle.clfs_rows.proofs.Words.{refl, digits, decode_pairs, encode_with, grown, has_room, fine_outcome, request_in}
use Rattle.clfs_rows.proofs.archive.where_archiving_begins.Goals as goal

pub returns : goal.returns
unfolding grown has_room fine_outcome request_in digits decode_pairs encode_with
returns c = record { at_a_live_record = refl; at_the_least_of_all_streams = refl; where_the_next_record_comes = refl; once_only = refl }
