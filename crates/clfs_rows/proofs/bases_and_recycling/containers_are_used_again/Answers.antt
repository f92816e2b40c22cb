use Rattle.clfs_rows.proofs.Words.{refl, digits, decode_pairs, encode_with, grown, has_room, fine_outcome, request_in}
use Rattle.clfs_rows.proofs.bases_and_recycling.containers_are_used_again.Goals as goal

pub returns : goal.returns
unfolding grown has_room fine_outcome request_in digits decode_pairs encode_with
returns c = record { when_both_streams_have_left = refl; by_a_restart_area = refl; where_nothing_is_live = refl; a_stream_without_records_holds_nothing = refl }
