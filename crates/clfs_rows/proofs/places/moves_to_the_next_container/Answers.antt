use Rattle.clfs_rows.proofs.Words.{refl, digits, decode_pairs, encode_with, grown, has_room, fine_outcome, request_in}
use Rattle.clfs_rows.proofs.places.moves_to_the_next_container.Goals as goal

pub returns : goal.returns
unfolding grown has_room fine_outcome request_in digits decode_pairs encode_with
returns c = record { a_sector_is_skipped = refl; a_small_record_takes_the_last_sector = refl; a_full_container_is_left_by_the_next_record = refl }
