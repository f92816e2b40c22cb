use Rattle.clfs_rows.proofs.Words.{refl, digits, decode_pairs, encode_with, grown, has_room, fine_outcome, request_in}
use Rattle.clfs_rows.proofs.reservations.reserved_records.Goals as goal

pub returns : goal.returns
unfolding grown has_room fine_outcome request_in digits decode_pairs encode_with
returns c = record { all_is_reserved = refl; nothing_is_held = refl; a_record_spends_its_own_sectors = refl; sizes_held_by_an_append = refl }
