use Rattle.clfs_rows.proofs.Words.{refl, digits, decode_pairs, encode_with, grown, has_room, fine_outcome, request_in}
use Rattle.clfs_rows.proofs.reservations.room_that_is_wanted.Goals as goal

pub returns : goal.returns
unfolding grown has_room fine_outcome request_in digits decode_pairs encode_with
returns c = record {
  sizes_need_room_before_the_record_spends = refl;
  a_record_that_would_join_needs_its_sectors = refl;
  a_record_and_its_sizes = refl;
  up_to_the_last_free_sector = refl;
  a_dropped_area_frees_its_sectors = refl;
  reserved_by_all_areas = refl;
}
