use Rattle.clfs_rows.proofs.Words.{refl, digits, decode_pairs, encode_with, grown, has_room, fine_outcome, request_in}
use Rattle.clfs_rows.proofs.order_of_refusals.refusals_of_appends.Goals as goal

pub returns : goal.returns
unfolding grown has_room fine_outcome request_in digits decode_pairs encode_with
returns c = record {
  area_before_data = refl;
  data_before_sizes = refl;
  first_size_that_is_too_long = refl;
  sizes_before_links = refl;
  previous_before_undo_next = refl;
  links_before_what_is_held = refl;
  what_is_held_before_room = refl;
  length_before_room = refl;
}
