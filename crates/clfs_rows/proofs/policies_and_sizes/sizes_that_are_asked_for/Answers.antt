use Rattle.clfs_rows.proofs.Words.{refl, digits, decode_pairs, encode_with, grown, has_room, fine_outcome, request_in}
use Rattle.clfs_rows.proofs.policies_and_sizes.sizes_that_are_asked_for.Goals as goal

pub returns : goal.returns
unfolding grown has_room fine_outcome request_in digits decode_pairs encode_with
returns c = record {
  a_minimum_above_the_size = refl;
  a_maximum_below_the_size = refl;
  two_at_least = refl;
  no_more_than_256 = refl;
  those_in_use = refl;
  those_for_what_areas_hold = refl;
  what_a_dropped_area_held = refl;
}
