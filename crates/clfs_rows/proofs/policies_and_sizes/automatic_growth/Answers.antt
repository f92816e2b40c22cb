use Rattle.clfs_rows.proofs.Words.{refl, digits, decode_pairs, encode_with, grown, has_room, fine_outcome, request_in}
use Rattle.clfs_rows.proofs.policies_and_sizes.automatic_growth.Goals as goal

pub returns : goal.returns
unfolding grown has_room fine_outcome request_in digits decode_pairs encode_with
returns c = record {
  up_to_the_maximum = refl;
  for_reservations = refl;
  steps_that_pass_the_maximum = refl;
  a_step_that_meets_the_maximum = refl;
  no_growth_without_the_policy = refl;
  for_a_restart_area = refl;
}
