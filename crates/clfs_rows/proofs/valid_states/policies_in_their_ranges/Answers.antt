use Rattle.clfs_rows.proofs.Words.{refl, digits, decode_pairs, encode_with, grown, has_room, fine_outcome, request_in, worked, Some}
use Rattle.clfs_rows.proofs.Decisions.{yes, no}
use Rattle.clfs_rows.proofs.ValidTests.{is_valid}
use Rattle.clfs_rows.proofs.valid_states.policies_in_their_ranges.Goals as goal

pub returns : goal.returns
unfolding grown has_room fine_outcome request_in digits decode_pairs encode_with
returns c = record {
  maximum_from_2 = no (is_valid (record worked { maximum = Some 1 })) refl;
  maximum_up_to_256 = no (is_valid (record worked { maximum = Some 257 })) refl;
  minimum_from_2 = no (is_valid (record worked { minimum = Some 1 })) refl;
  minimum_up_to_256 = no (is_valid (record worked { minimum = Some 257 })) refl;
  in_order = no (is_valid (record worked { maximum = Some 3; minimum = Some 4 })) refl;
  one_at_both = yes (is_valid (record worked { maximum = Some 3; minimum = Some 3 })) refl;
  growth_from_1 = no (is_valid (record worked { growth = Some 0 })) refl;
  growth_up_to_254 = no (is_valid (record worked { growth = Some 255 })) refl;
}
