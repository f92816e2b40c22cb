use Rattle.clfs_rows.proofs.Words.{refl, digits, decode_pairs, encode_with, grown, has_room, fine_outcome, request_in}
use Rattle.clfs_rows.proofs.order_of_refusals.refusals_of_restart_areas.Goals as goal

pub returns : goal.returns
unfolding grown has_room fine_outcome request_in digits decode_pairs encode_with
returns c = record { area_before_data = refl; data_before_base = refl; base_before_what_is_held = refl; what_is_held = refl; base_before_room = refl }
