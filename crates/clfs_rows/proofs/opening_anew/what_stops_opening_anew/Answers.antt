use Rattle.clfs_rows.proofs.Words.{refl, inl, inr, digits, decode_pairs, encode_with, grown, has_room, fine_outcome, request_in, ReopenStep, Step}
use Rattle.clfs_rows.proofs.BrokenLog.{opening_fault_breaks, opening_want_changes_nothing, broken_is_not_opened, opening_damage_breaks}
use Rattle.clfs_rows.proofs.opening_anew.what_stops_opening_anew.Goals as goal

pub returns : goal.returns
unfolding Step ReopenStep grown has_room fine_outcome request_in digits decode_pairs encode_with
returns c = record {
  a_fault = inr (refl, refl);
  every_fault = opening_fault_breaks;
  damage = inr (tt, refl);
  every_damage = opening_damage_breaks;
  want_of_memory = inl (refl, refl);
  every_want_of_memory = opening_want_changes_nothing;
  a_broken_log = (refl, refl);
  every_broken_log = broken_is_not_opened;
}
