use Rattle.clfs_rows.proofs.Words.{refl, digits, decode_pairs, encode_with, grown, has_room, fine_outcome, request_in, inr, Step, ReopenStep, with_broken}
use Rattle.clfs_rows.proofs.Words.{opened_log, flushed_log}
use Rattle.clfs_rows.proofs.BrokenLog.{fault_breaks, no_fault_without_disk, no_fault_where_refused}
use Rattle.clfs_rows.proofs.faults.what_a_fault_leaves.Goals as goal

pub returns : goal.returns
unfolding Step ReopenStep grown has_room fine_outcome request_in digits decode_pairs encode_with
returns c = record {
  fault_then_broken =
      (with_broken opened_log, (inr (refl, (refl, (refl, refl))), (with_broken opened_log, ((refl, refl), (with_broken opened_log, ((refl, refl), refl))))));
  damage_then_broken =
      (with_broken flushed_log, (inr (refl, (refl, (tt, refl))), (with_broken flushed_log, ((refl, refl), refl))));
  opened_again = refl;
  every_fault = fault_breaks;
  no_fault_of_other_calls = no_fault_without_disk;
  no_fault_of_refused_calls = no_fault_where_refused;
}
