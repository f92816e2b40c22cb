use Rattle.clfs_rows.proofs.Words.{refl, digits, decode_pairs, encode_with, grown, has_room, lsn_number, fine_outcome, request_in, two_containers}
use Rattle.clfs_rows.proofs.Words.{with_one_changed, without_first, without_one, with_base, with_other_data, Some}
use Rattle.clfs_rows.proofs.Decisions.{yes, no}
use Rattle.clfs_rows.proofs.SameTests.{is_same}
use Rattle.clfs_rows.proofs.sameness.records_that_are_compared.Goals as goal

pub returns : goal.returns
unfolding grown has_room fine_outcome request_in digits decode_pairs encode_with
returns c = record {
  the_hold = refl;
  itself = yes (is_same two_containers two_containers) refl;
  none_in_the_first_container = yes (is_same two_containers (without_first 8 two_containers)) refl;
  none_in_the_first_container_either = yes (is_same (without_first 8 two_containers) two_containers) refl;
  fewer_in_the_first_container = yes (is_same two_containers (without_one 3 two_containers)) refl;
  another_one_in_the_first_container = yes (is_same two_containers (with_one_changed with_other_data 7 two_containers)) refl;
  not_another_one_below_the_hold = no (is_same two_containers (with_one_changed with_other_data 8 two_containers)) refl;
  not_another_one_at_the_hold = no (is_same two_containers (with_one_changed with_other_data 9 two_containers)) refl;
  not_another_one_above_the_hold = no (is_same two_containers (with_one_changed with_other_data 10 two_containers)) refl;
  not_without_one_below_the_hold = no (is_same two_containers (without_one 8 two_containers)) refl;
  not_without_the_last = no (is_same two_containers (without_one 10 two_containers)) refl;
  not_with_the_hold_in_another_container = no (is_same (with_base 0 two_containers) (without_first 8 (with_base 0 two_containers))) refl;
  not_where_the_tail_holds_the_first_container = no (is_same (record two_containers { archive = Some (lsn_number 1 512 0) })
      (record (without_first 8 two_containers) { archive = Some (lsn_number 1 512 0) })) refl;
}
