use Rattle.clfs_rows.proofs.Words.{refl, digits, decode_pairs, encode_with, grown, has_room, lsn_number, fine_outcome, request_in, with_records, closed_at}
use Rattle.clfs_rows.proofs.Words.{waiting_log, with_base, Some, ◌∷◌, []}
use Rattle.clfs_rows.specs.Arranged.{empty_restart}
use Rattle.clfs_rows.proofs.Decisions.{yes, no}
use Rattle.clfs_rows.proofs.ValidTests.{is_valid}
use Rattle.clfs_rows.proofs.valid_states.what_is_stable.Goals as goal

pub returns : goal.returns
unfolding grown has_room fine_outcome request_in digits decode_pairs encode_with
returns c = record {
  bases = no (is_valid (with_base (lsn_number 1 1024 1) waiting_log)) refl;
  a_base_at_flushed = yes (is_valid (with_base (lsn_number 1 1024 0) waiting_log)) refl;
  restart_areas = no (is_valid (with_records (empty_restart 0 ∷ []) (record (closed_at 1 0) { used = 48; records = 1 }))) refl;
  a_restart_area_below_flushed = yes (is_valid (with_records (empty_restart 0 ∷ []) (closed_at 1 512))) refl;
  the_tail = no (is_valid (record waiting_log { archive = Some (lsn_number 1 1024 1) })) refl;
  a_tail_at_flushed = yes (is_valid (record waiting_log { archive = Some (lsn_number 1 1024 0) })) refl;
}
