use Rattle.clfs_rows.proofs.Words.{refl, digits, decode_pairs, encode_with, grown, has_room, lsn_number, null_lsn, Restart, fine_outcome, request_in}
use Rattle.clfs_rows.proofs.Words.{state_behind, with_other_data, read_log, second_record, codes}
use Rattle.clfs_model.specs.declared.reply.Reply.TheVariants as replies
use Rattle.clfs_rows.specs.ReadAnew.{restart_area, restart_log}
use Rattle.std.specs.Prelude.{false}
use Rattle.clfs_rows.proofs.Decisions.{yes, no}
use Rattle.clfs_rows.proofs.ReplyTests.{found, next, may_reply}
use Rattle.clfs_rows.proofs.untold_replies.records_that_are_read_from_it.Goals as goal

pub returns : goal.returns
unfolding grown has_room fine_outcome request_in digits decode_pairs encode_with
returns c = record {
  what_is_flushed = refl;
  as_it_is = yes (may_reply false read_log (codes "1 read 1 1:200:0 forward") (replies.Found 3 second_record)
      (state_behind read_log (codes "1 read 1 1:200:0 forward")) (found 3 second_record)) refl;
  other_data = yes (may_reply false read_log (codes "1 read 1 1:200:0 forward") (replies.Found 3 (with_other_data second_record))
      (state_behind read_log (codes "1 read 1 1:200:0 forward")) (found 3 (with_other_data second_record))) refl;
  another_stream = yes (may_reply false read_log (codes "1 read 1 1:200:0 forward") (replies.Found 3 (record second_record { stream = 7 }))
      (state_behind read_log (codes "1 read 1 1:200:0 forward")) (found 3 (record second_record { stream = 7 }))) refl;
  another_kind = yes (may_reply false read_log (codes "1 read 1 1:200:0 forward") (replies.Found 3 (record second_record { kind = Restart }))
      (state_behind read_log (codes "1 read 1 1:200:0 forward")) (found 3 (record second_record { kind = Restart }))) refl;
  another_previous_link = yes (may_reply false read_log (codes "1 read 1 1:200:0 forward")
      (replies.Found 3 (record second_record { previous = null_lsn })) (state_behind read_log (codes "1 read 1 1:200:0 forward"))
      (found 3 (record second_record { previous = null_lsn }))) refl;
  another_undo_next_link = yes (may_reply false read_log (codes "1 read 1 1:200:0 forward")
      (replies.Found 3 (record second_record { undo_next = null_lsn })) (state_behind read_log (codes "1 read 1 1:200:0 forward"))
      (found 3 (record second_record { undo_next = null_lsn }))) refl;
  another_new_base = yes (may_reply false read_log (codes "1 read 1 1:200:0 forward")
      (replies.Found 3 (record second_record { new_base = lsn_number 1 0 0 })) (state_behind read_log (codes "1 read 1 1:200:0 forward"))
      (found 3 (record second_record { new_base = lsn_number 1 0 0 }))) refl;
  no_other_lsn = no (may_reply false read_log (codes "1 read 1 1:200:0 forward") (replies.Found 3 (record second_record { lsn = lsn_number 1 512 1 }))
      (state_behind read_log (codes "1 read 1 1:200:0 forward")) (found 3 (record second_record { lsn = lsn_number 1 512 1 }))) refl;
  no_other_cursor = no (may_reply false read_log (codes "1 read 1 1:200:0 forward") (replies.Found 4 second_record)
      (state_behind read_log (codes "1 read 1 1:200:0 forward")) (found 4 second_record)) refl;
  no_other_state = no (may_reply false read_log (codes "1 read 1 1:200:0 forward") (replies.Found 3 second_record) read_log (found 3 second_record)) refl;
  reading_on = yes (may_reply false read_log (codes "1 next 1 1") (replies.Next (with_other_data second_record))
      (state_behind read_log (codes "1 next 1 1")) (next (with_other_data second_record))) refl;
  no_other_lsn_in_reading_on = no (may_reply false read_log (codes "1 next 1 1") (replies.Next (record second_record { lsn = lsn_number 1 0 0 }))
      (state_behind read_log (codes "1 next 1 1")) (next (record second_record { lsn = lsn_number 1 0 0 }))) refl;
  no_other_state_in_reading_on = no (may_reply false read_log (codes "1 next 1 1") (replies.Next second_record) read_log (next second_record)) refl;
  a_restart_area_as_it_is = yes (may_reply false restart_log (codes "1 readrestart 1") (replies.Found 3 restart_area)
      (state_behind restart_log (codes "1 readrestart 1")) (found 3 restart_area)) refl;
  a_restart_area = yes (may_reply false restart_log (codes "1 readrestart 1") (replies.Found 3 (with_other_data restart_area))
      (state_behind restart_log (codes "1 readrestart 1")) (found 3 (with_other_data restart_area))) refl;
  no_restart_area_of_another_lsn = no (may_reply false restart_log (codes "1 readrestart 1")
      (replies.Found 3 (record restart_area { lsn = lsn_number 1 1024 0 })) (state_behind restart_log (codes "1 readrestart 1"))
      (found 3 (record restart_area { lsn = lsn_number 1 1024 0 }))) refl;
}
