use Rattle.clfs_rows.proofs.Words.{refl, digits, decode_pairs, encode_with, grown, has_room, lsn_number, Restart, fine_outcome, request_in, state_behind}
use Rattle.clfs_rows.proofs.Words.{with_other_data, read_log, second_record, codes}
use Rattle.clfs_model.specs.declared.reply.Reply.TheVariants as replies
use Rattle.clfs_rows.specs.ReadAnew.{third_record}
use Rattle.std.specs.Prelude.{false}
use Rattle.clfs_rows.proofs.Decisions.{yes, no}
use Rattle.clfs_rows.proofs.ReplyTests.{found, next, may_reply, placed}
use Rattle.clfs_rows.proofs.untold_replies.what_is_given_as_it_is.Goals as goal

pub returns : goal.returns
unfolding grown has_room fine_outcome request_in digits decode_pairs encode_with
returns c = record {
  a_record_that_is_not_flushed = yes (may_reply false read_log (codes "1 read 1 1:400:0 forward") (replies.Found 3 third_record)
      (state_behind read_log (codes "1 read 1 1:400:0 forward")) (found 3 third_record)) refl;
  none_with_other_data = no (may_reply false read_log (codes "1 read 1 1:400:0 forward") (replies.Found 3 (with_other_data third_record))
      (state_behind read_log (codes "1 read 1 1:400:0 forward")) (found 3 (with_other_data third_record))) refl;
  none_with_another_link = no (may_reply false read_log (codes "1 read 1 1:400:0 forward")
      (replies.Found 3 (record third_record { previous = lsn_number 1 0 0 })) (state_behind read_log (codes "1 read 1 1:400:0 forward"))
      (found 3 (record third_record { previous = lsn_number 1 0 0 }))) refl;
  none_of_another_kind = no (may_reply false read_log (codes "1 read 1 1:400:0 forward") (replies.Found 3 (record third_record { kind = Restart }))
      (state_behind read_log (codes "1 read 1 1:400:0 forward")) (found 3 (record third_record { kind = Restart }))) refl;
  reading_on = yes (may_reply false read_log (codes "1 next 1 2") (replies.Next third_record) (state_behind read_log (codes "1 next 1 2"))
      (next third_record)) refl;
  none_with_other_data_in_reading_on = no (may_reply false read_log (codes "1 next 1 2") (replies.Next (with_other_data third_record))
      (state_behind read_log (codes "1 next 1 2")) (next (with_other_data third_record))) refl;
  no_record_where_there_is_none = no (may_reply false read_log (codes "1 read 1 1:600:0 forward") (replies.Found 3 second_record) read_log
      (found 3 second_record)) refl;
  the_lsn_of_a_new_record = yes (may_reply false read_log (codes "1 append 1 dd 0:0:0 0:0:0") (replies.Placed (lsn_number 1 1024 1))
      (state_behind read_log (codes "1 append 1 dd 0:0:0 0:0:0")) (placed (lsn_number 1 1024 1))) refl;
  no_other_lsn_of_a_new_record = no (may_reply false read_log (codes "1 append 1 dd 0:0:0 0:0:0") (replies.Placed (lsn_number 1 1024 2))
      (state_behind read_log (codes "1 append 1 dd 0:0:0 0:0:0")) (placed (lsn_number 1 1024 2))) refl;
}
