use Rattle.clfs_rows.proofs.Words.{refl, digits, decode_pairs, encode_with, grown, has_room, null_lsn, fine_outcome, request_in, state_behind}
use Rattle.clfs_rows.proofs.Words.{with_other_data, read_log, second_record, codes}
use Rattle.clfs_model.specs.declared.reply.Reply.TheVariants as replies
use Rattle.std.specs.Prelude.{true}
use Rattle.clfs_rows.proofs.Decisions.{yes, no}
use Rattle.clfs_rows.proofs.ReplyTests.{found, next, may_reply}
use Rattle.clfs_rows.proofs.untold_replies.what_a_disk_that_tells_gives.Goals as goal

pub returns : goal.returns
unfolding grown has_room fine_outcome request_in digits decode_pairs encode_with
returns c = record {
  as_it_is = yes (may_reply true read_log (codes "1 read 1 1:200:0 forward") (replies.Found 3 second_record)
      (state_behind read_log (codes "1 read 1 1:200:0 forward")) (found 3 second_record)) refl;
  none_with_other_data = no (may_reply true read_log (codes "1 read 1 1:200:0 forward") (replies.Found 3 (with_other_data second_record))
      (state_behind read_log (codes "1 read 1 1:200:0 forward")) (found 3 (with_other_data second_record))) refl;
  none_with_another_link = no (may_reply true read_log (codes "1 read 1 1:200:0 forward")
      (replies.Found 3 (record second_record { previous = null_lsn })) (state_behind read_log (codes "1 read 1 1:200:0 forward"))
      (found 3 (record second_record { previous = null_lsn }))) refl;
  reading_on = yes (may_reply true read_log (codes "1 next 1 1") (replies.Next second_record) (state_behind read_log (codes "1 next 1 1"))
      (next second_record)) refl;
  none_with_other_data_in_reading_on = no (may_reply true read_log (codes "1 next 1 1") (replies.Next (with_other_data second_record))
      (state_behind read_log (codes "1 next 1 1")) (next (with_other_data second_record))) refl;
}
