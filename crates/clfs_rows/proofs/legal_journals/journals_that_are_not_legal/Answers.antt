use Rattle.clfs_rows.proofs.Words.{refl, true, arith, digits, decode_pairs, encode_with, grown, has_room, Step, ReopenStep, fine_outcome, request_in, codes}
use Rattle.clfs_rows.proofs.Words.{lsn_number, opened_log, with_other_data, behind_first, behind_read, read_log, second_record}
use Rattle.clfs_model.specs.declared.reply.Reply.TheVariants as replies
use Rattle.clfs_rows.specs.Interleaved.{first_entry, read_entry}
use Rattle.clfs_rows.proofs.Decisions.{no}
use Rattle.clfs_rows.proofs.SameStates.{same_state}
use Rattle.clfs_rows.proofs.ReplyTests.{may_reply, found, placed}
use Rattle.clfs_rows.proofs.OneEntry.{step_of_entry}
use Rattle.clfs_rows.proofs.legal_journals.journals_that_are_not_legal.Goals as goal

pub returns : goal.returns
unfolding Step ReopenStep grown has_room fine_outcome request_in digits decode_pairs encode_with
returns c = record {
  a_first_number_of_two = λ legal. let number = legal.1.0.number in absurd (omega (arith, number));
  a_first_number_of_none = λ legal. let number = legal.1.0.number in absurd (omega (arith, number));
  a_number_twice = λ legal. let number = legal.1.1.1.1.1.0.number in absurd (omega (arith, number));
  a_number_left_out = λ legal. let number = legal.1.1.1.1.1.0.number in absurd (omega (arith, number));
  one_count_of_all_clients = λ legal. let number = legal.1.1.1.0.number in absurd (omega (arith, number));
  want_of_memory = λ legal. legal.1.0.no_want refl;
  another_reply = λ legal.
      no (may_reply true opened_log (codes "1 append 1 aa 0:0:0 0:0:0") (replies.Placed (lsn_number 1 0 1)) behind_first (placed (lsn_number 1 0 1))) refl
      (step_of_entry true opened_log (record first_entry { reply = replies.Placed (lsn_number 1 0 1) }) behind_first legal);
  another_last_state = λ legal.
      no (may_reply true opened_log (codes "1 append 1 aa 0:0:0 0:0:0") (replies.Placed (lsn_number 1 0 0)) opened_log (placed (lsn_number 1 0 0))) refl
      (step_of_entry true opened_log first_entry opened_log legal);
  another_last_state_without_entries = λ legal. no (same_state behind_first opened_log) refl legal;
  over_a_disk_that_tells = λ legal.
      no (may_reply true read_log (codes "1 read 1 1:200:0 forward") (replies.Found 3 (with_other_data second_record)) behind_read
      (found 3 (with_other_data second_record))) refl
      (step_of_entry true read_log (read_entry (with_other_data second_record)) behind_read legal);
}
