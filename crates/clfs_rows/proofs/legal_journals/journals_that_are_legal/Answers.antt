use Rattle.clfs_rows.proofs.Words.{refl, inr, false, digits, decode_pairs, encode_with, grown, has_room, Step, ReopenStep, with_broken, fine_outcome}
use Rattle.clfs_rows.proofs.Words.{request_in, with_other_data, behind_first, behind_read, codes, read_log, second_record}
use Rattle.clfs_rows.specs.Interleaved.{behind_second, behind_third}
use Rattle.clfs_model.specs.declared.reply.Reply.TheVariants as replies
use Rattle.clfs_rows.proofs.Decisions.{yes}
use Rattle.clfs_rows.proofs.ReplyTests.{may_reply, found}
use Rattle.clfs_rows.proofs.legal_journals.journals_that_are_legal.Goals as goal

pub returns : goal.returns
unfolding Step ReopenStep grown has_room fine_outcome request_in digits decode_pairs encode_with
returns c = record {
  none = refl;
  of_two_clients = (
    behind_first,
    (
      record { step = inr (refl, refl); no_want = λ e. absurd (cc); number = refl },
      (
        behind_second,
        (
          record { step = inr (refl, refl); no_want = λ e. absurd (cc); number = refl },
          (behind_third, (record { step = inr (refl, refl); no_want = λ e. absurd (cc); number = refl }, refl)),
        ),
      ),
    ),
  );
  a_fault = (
    behind_first,
    (
      record { step = inr (refl, refl); no_want = λ e. absurd (cc); number = refl },
      (
        with_broken behind_first,
        (
          record { step = inr (refl, (refl, (refl, refl))); no_want = λ e. absurd (cc); number = refl },
          (with_broken behind_first, (record { step = (refl, refl); no_want = λ e. absurd (cc); number = refl }, refl)),
        ),
      ),
    ),
  );
  over_a_disk_that_does_not_tell = (
    behind_read,
    (
      record {
        step = yes (may_reply false read_log (codes "1 read 1 1:200:0 forward") (replies.Found 3 (with_other_data second_record)) behind_read
            (found 3 (with_other_data second_record))) refl;
        no_want = λ e. absurd (cc);
        number = refl;
      },
      refl,
    ),
  );
}
