use Rattle.clfs_rows.proofs.Words.{refl, digits, decode_pairs, encode_with, grown, has_room, fine_outcome, request_in}
use Rattle.clfs_rows.proofs.BrokenLog.{broken_answers_broken}
use Rattle.clfs_rows.proofs.faults.what_a_broken_log_answers.Goals as goal

pub returns : goal.returns
unfolding grown has_room fine_outcome request_in digits decode_pairs encode_with
returns c = record { lines = refl; every_call = broken_answers_broken }
