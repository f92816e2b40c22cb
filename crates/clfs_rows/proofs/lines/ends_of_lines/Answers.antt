use Rattle.clfs_rows.proofs.Words.{refl, digits, decode_pairs, encode_with, grown, has_room, fine_outcome, request_in}
use Rattle.clfs_rows.proofs.lines.ends_of_lines.Goals as goal

pub returns : goal.returns
unfolding grown has_room fine_outcome request_in digits decode_pairs encode_with
returns c = record { empty_script = refl; last_line_without_a_line_feed = refl; empty_lines = refl; one_carriage_return = refl; a_second_carriage_return = refl }
