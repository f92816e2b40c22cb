use Rattle.clfs_dump.proofs.Words.{refl, digits, encode_with}
use Rattle.clfs_dump.proofs.rows.lines_of_a_small_log.Goals as goal

pub returns : goal.returns
unfolding digits encode_with
returns c = record { hex = refl; nothing = refl; text = refl }
