use Rattle.std.proofs.Common.{refl}
use Rattle.std.specs.Fmt.{digits}
use Rattle.hex.specs.Hex.{encode_with}
use Rattle.clfs_trial.proofs.rows.appends.Goals as goal

pub returns : goal.returns
unfolding digits encode_with
returns c = record { no_bytes = refl; one_byte = refl; two_letters_and_digits = refl; draw_one = refl; draw_two = refl; draw_three = refl; draw_four = refl; draw_five = refl; draw_six = refl; draw_seven = refl; draw_eight = refl; draw_nine = refl }
