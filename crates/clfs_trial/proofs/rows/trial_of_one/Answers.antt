use Rattle.std.proofs.Common.{refl}
use Rattle.std.specs.Fmt.{digits}
use Rattle.hex.specs.Hex.{encode_with}
use Rattle.clfs_trial.proofs.rows.trial_of_one.Goals as goal

pub returns : goal.returns
unfolding digits encode_with
returns c = record { first_draw = refl; second_draw = refl; opening = refl; first_line = refl }
