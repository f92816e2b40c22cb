use Rattle.std.proofs.Common.{refl}
use Rattle.std.specs.Fmt.{digits}
use Rattle.hex.specs.Hex.{encode_with}
use Rattle.clfs_trial.proofs.rows.advances.Goals as goal

pub returns : goal.returns
unfolding digits encode_with
returns c = record { one_advance = refl; another_advance = refl; a_third_advance = refl; told_at_first = refl; told_twice = refl; told_last = refl; told_none_since = refl }
