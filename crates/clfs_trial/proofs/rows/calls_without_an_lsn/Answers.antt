use Rattle.std.proofs.Common.{refl}
use Rattle.std.specs.Fmt.{digits}
use Rattle.hex.specs.Hex.{encode_with}
use Rattle.clfs_trial.proofs.rows.calls_without_an_lsn.Goals as goal

pub returns : goal.returns
unfolding digits encode_with
returns c = record { one_reserve = refl; another_reserve = refl; a_third_reserve = refl; one_release = refl; another_release = refl; a_third_release = refl; one_flush = refl; another_flush = refl; a_third_flush = refl; one_restart = refl; another_restart = refl; a_third_restart = refl; one_info = refl; another_info = refl; a_third_info = refl; greatest_number = refl }
