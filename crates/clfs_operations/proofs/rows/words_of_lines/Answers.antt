use Rattle.std.proofs.Common.{refl}
use Rattle.std.specs.Fmt.{digits}
use Rattle.hex.specs.Hex.{decode_pairs, encode_with}
use Rattle.clfs_model.specs.Space.{grown, has_room}
use Rattle.clfs_model.specs.Script.{request_in}
use Rattle.clfs_model.specs.Run.{fine_outcome}
use Rattle.clfs_operations.proofs.rows.words_of_lines.Goals as goal

pub returns : goal.returns
unfolding grown has_room request_in fine_outcome digits decode_pairs encode_with
returns c = record { no_record = refl; offset = refl; sequence = refl; leading_zero = refl; no_verb = refl; opening = refl; options = refl; links = refl; modes = refl; upper_case = refl; odd_digits = refl }
