use Rattle.std.proofs.Common.{refl}
use Rattle.std.specs.Fmt.{digits}
use Rattle.hex.specs.Hex.{decode_pairs, encode_with}
use Rattle.clfs_model.specs.Space.{grown, has_room}
use Rattle.clfs_model.specs.Script.{request_in}
use Rattle.clfs_model.specs.Run.{fine_outcome}
use Rattle.clfs_operations.proofs.rows.areas.Goals as goal

pub returns : goal.returns
unfolding grown has_room request_in fine_outcome digits decode_pairs encode_with
returns c = record { client = refl; area = refl }
