use Rattle.std.proofs.Common.{refl}
use Rattle.std.specs.Fmt.{digits}
use Rattle.hex.specs.Hex.{decode_pairs, encode_with}
use Rattle.clfs_model.specs.Space.{grown, has_room}
use Rattle.clfs_model.specs.Script.{request_in}
use Rattle.clfs_model.specs.Run.{fine_outcome}
use Rattle.clfs_operations.proofs.rows.ends_of_lines.Goals as goal

pub returns : goal.returns
unfolding grown has_room request_in fine_outcome digits decode_pairs encode_with
returns c = record { no_line = refl; no_last_line_feed = refl; one_carriage_return = refl; empty_line = refl; space_at_the_end = refl }
