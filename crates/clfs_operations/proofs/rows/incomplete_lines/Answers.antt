use Rattle.std.proofs.Common.{refl}
use Rattle.clfs_operations.proofs.rows.incomplete_lines.Goals as goal

pub returns : goal.returns
returns c = record { counts = refl; dropped = refl; alone = refl; whole = refl; empty_line = refl }
