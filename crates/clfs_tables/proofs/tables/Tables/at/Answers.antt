use Rattle.std.proofs.Common.{◌∙◌}
use Rattle.clfs_tables.proofs.Kept.{found_kept}
use Rattle.clfs_tables.proofs.tables.Tables.at.Goals as goal

pub returns : goal.returns
returns c = c.in_ok-found.ensures.head ∙ found_kept c.args.self.now.low c.args.lsn _ _ c.row.ensures.kept c.requires.kept
